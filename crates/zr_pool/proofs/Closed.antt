-- A pool that is closed: what a commit left stays there, as long as nothing is done but flushes.
use Rattle.std.proofs.Common.{◌≡◌, inl, inr, ℕ, Bool, List, [], length, map, refl, sym, ◌∙◌, ap, subst}
use Rattle.zr_command.specs.Meanings.{Disks, disks_of}
use Rattle.zr_last.proofs.Ending.{commit_rests}
use Rattle.zr_sync.specs.Ends.{EndsCommitted}
use Rattle.zr_model.specs.Objects.{Objects}
use Rattle.zr_open.specs.Flushed.{FlushesOnly}
use Rattle.zr_shelf.proofs.Doings.{kept_throughout}
use Rattle.zr_shelf.specs.Disks.{Stand}
use Rattle.zr_shelf.specs.Doings.{Follows}
use Rattle.zr_shelf.specs.Doings.Follows.{stood, wrote, flush}
use Rattle.zr_shelf.specs.Moments.{Throughout, World}
use Rattle.zr_stops.proofs.Behind.{behind_shows}
use Rattle.zr_stops.proofs.Within.{same_behind}
use Rattle.zr_stops.specs.Behind.{StandsBehind}
use Rattle.zr_sync.specs.Pools.{IsOpen}
use Rattle.zr_sync.specs.declared.open.OpenPool.{OpenPool}
use Rattle.zr_pool.specs.Behind.{LeavesOnly}
use Rattle.zr_pool.specs.Pools.{IsClosedBehind, IsUnwritten, stand_of}

-- ---- flushes where nothing is pending

-- the disks stand so
pub record StandsAs (d : Disks) (s : Stand) : Type 0 where
  pub durable : s.durable ≡ d.durable
  pub writes : s.writes ≡ d.writes
  pub seen : s.seen ≡ d.seen

-- so they do where nothing was written, and nothing is pending
pub stands_as : (d : Disks) (s : Stand) → d.durable ≡ d.seen → d.writes ≡ [] → IsUnwritten d (disks_of s) → StandsAs d s
stands_as d s rest none (inl same) = record { durable = ap (λ (x : Disks). x.durable) same; writes = ap (λ (x : Disks). x.writes) same; seen = ap (λ (x : Disks). x.seen) same }
stands_as d s rest none (inr same) = record { durable = ap (λ (x : Disks). x.durable) same ∙ sym rest; writes = ap (λ (x : Disks). x.writes) same ∙ sym none; seen = ap (λ (x : Disks). x.seen) same }

as_they_are : (s : Stand) → StandsAs (disks_of s) s
as_they_are s = record { durable = refl; writes = refl; seen = refl }

flushed_as : (d : Disks) → d.durable ≡ d.seen → d.writes ≡ [] → (a b : Stand) → Follows (λ _. ⊥) a b → StandsAs d a → StandsAs d b
flushed_as d rest none a b (stood is) h = subst (StandsAs d) (sym is) h
flushed_as d rest none a b (wrote w never written) h = absurd never
flushed_as d rest none a b (flush is) h = subst (StandsAs d) (sym is) (record { durable = h.seen ∙ sym rest; writes = sym none; seen = h.seen })

pub flushes_keep : (old new : World) (objects : Objects) → IsClosedBehind (disks_of old.now) objects → FlushesOnly old new → Throughout (StandsAs (disks_of old.now)) old new × StandsAs (disks_of old.now) new.now
flushes_keep old new objects closed flushes = kept_throughout (StandsAs (disks_of old.now)) (λ _. ⊥) (flushed_as (disks_of old.now) closed.durable closed.writes) old new flushes (as_they_are old.now)

-- ---- a pool that was closed behind a commit

pub still_closed : (d : Disks) (s : Stand) (objects : Objects) → StandsAs d s → IsClosedBehind d objects → IsClosedBehind (disks_of s) objects
still_closed d s objects same h = record {
  pool = h.pool;
  behind =
      subst (λ (n : List ℕ). StandsBehind n objects h.pool (stand_of (disks_of s))) (ap (λ (x : List (List ℕ)). map length x) (sym same.seen))
      (same_behind (map length d.seen) objects h.pool (stand_of d) (stand_of (disks_of s)) (record { durable = same.durable; writes = same.writes; seen = same.seen }) h.behind);
  durable = same.durable ∙ (h.durable ∙ sym same.seen);
  writes = same.writes ∙ h.writes;
}

pub closed_shows : (d : Disks) (objects : Objects) → IsClosedBehind d objects → LeavesOnly objects d
closed_shows d objects h = behind_shows (map length d.seen) objects h.pool (stand_of d) h.behind

-- ---- the commit of an export

pub closed_behind : (sizes : List ℕ) (reset : Bool) (old new : OpenPool) (objects : Objects) (before now : World) → IsOpen sizes old → EndsCommitted sizes reset old new objects before now → StandsBehind (map length now.now.seen) objects new (stand_of (disks_of now.now)) → IsClosedBehind (disks_of now.now) objects
closed_behind sizes reset old new objects before now ready ends behind =
    let rest = commit_rests sizes sizes old new before now ready ends.pool ends.txg ends.written in
    record { pool = new; behind = behind; durable = sym rest.seen; writes = rest.writes }
