-- What a crash leaves of a pool's last root while its group is open.
use Rattle.std.proofs.Common.{◌≡◌, ℕ, List, length, map, Option, ◌∙◌}
use Rattle.zr_label.specs.declared.root.Uber.{Uber}
use Rattle.zr_model.specs.Objects.{Objects}
use Rattle.zr_newest.specs.Newest.{IsNewestOn}
use Rattle.zr_shelf.proofs.Doings.{added_throughout}
use Rattle.zr_shelf.proofs.Runs.{weaker}
use Rattle.zr_shelf.specs.Disks.{PendingWrite, Stand}
use Rattle.zr_shelf.specs.Doings.{Adds}
use Rattle.zr_shelf.specs.Moments.{Throughout, World}
use Rattle.zr_sync.specs.Writes.{WritesIntoFree}
use Rattle.zr_sync.specs.declared.open.OpenPool.{OpenPool}
use Rattle.zr_vdev.specs.Stores.{IsWriteInto}
use Rattle.zr_vdev.specs.declared.kind.Kind.TheVariants.{Block}
use Rattle.zr_stops.proofs.Kept as kept
use Rattle.zr_stops.proofs.Kept.{LeavesAlone, StandsLast, committed_stands, own_alone}
use Rattle.zr_stops.specs.Behind.{StandsChanged}
use Rattle.zr_stops.specs.Last.{HasLast, IsCommitted, LeavesLast}

module _ (sizes : List ℕ) (u : Uber) (pool : OpenPool) (objects : Objects) (start : Stand) (was : IsCommitted sizes start u pool objects) where
  -- what the lines of the group may write
  abbrev pub Allowed : PendingWrite → Type 0
  Allowed = IsWriteInto Block pool.table.slots pool.space

  abbrev pub stands : StandsLast sizes start u pool objects
  stands = committed_stands sizes start u pool objects was

  abbrev pub alone : LeavesAlone sizes pool Allowed
  alone = own_alone sizes pool was.ready

  abbrev pub IsPending : Stand → Type 0
  IsPending = kept.IsPending sizes u pool objects start stands Allowed alone

  abbrev pub KeepsClear : List (List ℕ) → Type 0
  KeepsClear = kept.KeepsClear sizes u pool objects start stands Allowed alone

  pub pending_step : (a b : Stand) → Adds Allowed a b → IsPending a → IsPending b
  pending_step a b adds h = kept.pending_step sizes u pool objects start stands Allowed alone a b adds h

  pub seen_step : (a b : Stand) → Adds Allowed a b → KeepsClear a.seen → KeepsClear b.seen
  seen_step a b adds h = kept.seen_step sizes u pool objects start stands Allowed alone a b adds h

  pub within_pending : (old : OpenPool) (now : Stand) → StandsChanged pool start old now → IsPending now
  within_pending old now within = (within.durable, within.writes)

  pub within_clear : (old : OpenPool) (now : Stand) → StandsChanged pool start old now → KeepsClear now.seen
  within_clear old now within =
      record { same_sizes = within.seen.sizes; part_kept = λ slot at n clear. within.seen.bytes slot at n (kept.clear_of_all sizes u pool objects start stands Allowed alone slot at n clear now.writes within.writes) }

  pub newest_kept : (image : List (List ℕ)) → KeepsClear image → IsNewestOn image u pool.table.slots
  newest_kept image keeps = kept.newest_kept sizes u pool objects start stands Allowed alone image keeps

  pub last_kept : (image : List (List ℕ)) → KeepsClear image → HasLast image u pool objects
  last_kept image keeps = kept.last_kept sizes u pool objects start stands Allowed alone image keeps

  pub pending_leaves : (stand : Stand) → IsPending stand → LeavesLast u pool objects stand
  pending_leaves stand pending = kept.leaves sizes u pool objects start stands Allowed alone stand pending

-- at each moment from where the group began, and now
group_pending : (sizes : List ℕ) (u : Uber) (pool : OpenPool) (objects : Objects) (before now : World) (was : IsCommitted sizes before.now u pool objects) → WritesIntoFree pool before now
    → Throughout (IsPending sizes u pool objects before.now was) before now × IsPending sizes u pool objects before.now was now.now
group_pending sizes u pool objects before now was wrote =
    added_throughout (IsPending sizes u pool objects before.now was) (Allowed sizes u pool objects before.now was) (pending_step sizes u pool objects before.now was) before now wrote (kept.pending_start sizes u pool objects before.now (stands sizes u pool objects before.now was) (Allowed sizes u pool objects before.now was) (alone sizes u pool objects before.now was))

pub group_leaves : (sizes : List ℕ) (u : Uber) (pool : OpenPool) (objects : Objects) (before now : World) → IsCommitted sizes before.now u pool objects → WritesIntoFree pool before now → Throughout (LeavesLast u pool objects) before now
group_leaves sizes u pool objects before now was wrote =
    weaker (IsPending sizes u pool objects before.now was) (LeavesLast u pool objects) before now (pending_leaves sizes u pool objects before.now was) (group_pending sizes u pool objects before now was wrote).0

pub leaves_now : (sizes : List ℕ) (u : Uber) (pool : OpenPool) (objects : Objects) (before now : World) → IsCommitted sizes before.now u pool objects → WritesIntoFree pool before now → LeavesLast u pool objects now.now
leaves_now sizes u pool objects before now was wrote = pending_leaves sizes u pool objects before.now was now.now (group_pending sizes u pool objects before now was wrote).1

-- the disks read so too
pub group_reads : (sizes : List ℕ) (u : Uber) (pool : OpenPool) (objects : Objects) (before now : World) → IsCommitted sizes before.now u pool objects → WritesIntoFree pool before now → HasLast now.now.seen u pool objects
group_reads sizes u pool objects before now was wrote =
    last_kept sizes u pool objects before.now was now.now.seen
    (added_throughout (λ (s : Stand). KeepsClear sizes u pool objects before.now was s.seen) (Allowed sizes u pool objects before.now was) (seen_step sizes u pool objects before.now was) before now wrote (kept.seen_start sizes u pool objects before.now (stands sizes u pool objects before.now was) (Allowed sizes u pool objects before.now was) (alone sizes u pool objects before.now was))).1

pub group_sizes : (sizes : List ℕ) (u : Uber) (pool : OpenPool) (objects : Objects) (before now : World) → IsCommitted sizes before.now u pool objects → WritesIntoFree pool before now → map length now.now.seen ≡ sizes
group_sizes sizes u pool objects before now was wrote =
    (added_throughout (λ (s : Stand). KeepsClear sizes u pool objects before.now was s.seen) (Allowed sizes u pool objects before.now was) (seen_step sizes u pool objects before.now was) before now wrote (kept.seen_start sizes u pool objects before.now (stands sizes u pool objects before.now was) (Allowed sizes u pool objects before.now was) (alone sizes u pool objects before.now was))).1.same_sizes
    ∙ was.sized
