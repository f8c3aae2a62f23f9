-- Disks to which nothing but flushes was done.
use Rattle.std.proofs.Common.{◌≡◌, ℕ, List, Result, Ok, Err, refl, sym, subst}
use Rattle.zr_shelf.proofs.Doings.{kept_throughout}
use Rattle.zr_shelf.proofs.Guards.{does_flush, does_more, does_still, does_weaker}
use Rattle.zr_shelf.specs.Disks.{IsAtRest, PendingWrite, Stand}
use Rattle.zr_shelf.specs.Doings.{Follows}
use Rattle.zr_shelf.specs.Doings.Follows.{stood, wrote, flush}
use Rattle.zr_shelf.specs.Moments.{Flushes, IsStill, World}
use Rattle.zr_shelf.specs.declared.desk.DeskErr.{DeskErr}
use Rattle.zr_sync.specs.Writes.{WorksOnDisks}
use Rattle.zr_open.specs.Flushed.{FlushesOnly}

abbrev none : PendingWrite → Type 0
none = λ w. ⊥

pub flushes_call : (r : Result (Unit {0}) DeskErr) (a b : World) → Flushes r a b → FlushesOnly a b
flushes_call r a b call = does_flush none r a b call

pub flushes_still : (a b c : World) → FlushesOnly a b → IsStill b c → FlushesOnly a c
flushes_still a b c flushes still = does_more none a b c flushes (does_still none b c still)

pub flushes_work : (a b : World) → FlushesOnly a b → WorksOnDisks a b
flushes_work a b flushes = does_weaker none (λ w. Unit {0}) a b (λ w may. tt) flushes

-- they read as before
pub record ReadsSame (old new : Stand) : Type 0 where
  pub paths : new.paths ≡ old.paths
  pub seen : new.seen ≡ old.seen

same_step : (first old new : Stand) → Follows none old new → ReadsSame first old → ReadsSame first new
same_step first old new (stood is) h = subst (ReadsSame first) (sym is) h
same_step first old new (wrote w may written) h = absurd may
same_step first old new (flush is) h = subst (ReadsSame first) (sym is) (record { paths = h.paths; seen = h.seen })

pub flushes_read : (a b : World) → FlushesOnly a b → ReadsSame a.now b.now
flushes_read a b flushes = (kept_throughout (ReadsSame a.now) none (same_step a.now) a b flushes (record { paths = refl; seen = refl })).1

-- disks at rest that stay as they are are at rest
pub rests_still : (a b : World) → IsAtRest a.now → IsStill a b → IsAtRest b.now
rests_still a b rest still = subst IsAtRest (sym still.now) rest
