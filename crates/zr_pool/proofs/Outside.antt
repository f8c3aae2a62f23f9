-- Work on the disks leaves paths, input and output as they were.
use Rattle.zr_shelf.specs.Disks.{Stand}
use Rattle.zr_shelf.specs.Moments.{World}
use Rattle.zr_shelf.proofs.Doings.{IsQuiet, quiet_throughout}
use Rattle.zr_shelf.proofs.Runs.{weaker}
use Rattle.zr_model.specs.Runs.{IsOutside, KeepsOutside}
use Rattle.zr_sync.specs.Writes.{WorksOnDisks}

quiet_outside : (old new : Stand) → IsQuiet old new → IsOutside old new
quiet_outside old new q = record { paths = q.paths; left = q.left; sent = q.sent }

pub keeps_outside : (old new : World) → WorksOnDisks old new → KeepsOutside old new
keeps_outside old new works =
    let quiet = quiet_throughout (λ _. Unit {0}) old new works in
    record {
      now = quiet_outside old.now new.now quiet.1;
      since = weaker (IsQuiet old.now) (IsOutside old.now) old new (quiet_outside old.now) quiet.0;
    }
