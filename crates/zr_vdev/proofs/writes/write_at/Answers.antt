use Rattle.std.proofs.Common.{refl}
use Rattle.zr_label.specs.Geometry.{unit_at}
use Rattle.zr_shelf.proofs.Doings.{writes_write}
use Rattle.zr_vdev.specs.Puts.{IsWriteOf}
use Rattle.zr_vdev.proofs.writes.write_at.Goals as goal

pub returns-in-Ok-clause-writes : goal.returns-in-Ok-clause-writes
returns-in-Ok-clause-writes g c = λ told.
    writes_write (IsWriteOf c.args.slots.now c.args.at.now) (record { slot = c.requires.disk.slot; at = unit_at c.args.at.now.start; bytes = c.args.bytes.now }) c.write_run.result
    (g.S.Shelf.world c.args.shelf.now) (g.S.Shelf.world c.write_run.new.shelf) (record { slot = c.requires.disk.is; at = refl; size = c.requires.size }) (c.write_run.ensures.writes told c.requires.disk.slot c.requires.disk.is)

pub returns-in-Err-Failed-clause-writes : goal.returns-in-Err-Failed-clause-writes
returns-in-Err-Failed-clause-writes g c = λ told.
    writes_write (IsWriteOf c.args.slots.now c.args.at.now) (record { slot = c.requires.disk.slot; at = unit_at c.args.at.now.start; bytes = c.args.bytes.now }) c.write_run.result
    (g.S.Shelf.world c.args.shelf.now) (g.S.Shelf.world c.write_run.new.shelf) (record { slot = c.requires.disk.is; at = refl; size = c.requires.size }) (c.write_run.ensures.writes told c.requires.disk.slot c.requires.disk.is)

pub returns-in-Err-NoMemory-clause-writes : goal.returns-in-Err-NoMemory-clause-writes
returns-in-Err-NoMemory-clause-writes g c = λ told.
    writes_write (IsWriteOf c.args.slots.now c.args.at.now) (record { slot = c.requires.disk.slot; at = unit_at c.args.at.now.start; bytes = c.args.bytes.now }) c.write_run.result
    (g.S.Shelf.world c.args.shelf.now) (g.S.Shelf.world c.write_run.new.shelf) (record { slot = c.requires.disk.is; at = refl; size = c.requires.size }) (c.write_run.ensures.writes told c.requires.disk.slot c.requires.disk.is)
