use Rattle.zr_shelf.proofs.Doings.{writes_still, writes_more}
use Rattle.zr_vdev.specs.Puts.{IsWriteOf}
use Rattle.zr_vdev.proofs.copy.carry.Goals as goal

pub returns-in_err-bytes-clause-writes : goal.returns-in_err-bytes-clause-writes
returns-in_err-bytes-clause-writes g c = λ told. writes_still (IsWriteOf c.args.slots.now c.args.to.now) (g.S.Shelf.world c.args.shelf.now) (g.S.Shelf.world c.read_all.new.shelf) (c.read_all.ensures.still told)

pub returns-clause-writes : goal.returns-clause-writes
returns-clause-writes g c = λ told.
    let allowed = IsWriteOf c.args.slots.now c.args.to.now in
    writes_more allowed (g.S.Shelf.world c.args.shelf.now) (g.S.Shelf.world c.read_all.new.shelf) (g.S.Shelf.world c.write_at.new.shelf)
    (writes_still allowed (g.S.Shelf.world c.args.shelf.now) (g.S.Shelf.world c.read_all.new.shelf) (c.read_all.ensures.still told)) (c.write_at.ensures.writes (c.read_all.ensures.told told))
