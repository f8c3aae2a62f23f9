use Rattle.zr_vdev.proofs.Moves.{reader_freed}
use Rattle.zr_vdev.proofs.reader.ReaderBlocks.free.Goals as goal

pub returns-clause-ok : goal.returns-clause-ok
returns-clause-ok g c = λ s held are.
    let v = c.args.self.now in
    reader_freed v.slots.now (g.S.Shelf.tells v.shelf.now) (g.S.Shelf.world v.shelf.now).now.seen v.space.now v.cache.now c.args._b.now s held are
