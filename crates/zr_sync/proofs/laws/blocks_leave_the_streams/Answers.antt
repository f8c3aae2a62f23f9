use Rattle.zr_sync.proofs.Regrouping.{blocks_leave}
use Rattle.zr_sync.proofs.laws.blocks_leave_the_streams.Goals as goal

pub returns : goal.returns
returns g c = λ before after old new o wrote trees.
    blocks_leave (g.S.Shelf.sizes before) (g.S.Shelf.sizes after) (g.S.Shelf.counts before) (g.S.Shelf.counts after) (g.S.Shelf.tells before) (g.S.Shelf.tells after) (g.S.Shelf.world before) (g.S.Shelf.world after) old new o wrote trees
