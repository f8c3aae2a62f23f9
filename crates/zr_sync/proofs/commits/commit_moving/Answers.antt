use Rattle.std.proofs.Common.{◌≡◌, true, false}
use Rattle.zr_sync.specs.Trees.{HasTrees}
use Rattle.zr_sync.specs.Trees.Stage.{Untold}
use Rattle.zr_sync.proofs.Leading.{committed_told}
use Rattle.zr_sync.proofs.commits.commit_moving.Goals as goal

pub returns-clause-leads : goal.returns-clause-leads
returns-clause-leads g c = λ objects h.
    let old = c.args.shelf.now in
    let x = c.args.pool.now in
    committed_told ((true ≡ false) × HasTrees Untold (Unit {0}) (g.S.Shelf.world old).now.seen x) ⊥ (g.S.Shelf.sizes old) x true objects (g.S.Shelf.world old) (g.S.Shelf.world c.commit_with.new.shelf) (λ never. absurd never) (c.commit_with.ensures.leads objects h)
