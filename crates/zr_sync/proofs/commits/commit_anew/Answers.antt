use Rattle.std.proofs.Common.{◌≡◌, true, false, refl}
use Rattle.zr_sync.specs.Trees.{HasTrees}
use Rattle.zr_sync.specs.Trees.Stage.{Untold}
use Rattle.zr_sync.proofs.Leading.{committed_told}
use Rattle.zr_sync.proofs.commits.commit_anew.Goals as goal

pub returns-clause-trees : goal.returns-clause-trees
returns-clause-trees g c = λ trees. c.commit_with.ensures.trees refl trees

pub returns-clause-moves : goal.returns-clause-moves
returns-clause-moves g c = λ trees. c.commit_with.ensures.moves refl trees

pub returns-clause-leads : goal.returns-clause-leads
returns-clause-leads g c = λ objects h.
    let old = c.args.shelf.now in
    let x = c.args.pool.now in
    let trees = HasTrees Untold (Unit {0}) (g.S.Shelf.world old).now.seen x in
    committed_told ((false ≡ false) × trees) trees (g.S.Shelf.sizes old) x true objects (g.S.Shelf.world old) (g.S.Shelf.world c.commit_with.new.shelf) (λ are. (refl, are)) (c.commit_with.ensures.leads objects h)
