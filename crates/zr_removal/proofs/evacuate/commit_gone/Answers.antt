use Rattle.zr_removal.proofs.GoneTrees.{trees_untold}
use Rattle.zr_removal.proofs.evacuate.commit_gone.Goals as goal

pub returns-then-anew-clause-trees : goal.returns-then-anew-clause-trees
returns-then-anew-clause-trees g c = λ trees. c.commit_anew.ensures.trees (trees_untold (g.S.Shelf.tells c.args.shelf.now) (g.S.Shelf.world c.args.shelf.now).now.seen c.args.pool.now trees)
