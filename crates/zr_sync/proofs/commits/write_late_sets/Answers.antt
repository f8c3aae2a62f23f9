use Rattle.std.proofs.Common.{Bool, sym, subst}
use Rattle.std.specs.Prelude.{OnOk}
use Rattle.zr_sync.specs.Trees.{HoldsStreams, giving, laying, settling}
use Rattle.zr_sync.proofs.LateTrees.{all_given}
use Rattle.zr_sync.proofs.Progress.{restaged}
use Rattle.zr_sync.proofs.commits.write_late_sets.Goals as goal

pub returns-clause-trees : goal.returns-clause-trees
returns-clause-trees g c = λ first cond others h.
    let pool = c.args.pool.now in
    let count = pool.table.count in
    let n = c.write_lates.new in
    let given = restaged (giving first count) (laying 0) cond others (g.S.Shelf.tells c.args.shelf.now) (g.S.Shelf.world c.args.shelf.now).now.seen pool (λ e p lt. all_given first count e p lt) h in
    subst (λ (b : Bool). OnOk c.write_lates.result (HoldsStreams (settling first b count) cond others (g.S.Shelf.tells n.shelf) (g.S.Shelf.world n.shelf).now.seen n.pool)) (sym c.if-reset.false) (c.write_lates.ensures.trees cond others given)
