use Rattle.std.proofs.Common.{[], refl}
use Rattle.std.proofs.lemmas.Result.{on_ok_weaker}
use Rattle.zr_sync.proofs.HeadTrees.{head_given, head_is_stored}
use Rattle.zr_sync.proofs.late.give_head.Goals as goal

pub returns-clause-trees : goal.returns-clause-trees
returns-clause-trees g c = λ stage cond bytes none h.
    let x = c.args.pool.now in
    let stored = head_is_stored stage cond (g.S.Shelf.tells c.args.shelf.now) (g.S.Shelf.world c.args.shelf.now).now.seen x x.head bytes [] h in
    on_ok_weaker c.give_tree.result
    (λ gives. head_given stage cond (g.S.Shelf.tells c.args.shelf.now) _ (g.S.Shelf.world c.args.shelf.now).now.seen _ x _ (record { version = refl; turned = refl; lawful_old = c.requires.pool.lawful; lawful = c.give_tree.ensures.continues.space.rows.lawful c.requires.pool.lawful }) c.give_tree.ensures.continues.space refl refl refl bytes [] x.head none h gives)
    (c.give_tree.ensures.gives h.stored h.held stored)
