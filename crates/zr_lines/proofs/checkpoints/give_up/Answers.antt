use Rattle.std.proofs.Common.{inl, refl}
use Rattle.zr_shelf.proofs.Runs.{still}
use Rattle.zr_lines.proofs.Resetting.{given_up}
use Rattle.zr_sync.specs.Heads.{IsSeen}
use Rattle.zr_lines.proofs.Lasting.{without_last, without_leaves}
use Rattle.zr_lines.proofs.checkpoints.give_up.Goals as goal

pub returns-clause-shown : goal.returns-clause-shown
returns-clause-shown g c = λ told.
    let old = c.args.shelf.now in
    let new = c.give_up_checkpoint.new.shelf in
    without_last (g.S.Shelf.sizes old) (g.S.Shelf.world old) (g.S.Shelf.world new) c.args.pool.now c.give_up_checkpoint.new.pool (c.in_ok-give_up_checkpoint.ensures.commits told)

pub returns-clause-ends : goal.returns-clause-ends
returns-clause-ends g c = λ objects h.
    let old = c.args.shelf.now in
    let new = c.give_up_checkpoint.new.shelf in
    let done = c.in_ok-give_up_checkpoint.ensures in
    let seen : IsSeen (g.S.Shelf.tells old) (g.S.Shelf.world old).now.seen c.args.pool.now = record { told = h.held.told; read = h.held.read } in
    without_leaves (g.S.Shelf.sizes old) (g.S.Shelf.tells old) (g.S.Shelf.world old) (g.S.Shelf.world new) c.args.pool.now c.give_up_checkpoint.new.pool (done.commits h.held.told) done.gives done.empty (done.stands seen) (done.safe seen)

-- ---- wherever it stops

pub returns-in_err-demand_to_give-clause-stops : goal.returns-in_err-demand_to_give-clause-stops
returns-in_err-demand_to_give-clause-stops g c = λ objects h. inl (inl (still (g.S.Shelf.world c.args.shelf.now) (g.S.Shelf.world c.args.shelf.now) refl))

pub returns-in_err-give_up_checkpoint-clause-stops : goal.returns-in_err-give_up_checkpoint-clause-stops
returns-in_err-give_up_checkpoint-clause-stops g c = λ objects h. given_up (g.S.Shelf.sizes c.args.shelf.now) objects c.args.pool.now (g.S.Shelf.world c.args.shelf.now) (g.S.Shelf.world c.give_up_checkpoint.new.shelf) (c.give_up_checkpoint.ensures.leads objects h)

pub returns-clause-stops : goal.returns-clause-stops
returns-clause-stops g c = λ objects h. given_up (g.S.Shelf.sizes c.args.shelf.now) objects c.args.pool.now (g.S.Shelf.world c.args.shelf.now) (g.S.Shelf.world c.give_up_checkpoint.new.shelf) (c.give_up_checkpoint.ensures.leads objects h)
