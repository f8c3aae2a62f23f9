use Rattle.std.proofs.Common.{inl, refl}
use Rattle.zr_shelf.proofs.Runs.{still}
use Rattle.zr_sync.specs.Heads.{IsSeen}
use Rattle.zr_lines.proofs.Lasting.{twice_last, twice_leaves}
use Rattle.zr_lines.proofs.Resetting.{taken}
use Rattle.zr_lines.proofs.checkpoints.take.Goals as goal

pub returns-clause-shown : goal.returns-clause-shown
returns-clause-shown g c = λ told.
    let old = c.args.shelf.now in
    let new = c.checkpoint.new.shelf in
    twice_last (g.S.Shelf.sizes old) (g.S.Shelf.world old) (g.S.Shelf.world new) c.args.pool.now c.checkpoint.new.pool (c.in_ok-checkpoint.ensures.commits told)

pub returns-clause-ends : goal.returns-clause-ends
returns-clause-ends g c = λ objects h.
    let old = c.args.shelf.now in
    let new = c.checkpoint.new.shelf in
    let done = c.in_ok-checkpoint.ensures in
    let seen : IsSeen (g.S.Shelf.tells old) (g.S.Shelf.world old).now.seen c.args.pool.now = record { told = h.held.told; read = h.held.read } in
    twice_leaves (g.S.Shelf.sizes old) (g.S.Shelf.tells old) (g.S.Shelf.world old) (g.S.Shelf.world new) c.args.pool.now c.checkpoint.new.pool (done.commits h.held.told) done.takes done.empty (done.stands seen) (done.safe seen)

-- ---- wherever it stops

pub returns-in_err-demand_to_take-clause-stops : goal.returns-in_err-demand_to_take-clause-stops
returns-in_err-demand_to_take-clause-stops g c = λ objects h. inl (inl (still (g.S.Shelf.world c.args.shelf.now) (g.S.Shelf.world c.args.shelf.now) refl))

pub returns-in_err-checkpoint-clause-stops : goal.returns-in_err-checkpoint-clause-stops
returns-in_err-checkpoint-clause-stops g c = λ objects h. taken (g.S.Shelf.sizes c.args.shelf.now) objects c.args.pool.now (g.S.Shelf.world c.args.shelf.now) (g.S.Shelf.world c.checkpoint.new.shelf) (c.checkpoint.ensures.leads objects h)

pub returns-clause-stops : goal.returns-clause-stops
returns-clause-stops g c = λ objects h. taken (g.S.Shelf.sizes c.args.shelf.now) objects c.args.pool.now (g.S.Shelf.world c.args.shelf.now) (g.S.Shelf.world c.checkpoint.new.shelf) (c.checkpoint.ensures.leads objects h)
