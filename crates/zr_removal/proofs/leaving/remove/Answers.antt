use Rattle.std.proofs.Common.{◌∙◌, inl, inr, refl}
use Rattle.zr_last.proofs.Ending.{leaves_by}
use Rattle.zr_shelf.proofs.Runs.{still}
use Rattle.zr_sync.specs.Heads.{IsSeen}
use Rattle.zr_removal.proofs.Outgoing.{objects_out, out_last}
use Rattle.zr_removal.proofs.Standing.{copies_out}
use Rattle.zr_removal.proofs.leaving.remove.Goals as goal

pub commit_moving-requires : goal.commit_moving-requires
commit_moving-requires g c = record { pool = c.in_ok-leave.ensures.pool (g.S.Shelf.sizes c.args.shelf.now) c.requires.pool }

pub returns-clause-begins : goal.returns-clause-begins
returns-clause-begins g c = record {
  left = c.leave.new.pool;
  leaves = c.in_ok-leave.ensures.leaves;
  same = c.in_ok-commit_moving.ensures.same;
  root = c.in_ok-commit_moving.ensures.last;
  resets = c.in_ok-commit_moving.ensures.ends;
  shown = c.in_ok-commit_moving.ensures.shown;
}

pub returns-clause-ckpt : goal.returns-clause-ckpt
returns-clause-ckpt g c = c.in_ok-commit_moving.ensures.same.ckpt ∙ c.in_ok-leave.ensures.leaves.leaves.elsewhere.ckpt

pub returns-clause-objects : goal.returns-clause-objects
returns-clause-objects g c = λ objects h.
    let old = c.args.shelf.now in
    c.in_ok-commit_moving.ensures.stays objects (objects_out c.args.pool.now c.leave.new.pool c.args.dev c.in_ok-leave.ensures.leaves c.requires.on (g.S.Shelf.tells old) (g.S.Shelf.world old).now.seen objects h)

pub returns-clause-ends : goal.returns-clause-ends
returns-clause-ends g c = λ objects h.
    let old = c.args.shelf.now in
    let new = c.commit_moving.new.shelf in
    let sizes = g.S.Shelf.sizes old in
    let left = c.leave.new.pool in
    let done = c.in_ok-commit_moving.ensures in
    let held = objects_out c.args.pool.now left c.args.dev c.in_ok-leave.ensures.leaves c.requires.on (g.S.Shelf.tells old) (g.S.Shelf.world old).now.seen objects h in
    let seen : IsSeen (g.S.Shelf.tells old) (g.S.Shelf.world old).now.seen left = record { told = held.held.told; read = held.held.read } in
    leaves_by sizes (g.S.Shelf.sizes new) left c.commit_moving.new.pool (g.S.Shelf.world old) (g.S.Shelf.world new) (c.in_ok-leave.ensures.pool sizes c.requires.pool) done.pool done.txg (done.written held.held.told) done.ends.ended.opened done.empty (done.stands seen) (done.safe seen)

pub returns-clause-shown : goal.returns-clause-shown
returns-clause-shown g c = λ told h.
    let old = c.args.shelf.now in
    let new = c.commit_moving.new.shelf in
    let sizes = g.S.Shelf.sizes old in
    let left = c.leave.new.pool in
    let done = c.in_ok-commit_moving.ensures in
    out_last sizes (g.S.Shelf.sizes new) c.args.pool.now left c.commit_moving.new.pool c.args.dev (g.S.Shelf.world old) (g.S.Shelf.world new) c.in_ok-leave.ensures.leaves c.requires.on c.requires.known c.requires.pool (c.in_ok-leave.ensures.pool sizes c.requires.pool) done.pool (g.S.Shelf.sound old told).sized
    done.txg done.last (done.written told) done.same h

pub returns-clause-copies : goal.returns-clause-copies
returns-clause-copies g c = λ told stand.
    c.in_ok-commit_moving.ensures.copies told (copies_out (g.S.Shelf.world c.args.shelf.now).now.seen c.args.pool.now c.leave.new.pool c.args.dev c.in_ok-leave.ensures.leaves c.requires.alone)

-- ---- wherever it stops

pub returns-in_err-demand_to_remove-clause-stops : goal.returns-in_err-demand_to_remove-clause-stops
returns-in_err-demand_to_remove-clause-stops g c = λ objects h. inl (still (g.S.Shelf.world c.args.shelf.now) (g.S.Shelf.world c.args.shelf.now) refl)

pub returns-in_err-leave-clause-stops : goal.returns-in_err-leave-clause-stops
returns-in_err-leave-clause-stops g c = λ objects h. inl (still (g.S.Shelf.world c.args.shelf.now) (g.S.Shelf.world c.args.shelf.now) refl)

pub returns-in_err-commit_moving-clause-stops : goal.returns-in_err-commit_moving-clause-stops
returns-in_err-commit_moving-clause-stops g c = λ objects h.
    let old = c.args.shelf.now in
    let left = c.leave.new.pool in
    let first = c.in_ok-leave.ensures in
    inr (left, first.pool (g.S.Shelf.sizes old) c.requires.pool, first.leaves, c.commit_moving.ensures.leads objects (objects_out c.args.pool.now left c.args.dev first.leaves c.requires.on (g.S.Shelf.tells old) (g.S.Shelf.world old).now.seen objects h))

pub returns-clause-stops : goal.returns-clause-stops
returns-clause-stops g c = λ objects h.
    let old = c.args.shelf.now in
    let left = c.leave.new.pool in
    let first = c.in_ok-leave.ensures in
    inr (left, first.pool (g.S.Shelf.sizes old) c.requires.pool, first.leaves, c.commit_moving.ensures.leads objects (objects_out c.args.pool.now left c.args.dev first.leaves c.requires.on (g.S.Shelf.tells old) (g.S.Shelf.world old).now.seen objects h))
