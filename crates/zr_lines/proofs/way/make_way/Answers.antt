use Rattle.std.proofs.Common.{false, inl, inr}
use Rattle.zr_last.proofs.Lasting.{commit_last}
use Rattle.zr_sync.proofs.Ending.{ends_by}
use Rattle.zr_lines.proofs.Stopping.{answered_writes, in_group_itself, next_group}
use Rattle.zr_lines.proofs.way.make_way.Goals as goal

pub returns-clause-shown : goal.returns-clause-shown
returns-clause-shown g c = λ told.
    let old = c.args.shelf.now in
    let new = c.commit.new.shelf in
    let done = c.in_ok-commit.ensures in
    commit_last (g.S.Shelf.sizes old) (g.S.Shelf.sizes new) c.args.pool.now c.commit.new.pool false (g.S.Shelf.world old) (g.S.Shelf.world new) c.requires.pool done.pool (g.S.Shelf.sound old told).sized done.txg done.last (done.written told) done.same.guid done.same.table

-- ---- one group

pub returns-then-fits-clause-one_group : goal.returns-then-fits-clause-one_group
returns-then-fits-clause-one_group g c = λ held h. inl (in_group_itself c.args.pool.now (g.S.Shelf.world c.args.shelf.now))

pub returns-then-fits-clause-writes : goal.returns-then-fits-clause-writes
returns-then-fits-clause-writes g c = λ held h. inl (in_group_itself c.args.pool.now (g.S.Shelf.world c.args.shelf.now)).written

pub returns-in_err-commit-clause-writes : goal.returns-in_err-commit-clause-writes
returns-in_err-commit-clause-writes g c = λ held h. inr (inl (c.commit.ensures.leads held h))

pub returns-clause-one_group : goal.returns-clause-one_group
returns-clause-one_group g c = λ held h.
    let done = c.in_ok-commit.ensures in
    next_group (ends_by c.commit.ensures.sizes done.pool done.same done.last done.txg done.written done.ends done.empty done.stands done.safe done.trees done.moves done.copies h (done.stays held h)) (in_group_itself c.commit.new.pool (g.S.Shelf.world c.commit.new.shelf))

pub returns-clause-writes : goal.returns-clause-writes
returns-clause-writes g c = λ held h.
    let done = c.in_ok-commit.ensures in
    answered_writes (next_group (ends_by c.commit.ensures.sizes done.pool done.same done.last done.txg done.written done.ends done.empty done.stands done.safe done.trees done.moves done.copies h (done.stays held h)) (in_group_itself c.commit.new.pool (g.S.Shelf.world c.commit.new.shelf)))
