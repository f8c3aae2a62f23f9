use Rattle.std.proofs.Common.{inr, ◌∙◌, ap, sym, subst}
use Rattle.std.proofs.lemmas.Result.{err_from_is_err_and, on_ok_weaker}
use Rattle.zr_base.specs.declared.refusal.Refusal.TheVariants.{Damaged, NoSuchObject, OutOfRange}
use Rattle.zr_sync.proofs.Disks.{works_more, works_writes}
use Rattle.zr_sync.specs.declared.open.OpenPool.{OpenPool}
use Rattle.zr_txg.specs.Changes.{Changes}
use Rattle.zr_lines.specs.Intents.{IsIntent}
use Rattle.zr_lines.proofs.Edited.{held_when_ready, ready_stored, edited_ok}
use Rattle.zr_lines.proofs.Locating.{kept_by, done_by, not_absent, not_damaged, not_far}
use Rattle.zr_lines.proofs.Pools.{same_by, same_more}
use Rattle.zr_last.proofs.Lasting.{blocks_last}
use Rattle.zr_lines.proofs.Stopping.{in_group_by, one_group_more, one_group_writes}
use Rattle.zr_lines.proofs.edits.change.Goals as goal

pub returns-in_err-intent-clause-absent : goal.returns-in_err-intent-clause-absent
returns-in_err-intent-clause-absent g c = λ is.
    let e = c.in_err-intent in
    let was = err_from_is_err_and c.from_residual.result c.from_residual.ensures.1 in
    e.ensures.absent cc

pub returns-in_err-intent-clause-too_far : goal.returns-in_err-intent-clause-too_far
returns-in_err-intent-clause-too_far g c = λ is.
    let e = c.in_err-intent in
    let was = err_from_is_err_and c.from_residual.result c.from_residual.ensures.1 in
    e.ensures.too_far cc

pub returns-in_err-intent-clause-damaged : goal.returns-in_err-intent-clause-damaged
returns-in_err-intent-clause-damaged g c = λ at expected found is.
    let e = c.in_err-intent in
    let was = err_from_is_err_and c.from_residual.result c.from_residual.ensures.1 in
    e.ensures.damaged at expected found cc

pub returns-clause-disks : goal.returns-clause-disks
returns-clause-disks g c = λ told.
    let first = g.S.Shelf.world c.args.shelf.now in
    let meant = g.S.Shelf.world c.mean.new.shelf in
    let last = g.S.Shelf.world c.carry_out.new.shelf in
    works_more first meant last (c.in_ok-intent.ensures.disks told) (works_writes _ meant last (c.carry_out.ensures.continues.written (c.in_ok-intent.ensures.told told)))

pub returns-clause-same_no : goal.returns-clause-same_no
returns-clause-same_no g c = λ r is. same_more c.args.pool.now c.mean.new.pool c.carry_out.new.pool c.in_ok-intent.ensures.same (same_by (c.carry_out.ensures.wrote_no r is))

pub returns-clause-refused : goal.returns-clause-refused
returns-clause-refused g c = λ r is.
    let means = c.in_ok-intent.ensures.means in
    inr (record { intent = c.in_ok-intent.intent; means = means.0; stays = c.carry_out.ensures.group_no r is ∙ means.1; cause = c.carry_out.ensures.refused r is })

pub returns-clause-absent : goal.returns-clause-absent
returns-clause-absent g c = λ is.
    let new = c.carry_out.new.pool in
    absurd (not_absent c.args.reach new.space new.group c.args.id c.in_ok-intent.intent (c.carry_out.ensures.refused NoSuchObject is))

pub returns-clause-too_far : goal.returns-clause-too_far
returns-clause-too_far g c = λ is.
    let new = c.carry_out.new.pool in
    absurd (not_far c.args.reach new.space new.group c.args.id c.in_ok-intent.intent (c.carry_out.ensures.refused OutOfRange is))

pub returns-clause-damaged : goal.returns-clause-damaged
returns-clause-damaged g c = λ at expected found is.
    let new = c.carry_out.new.pool in
    absurd (not_damaged c.args.reach new.space new.group c.args.id c.in_ok-intent.intent at expected found (c.carry_out.ensures.refused (Damaged at expected found) is))

pub returns-clause-kept : goal.returns-clause-kept
returns-clause-kept g c = λ r is.
    let means = c.in_ok-intent.ensures.means in
    let old = c.args.pool.now in
    let new = c.carry_out.new.pool in
    kept_by (g.S.Shelf.tells c.args.shelf.now) c.args.reach c.args.id c.args.edit.now old (g.S.Shelf.world c.args.shelf.now).now.seen c.in_ok-intent.intent new means.0 (c.carry_out.ensures.group_no r is ∙ means.1)
    (same_more old c.mean.new.pool new c.in_ok-intent.ensures.same (same_by (c.carry_out.ensures.wrote_no r is)))

pub returns-clause-done : goal.returns-clause-done
returns-clause-done g c =
    let means = c.in_ok-intent.ensures.means in
    let mid = c.mean.new.pool in
    done_by (g.S.Shelf.tells c.args.shelf.now) (g.S.Shelf.tells c.mean.new.shelf) (g.S.Shelf.tells c.carry_out.new.shelf) c.in_ok-intent.ensures.told c.args.reach c.args.id c.args.edit.now c.args.pool.now (g.S.Shelf.world c.args.shelf.now).now.seen c.in_ok-intent.intent (record { pool = mid; disks = (g.S.Shelf.world c.mean.new.shelf).now.seen }) (g.S.Shelf.world c.carry_out.new.shelf).now.seen c.carry_out.new.pool means.0 means.1
    c.carry_out.result c.carry_out.ensures.done c.carry_out.ensures.changed

-- ---- the objects

pub returns-in_err-intent-clause-stays_no : goal.returns-in_err-intent-clause-stays_no
returns-in_err-intent-clause-stays_no g c = λ objects h r is.
    let e = c.in_err-intent in
    let was = err_from_is_err_and c.from_residual.result c.from_residual.ensures.1 in
    e.ensures.stays_no objects h r cc

pub returns-in_err-intent-clause-absent_object : goal.returns-in_err-intent-clause-absent_object
returns-in_err-intent-clause-absent_object g c = λ objects h is.
    let e = c.in_err-intent in
    let was = err_from_is_err_and c.from_residual.result c.from_residual.ensures.1 in
    e.ensures.absent_object objects h cc

pub returns-in_err-intent-clause-too_far_object : goal.returns-in_err-intent-clause-too_far_object
returns-in_err-intent-clause-too_far_object g c = λ objects h is.
    let e = c.in_err-intent in
    let was = err_from_is_err_and c.from_residual.result c.from_residual.ensures.1 in
    e.ensures.too_far_object objects h cc

pub returns-clause-stays_no : goal.returns-clause-stays_no
returns-clause-stays_no g c = λ objects h r is.
    c.carry_out.ensures.stays_no objects (held_when_ready c.mean.new.pool c.args.id c.args.edit.now objects c.in_ok-intent.intent (c.in_ok-intent.ensures.ready objects h)) r is

pub returns-clause-absent_object : goal.returns-clause-absent_object
returns-clause-absent_object g c = λ objects h is.
    let new = c.carry_out.new.pool in
    absurd (not_absent c.args.reach new.space new.group c.args.id c.in_ok-intent.intent (c.carry_out.ensures.refused NoSuchObject is))

pub returns-clause-too_far_object : goal.returns-clause-too_far_object
returns-clause-too_far_object g c = λ objects h is.
    let new = c.carry_out.new.pool in
    absurd (not_far c.args.reach new.space new.group c.args.id c.in_ok-intent.intent (c.carry_out.ensures.refused OutOfRange is))

pub returns-clause-edited : goal.returns-clause-edited
returns-clause-edited g c = λ objects bytes h size each.
    let means = c.in_ok-intent.ensures.means in
    let i = c.in_ok-intent.intent in
    let mid = c.mean.new.pool in
    let new = c.carry_out.new.pool in
    let id = c.args.id in
    let e = c.args.edit.now in
    let ready = c.in_ok-intent.ensures.ready objects h in
    let intent = subst (λ (x : Changes). IsIntent x id i) (sym means.1) means.0.intent in
    let stored = ready_stored c.args.reach id e i mid objects means.0.fits ready in
    edited_ok (g.S.Shelf.tells c.carry_out.new.shelf) (g.S.Shelf.world c.carry_out.new.shelf).now.seen c.args.reach id e i mid new objects bytes intent means.0.fits ready c.carry_out.result (on_ok_weaker c.carry_out.result (λ wrote. ap (λ (o : OpenPool). o.dir) wrote.rest) c.carry_out.ensures.wrote) size each
    (c.carry_out.ensures.changed ready.stored ready.held stored)

-- ---- the last root

pub returns-clause-shown : goal.returns-clause-shown
returns-clause-shown g c = λ told.
    let meant = c.mean.new.shelf in
    let there = c.in_ok-intent.ensures.told told in
    on_ok_weaker c.carry_out.result (λ wrote h. blocks_last c.in_ok-intent.ensures.pool (g.S.Shelf.sound meant there).sized there wrote (c.in_ok-intent.ensures.shown told h)) c.carry_out.ensures.wrote

pub returns-clause-shown_no : goal.returns-clause-shown_no
returns-clause-shown_no g c = λ told r is h.
    let meant = c.mean.new.shelf in
    let there = c.in_ok-intent.ensures.told told in
    blocks_last c.in_ok-intent.ensures.pool (g.S.Shelf.sound meant there).sized there (c.carry_out.ensures.wrote_no r is) (c.in_ok-intent.ensures.shown told h)

-- ---- one group

pub returns-in_err-intent-clause-one_group_no : goal.returns-in_err-intent-clause-one_group_no
returns-in_err-intent-clause-one_group_no g c = λ objects h r is.
    let e = c.in_err-intent in
    let was = err_from_is_err_and c.from_residual.result c.from_residual.ensures.1 in
    e.ensures.one_group_no objects h r cc

pub returns-in_err-intent-clause-writes : goal.returns-in_err-intent-clause-writes
returns-in_err-intent-clause-writes g c = λ objects h. c.mean.ensures.writes objects h

pub returns-clause-one_group : goal.returns-clause-one_group
returns-clause-one_group g c = λ objects h.
    let meant = c.in_ok-intent.ensures in
    on_ok_weaker c.carry_out.result (λ wrote. one_group_more (meant.one_group objects h) (in_group_by meant.pool wrote (meant.told h.held.told))) c.carry_out.ensures.wrote

pub returns-clause-one_group_no : goal.returns-clause-one_group_no
returns-clause-one_group_no g c = λ objects h r is.
    let meant = c.in_ok-intent.ensures in
    one_group_more (meant.one_group objects h) (in_group_by meant.pool (c.carry_out.ensures.wrote_no r is) (meant.told h.held.told))

pub returns-clause-writes : goal.returns-clause-writes
returns-clause-writes g c = λ objects h.
    let meant = c.in_ok-intent.ensures in
    one_group_writes (meant.one_group objects h) (c.carry_out.ensures.continues.written (meant.told h.held.told))
