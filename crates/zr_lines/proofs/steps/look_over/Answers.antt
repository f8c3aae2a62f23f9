use Rattle.std.proofs.Common.{rules, refl}
use Rattle.zr_sync.proofs.Objects.{now_held}
use Rattle.zr_sync.proofs.Stays.{objects_stay}
use Rattle.zr_lines.proofs.Edited.{absent_in, far_in, ready_if}
use Rattle.zr_lines.proofs.steps.look_over.Goals as goal

pub returns-clause-held : goal.returns-clause-held
returns-clause-held g c = λ s h. now_held (λ n held. search (rules, held)) (c.look_at.ensures.held s h)

pub returns-clause-stays : goal.returns-clause-stays
returns-clause-stays g c = λ objects h. objects_stay c.args.pool.now _ objects refl refl h (now_held (λ n held. search (rules, held)) (c.look_at.ensures.held h.stored h.held))

pub returns-clause-absent_object : goal.returns-clause-absent_object
returns-clause-absent_object g c = λ objects h is. absent_in c.args.pool.now objects c.args.id h (c.look_at.ensures.none h.stored h.held is)

pub returns-clause-too_far_object : goal.returns-clause-too_far_object
returns-clause-too_far_object g c = λ objects h is. far_in c.args.pool.now objects c.args.id h c.args.reach c.args.edit.now (c.look_at.ensures.outside h.stored h.held is)

pub returns-clause-ready : goal.returns-clause-ready
returns-clause-ready g c = λ objects h.
    ready_if c.args.pool.now objects c.args.id h _ c.args.edit.now c.look_at.result refl refl (c.look_at.ensures.planned h.stored h.held) (now_held (λ n held. search (rules, held)) (c.look_at.ensures.held h.stored h.held))
