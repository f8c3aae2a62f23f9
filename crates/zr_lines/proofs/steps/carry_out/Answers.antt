use Rattle.std.proofs.Common.{inr, refl, rules}
use Rattle.std.proofs.lemmas.Result.{on_ok_weaker}
use Rattle.zr_sync.proofs.Objects.{now_held}
use Rattle.zr_sync.proofs.Stays.{objects_stay}
use Rattle.zr_lines.proofs.Done.{long_run}
use Rattle.zr_lines.proofs.steps.carry_out.Goals as goal

pub returns-clause-refused : goal.returns-clause-refused
returns-clause-refused g c = λ r is.
    let p = c.args.pool.now in
    inr (long_run c.args.reach p.space p.group c.args.id c.args.intent.now r c.requires.intent.object.size c.in_ok-check_room.ensures.enough (c.change_at.ensures.refused r is))

pub returns-clause-done : goal.returns-clause-done
returns-clause-done g c = on_ok_weaker c.change_at.result (λ recorded. record { room = c.in_ok-check_room.ensures.enough; recorded = recorded }) c.change_at.ensures.recorded

pub returns-clause-stays_no : goal.returns-clause-stays_no
returns-clause-stays_no g c = λ objects h r is.
    objects_stay c.args.pool.now _ objects refl (c.change_at.ensures.kept r is) h (now_held (λ n held. search (rules, held)) (c.change_at.ensures.held_no h.stored h.held r is))
