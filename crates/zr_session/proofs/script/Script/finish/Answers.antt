use Rattle.std.proofs.Common.{sym, ap, ◌∙◌, length}
use Rattle.std.proofs.lemmas.Bool.{eqb-true, eqb-false}
use Rattle.zr_session.proofs.Ending.{finish_empty, finish_done, finish_ends}
use Rattle.zr_session.proofs.Moments.{last_moments}
use Rattle.zr_session.proofs.script.Script.finish.Goals as goal

pub returns-then-is_empty-clause-ends : goal.returns-then-is_empty-clause-ends
returns-then-is_empty-clause-ends g c = λ t n e opening taken m a.
    finish_empty _ _ opening _ a.state c.args.self.now.line.items _ taken (ap length (sym c.as_slice-line.ensures.value) ∙ eqb-true _ 0 (sym c.if-is_empty.ensures)) a.holds e m

pub returns-in-Ok-clause-ends : goal.returns-in-Ok-clause-ends
returns-in-Ok-clause-ends g c = λ t n e opening taken m a.
    let b = rw (← c.as_slice-line.ensures.value) at a in
    let l = c.in-Ok.ensures.answered t n b.state b.stands_for in
    finish_done _ _ opening _ _ b.state l.state c.as_slice-line.result.now _ taken (eqb-false _ 0 (sym c.if-is_empty.ensures)) b.holds e m l.holds

pub returns-in-Err-clause-ends : goal.returns-in-Err-clause-ends
returns-in-Err-clause-ends g c = λ t n e opening taken m a.
    let b = rw (← c.as_slice-line.ensures.value) at a in
    finish_ends _ _ opening _ _ b.state c.as_slice-line.result.now _ taken c.in-Err.end (eqb-false _ 0 (sym c.if-is_empty.ensures)) b.holds e (c.in-Err.ensures.stopped t n b.state b.stands_for)

pub returns-in-Ok-clause-moments : goal.returns-in-Ok-clause-moments
returns-in-Ok-clause-moments g c = λ t n e opening taken a.
    let b = rw (← c.as_slice-line.ensures.value) at a in
    last_moments g.P.Pool.meaning c.args.course.now.rounds opening _ _ b.state c.as_slice-line.result.now _ taken (eqb-false _ 0 (sym c.if-is_empty.ensures)) b.holds e (c.answer_line.ensures.moments t n b.state b.stands_for)

pub returns-in-Err-clause-moments : goal.returns-in-Err-clause-moments
returns-in-Err-clause-moments g c = λ t n e opening taken a.
    let b = rw (← c.as_slice-line.ensures.value) at a in
    last_moments g.P.Pool.meaning c.args.course.now.rounds opening _ _ b.state c.as_slice-line.result.now _ taken (eqb-false _ 0 (sym c.if-is_empty.ensures)) b.holds e (c.answer_line.ensures.moments t n b.state b.stands_for)
