use Rattle.std.proofs.Common.{[], ◌∷◌, refl, sym, subst}
use Rattle.zr_command.specs.Meanings.{step_of}
use Rattle.zr_session.specs.Agenda.{Inserted, GivesNone}
use Rattle.zr_session.specs.Lines.{StopsWithinSteps}
use Rattle.zr_session.proofs.Sending.{err_with, for_one}
use Rattle.zr_session.proofs.Moments.{step_moments}
use Rattle.zr_session.proofs.Playing.{does_step, stops_step}
use Rattle.zr_session.proofs.Steps.{step_line}
use Rattle.zr_session.proofs.rounds.do_step.Goals as goal

pub do_command-requires-clause-grammar : goal.do_command-requires-clause-grammar
do_command-requires-clause-grammar g c = rw c.step_of.ensures (step_line c.args.actor)

pub returns-in_err-do_command-clause-stopped : goal.returns-in_err-do_command-clause-stopped
returns-in_err-do_command-clause-stopped g c = λ t n before s.
    let works = c.if-not-has_work.ensures.works _ before s in
    let served = c.if-not-has_work.ensures.served _ before s refl in
    let stopped = rw c.step_of.ensures at (c.in_err-do_command.ensures.stopped t n before s) in
    err_with c.from_residual.result _ (StopsWithinSteps g.P.Pool.meaning c.args.replies (Inserted c.args.actor ∷ []) c.args.number before (g.D.Shelf.world c.args.desk.now).now (g.D.Shelf.world c.do_command.new.desk).now) c.from_residual.ensures.1
    (stops_step ⊥ g.P.Pool.meaning GivesNone c.args.replies c.args.actor c.args.number before _ _ _ (sym works) (subst (λ p. g.P.Pool.meaning.serves p before (step_of c.args.actor)) (sym n) served) stopped)

pub returns-clause-done : goal.returns-clause-done
returns-clause-done g c = λ t n before s.
    let works = c.if-not-has_work.ensures.works _ before s in
    let done = rw c.step_of.ensures at (c.in_ok-do_command.ensures.done t n before s) in
    for_one _ _ _ _ (λ after d. does_step ⊥ g.P.Pool.meaning GivesNone c.args.replies c.args.actor _ before after _ _ (sym works) d) done

pub returns-in_err-do_command-clause-moments : goal.returns-in_err-do_command-clause-moments
returns-in_err-do_command-clause-moments g c = λ t n before s.
    let works = c.if-not-has_work.ensures.works _ before s in
    step_moments g.P.Pool.meaning c.args.replies c.args.actor before _ _ (sym works) (rw c.step_of.ensures at (c.do_command.ensures.moments t n before s))

pub returns-clause-moments : goal.returns-clause-moments
returns-clause-moments g c = λ t n before s.
    let works = c.if-not-has_work.ensures.works _ before s in
    step_moments g.P.Pool.meaning c.args.replies c.args.actor before _ _ (sym works) (rw c.step_of.ensures at (c.do_command.ensures.moments t n before s))
