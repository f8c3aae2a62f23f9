use Rattle.std.proofs.Common.{refl, sym, subst, ◌∙◌, arith}
use Rattle.std.proofs.lemmas.Result.{err_from_is_err_and}
use Rattle.zr_session.specs.Agenda.{GivesNone, rounds_of}
use Rattle.zr_session.specs.Lines.{StopsWithinSteps}
use Rattle.zr_session.proofs.Sending.{fell_more}
use Rattle.zr_shelf.proofs.Runs.{started}
use Rattle.zr_session.proofs.Moments.{rounds_moments}
use Rattle.zr_session.proofs.Playing.{does_none, does_rounds, stops_rounds}
use Rattle.zr_session.proofs.rounds.do_rounds.Goals as goal

pub loop-done-init : goal.loop-done-init
loop-done-init g c = record {
  done = λ t n before s. record { state = before; stands_for = s; holds = does_none ⊥ g.P.Pool.meaning GivesNone c.args.replies before _ };
  moments = λ t n before s. started _ _;
  named = λ t. refl;
  told = λ t. t;
  fits = c.requires.fits;
  paths = refl;
  sizes = refl;
  none_fell = record { disk = omega arith; attach = omega arith; input = omega arith; output = omega arith };
}

pub returns-in_err-do_steps-clause-stopped : goal.returns-in_err-do_steps-clause-stopped
returns-in_err-do_steps-clause-stopped g c = λ t n before s.
    let i = c.loop-done.invariant in
    let d = i.done t n before s in
    let p = err_from_is_err_and c.from_residual.result c.from_residual.ensures.1 in
    rw p.1 (
    let stop : StopsWithinSteps g.P.Pool.meaning c.args.replies (rounds_of c.args.course.now.rounds) c.args.number before (g.D.Shelf.world c.args.desk.now).now (g.D.Shelf.world c.do_steps.new.desk).now c.in_err-do_steps.field-0.0 =
    stops_rounds g.P.Pool.meaning c.args.replies c.args.course.now.rounds c.loop-done._done c.args.number before d.state _ _ _ _ c.loop-done-test.true d.holds (c.in_err-do_steps.ensures.stopped (i.told t) (i.named t ∙ (n ∙ sym i.paths)) d.state d.stands_for) in
    subst (λ e. StopsWithinSteps g.P.Pool.meaning c.args.replies (rounds_of c.args.course.now.rounds) c.args.number before (g.D.Shelf.world c.args.desk.now).now (g.D.Shelf.world c.do_steps.new.desk).now e) (sym p.2) stop)

pub returns-in_err-do_steps-clause-moments : goal.returns-in_err-do_steps-clause-moments
returns-in_err-do_steps-clause-moments g c = λ t n before s.
    let i = c.loop-done.invariant in
    let d = i.done t n before s in
    rounds_moments g.P.Pool.meaning c.args.replies c.args.course.now.rounds c.loop-done._done before d.state _ _ _ c.loop-done-test.true d.holds (i.moments t n before s) (c.do_steps.ensures.moments (i.told t) (i.named t ∙ (n ∙ sym i.paths)) d.state d.stands_for)

pub loop-done-preserved : goal.loop-done-preserved
loop-done-preserved g c =
    let i = c.loop-done.invariant in
    let o = c.in_ok-do_steps.ensures in
    record {
      done = λ t n before s.
          let d = i.done t n before s in
          let e = o.done (i.told t) (i.named t ∙ (n ∙ sym i.paths)) d.state d.stands_for in
          record { state = e.state; stands_for = e.stands_for; holds = does_rounds g.P.Pool.meaning c.args.replies c.loop-done._done before d.state e.state _ _ _ d.holds e.holds };
      moments = λ t n before s.
          let d = i.done t n before s in
          rounds_moments g.P.Pool.meaning c.args.replies c.args.course.now.rounds c.loop-done._done before d.state _ _ _ c.loop-done-test.true d.holds (i.moments t n before s) (c.do_steps.ensures.moments (i.told t) (i.named t ∙ (n ∙ sym i.paths)) d.state d.stands_for);
      named = λ t. o.named (i.told t) ∙ i.named t;
      told = λ t. o.told (i.told t);
      fits = o.fits;
      paths = o.paths ∙ i.paths;
      sizes = o.sizes ∙ i.sizes;
      none_fell = fell_more _ _ _ i.none_fell o.none_fell;
    }
