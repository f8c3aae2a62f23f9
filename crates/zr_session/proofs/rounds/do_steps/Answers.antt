use Rattle.std.proofs.Common.{refl, sym, subst, ◌∙◌, arith, map}
use Rattle.std.proofs.lemmas.Result.{err_from_is_err_and}
use Rattle.zr_session.specs.Agenda.{Inserted, GivesNone}
use Rattle.zr_session.specs.Lines.{StopsWithinSteps}
use Rattle.zr_session.proofs.Sending.{fell_more}
use Rattle.zr_shelf.proofs.Runs.{started}
use Rattle.zr_session.proofs.Moments.{steps_moments}
use Rattle.zr_session.proofs.Playing.{does_none, does_steps, stops_steps}
use Rattle.zr_session.proofs.rounds.do_steps.Goals as goal

pub loop-actor-init : goal.loop-actor-init
loop-actor-init g c = record {
  done = λ t n before s. record { state = before; stands_for = s; holds = does_none ⊥ g.P.Pool.meaning GivesNone c.args.replies before _ };
  moments = λ t n before s. started _ _;
  named = λ t. refl;
  told = λ t. t;
  fits = c.requires.fits;
  paths = refl;
  sizes = refl;
  none_fell = record { disk = omega arith; attach = omega arith; input = omega arith; output = omega arith };
}

pub returns-in_err-do_step-clause-stopped : goal.returns-in_err-do_step-clause-stopped
returns-in_err-do_step-clause-stopped g c = λ t n before s.
    let i = c.loop-actor.invariant in
    let d = i.done t n before s in
    let p = err_from_is_err_and c.from_residual.result c.from_residual.ensures.1 in
    rw p.1 (
    let stop : StopsWithinSteps g.P.Pool.meaning c.args.replies (map Inserted c.args.actors.now) c.args.number before (g.D.Shelf.world c.args.desk.now).now (g.D.Shelf.world c.do_step.new.desk).now c.in_err-do_step.field-0.0 =
    stops_steps g.P.Pool.meaning c.args.replies c.args.actors.now c.loop-actor.actor-index _ c.args.number before d.state _ _ _ _ c.loop-actor-test.true d.holds (c.in_err-do_step.ensures.stopped (i.told t) (i.named t ∙ (n ∙ sym i.paths)) d.state d.stands_for) in
    subst (λ e. StopsWithinSteps g.P.Pool.meaning c.args.replies (map Inserted c.args.actors.now) c.args.number before (g.D.Shelf.world c.args.desk.now).now (g.D.Shelf.world c.do_step.new.desk).now e) (sym p.2) stop)

pub returns-in_err-do_step-clause-moments : goal.returns-in_err-do_step-clause-moments
returns-in_err-do_step-clause-moments g c = λ t n before s.
    let i = c.loop-actor.invariant in
    let d = i.done t n before s in
    steps_moments g.P.Pool.meaning c.args.replies c.args.actors.now c.loop-actor.actor-index _ before d.state _ _ _ c.loop-actor-test.true d.holds (i.moments t n before s) (c.do_step.ensures.moments (i.told t) (i.named t ∙ (n ∙ sym i.paths)) d.state d.stands_for)

pub loop-actor-preserved : goal.loop-actor-preserved
loop-actor-preserved g c =
    let i = c.loop-actor.invariant in
    let o = c.in_ok-do_step.ensures in
    record {
      done = λ t n before s.
          let d = i.done t n before s in
          let e = o.done (i.told t) (i.named t ∙ (n ∙ sym i.paths)) d.state d.stands_for in
          record { state = e.state; stands_for = e.stands_for; holds = does_steps g.P.Pool.meaning c.args.replies c.args.actors.now c.loop-actor.actor-index _ before d.state e.state _ _ _ c.loop-actor-test.true d.holds e.holds };
      moments = λ t n before s.
          let d = i.done t n before s in
          steps_moments g.P.Pool.meaning c.args.replies c.args.actors.now c.loop-actor.actor-index _ before d.state _ _ _ c.loop-actor-test.true d.holds (i.moments t n before s) (c.do_step.ensures.moments (i.told t) (i.named t ∙ (n ∙ sym i.paths)) d.state d.stands_for);
      named = λ t. o.named (i.told t) ∙ i.named t;
      told = λ t. o.told (i.told t);
      fits = o.fits;
      paths = o.paths ∙ i.paths;
      sizes = o.sizes ∙ i.sizes;
      none_fell = fell_more _ _ _ i.none_fell o.none_fell;
    }
