use Rattle.std.proofs.Common.{refl, sym, ◌∙◌, arith}
use Rattle.zr_session.specs.Agenda.{agenda}
use Rattle.zr_session.specs.Tallied.{StopsAmong}
use Rattle.zr_session.proofs.Sending.{err_with, fell_more}
use Rattle.zr_session.proofs.Tallied.{one_more, stops_at, stops_between, stops_behind_command}
use Rattle.zr_session.proofs.Telling.{given_moments, behind_moments}
use Rattle.zr_session.proofs.generated.do_commands.Goals as goal

pub returns-in_err-reply-clause-stopped : goal.returns-in_err-reply-clause-stopped
returns-in_err-reply-clause-stopped g c = λ t n before s.
    let i = c.loop-index.invariant in
    let d = i.done t n before s in
    let stop = c.in_err-reply.ensures.stopped (i.told t) (i.named t ∙ (n ∙ sym i.paths)) d.state d.stands_for in
    err_with c.from_residual.result _ (StopsAmong g.P.Pool.meaning (agenda c.args.course.now.rounds c.args.commands.now) before (g.D.Shelf.world c.args.desk.now).now (g.D.Shelf.world c.do_command.new.desk).now) c.from_residual.ensures.1
    (stops_at g.P.Pool.meaning c.args.course.now.rounds c.args.commands.now c.loop-index.index c.index-commands-index.result c.loop-index.tally before d.state _ _ _ _ _ (let e = i.last in let l = c.loop-index-test.true in omega arith) c.index-commands-index.is refl d.holds stop)

pub returns-in_err-add-clause-stopped : goal.returns-in_err-add-clause-stopped
returns-in_err-add-clause-stopped g c = λ t n before s.
    let i = c.loop-index.invariant in
    let d = i.done t n before s in
    let e = c.in_ok-reply.ensures.done (i.told t) (i.named t ∙ (n ∙ sym i.paths)) d.state d.stands_for in
    err_with c.from_residual-in_err-add.result _ (StopsAmong g.P.Pool.meaning (agenda c.args.course.now.rounds c.args.commands.now) before (g.D.Shelf.world c.args.desk.now).now (g.D.Shelf.world c.do_command.new.desk).now) c.from_residual-in_err-add.ensures.1
    (stops_between g.P.Pool.meaning c.args.course.now.rounds c.args.commands.now c.loop-index.index c.index-commands-index.result _ c.loop-index.tally before d.state e.state _ _ _ (let e = i.last in let l = c.loop-index-test.true in omega arith) c.index-commands-index.is d.holds e.holds)

pub returns-in_err-do_rounds-clause-stopped : goal.returns-in_err-do_rounds-clause-stopped
returns-in_err-do_rounds-clause-stopped g c = λ t n before s.
    let i = c.loop-index.invariant in
    let d = i.done t n before s in
    let o = c.in_ok-reply.ensures in
    let e = o.done (i.told t) (i.named t ∙ (n ∙ sym i.paths)) d.state d.stands_for in
    let stop = c.in_err-do_rounds.ensures.stopped (o.told (i.told t)) (o.named (i.told t) ∙ (i.named t ∙ (n ∙ (sym i.paths ∙ sym o.paths)))) e.state e.stands_for in
    err_with c.from_residual-in_err-do_rounds.result _ (StopsAmong g.P.Pool.meaning (agenda c.args.course.now.rounds c.args.commands.now) before (g.D.Shelf.world c.args.desk.now).now (g.D.Shelf.world c.do_rounds.new.desk).now) c.from_residual-in_err-do_rounds.ensures.1
    (stops_behind_command g.P.Pool.meaning c.args.course.now.rounds c.args.commands.now c.loop-index.index c.index-commands-index.result _ c.loop-index.tally before d.state e.state _ _ _ _ _ _ (let e = i.last in let l = c.loop-index-test.true in omega arith) c.index-commands-index.is d.holds e.holds stop)

pub loop-index-preserved : goal.loop-index-preserved
loop-index-preserved g c =
    let i = c.loop-index.invariant in
    let o = c.in_ok-reply.ensures in
    let r = c.in_ok-do_rounds.ensures in
    record {
      done = λ t n before s.
          let d = i.done t n before s in
          let e = o.done (i.told t) (i.named t ∙ (n ∙ sym i.paths)) d.state d.stands_for in
          let f = r.done (o.told (i.told t)) (o.named (i.told t) ∙ (i.named t ∙ (n ∙ (sym i.paths ∙ sym o.paths)))) e.state e.stands_for in
          record {
            state = f.state;
            stands_for = f.stands_for;
            holds = one_more g.P.Pool.meaning c.args.course.now.rounds c.args.commands.now c.loop-index.index c.index-commands-index.result _ c.loop-index.tally _ before d.state e.state f.state _ _ _ _ (let e = i.last in let l = c.loop-index-test.true in omega arith) c.index-commands-index.is d.holds e.holds c.in_ok-add.ensures.more f.holds;
          };
      moments = λ t n before s.
          let d = i.done t n before s in
          let e = o.done (i.told t) (i.named t ∙ (n ∙ sym i.paths)) d.state d.stands_for in
          behind_moments g.P.Pool.meaning c.args.course.now.rounds c.args.commands.now c.loop-index.index c.index-commands-index.result _ c.loop-index.tally before d.state e.state _ _ _ _ (let e = i.last in let l = c.loop-index-test.true in omega arith) c.index-commands-index.is d.holds e.holds (i.moments t n before s) (c.do_command.ensures.moments (i.told t) (i.named t ∙ (n ∙ sym i.paths)) d.state d.stands_for)
          (c.do_rounds.ensures.moments (o.told (i.told t)) (o.named (i.told t) ∙ (i.named t ∙ (n ∙ (sym i.paths ∙ sym o.paths)))) e.state e.stands_for);
      named = λ t. r.named (o.told (i.told t)) ∙ (o.named (i.told t) ∙ i.named t);
      told = λ t. r.told (o.told (i.told t));
      count = let a = c.in_ok-add.ensures.count in let b = i.count in omega arith;
      last = i.last;
      fits = r.fits;
      paths = r.paths ∙ (o.paths ∙ i.paths);
      sizes = r.sizes ∙ (o.sizes ∙ i.sizes);
      none_fell = fell_more _ _ _ i.none_fell (fell_more _ _ _ o.none_fell r.none_fell);
    }

pub returns-in_err-reply-clause-moments : goal.returns-in_err-reply-clause-moments
returns-in_err-reply-clause-moments g c = λ t n before s.
    let i = c.loop-index.invariant in
    let d = i.done t n before s in
    given_moments g.P.Pool.meaning c.args.course.now.rounds c.args.commands.now c.loop-index.index c.index-commands-index.result c.loop-index.tally before d.state _ _ _ (let e = i.last in let l = c.loop-index-test.true in omega arith) c.index-commands-index.is d.holds (i.moments t n before s) (c.do_command.ensures.moments (i.told t) (i.named t ∙ (n ∙ sym i.paths)) d.state d.stands_for)

pub returns-in_err-add-clause-moments : goal.returns-in_err-add-clause-moments
returns-in_err-add-clause-moments g c = λ t n before s.
    let i = c.loop-index.invariant in
    let d = i.done t n before s in
    given_moments g.P.Pool.meaning c.args.course.now.rounds c.args.commands.now c.loop-index.index c.index-commands-index.result c.loop-index.tally before d.state _ _ _ (let e = i.last in let l = c.loop-index-test.true in omega arith) c.index-commands-index.is d.holds (i.moments t n before s) (c.do_command.ensures.moments (i.told t) (i.named t ∙ (n ∙ sym i.paths)) d.state d.stands_for)

pub returns-in_err-do_rounds-clause-moments : goal.returns-in_err-do_rounds-clause-moments
returns-in_err-do_rounds-clause-moments g c = λ t n before s.
    let i = c.loop-index.invariant in
    let o = c.in_ok-reply.ensures in
    let d = i.done t n before s in
    let e = o.done (i.told t) (i.named t ∙ (n ∙ sym i.paths)) d.state d.stands_for in
    behind_moments g.P.Pool.meaning c.args.course.now.rounds c.args.commands.now c.loop-index.index c.index-commands-index.result _ c.loop-index.tally before d.state e.state _ _ _ _ (let e = i.last in let l = c.loop-index-test.true in omega arith) c.index-commands-index.is d.holds e.holds (i.moments t n before s) (c.do_command.ensures.moments (i.told t) (i.named t ∙ (n ∙ sym i.paths)) d.state d.stands_for)
    (c.do_rounds.ensures.moments (o.told (i.told t)) (o.named (i.told t) ∙ (i.named t ∙ (n ∙ (sym i.paths ∙ sym o.paths)))) e.state e.stands_for)
