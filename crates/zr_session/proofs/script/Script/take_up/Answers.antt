use Rattle.std.proofs.Common.{◌+◌, sym, ap, ◌∙◌, arith, length, length-append, subst}
use Rattle.std.proofs.lemmas.Result.{IfErr-weaker, on_ok_weaker, err_from_is_err_and}
use Rattle.zr_session.specs.Ends.{EndsAs}
use Rattle.zr_session.proofs.Sending.{fell_more, from_three}
use Rattle.zr_session.proofs.Going.{stands_line, stands_kept}
use Rattle.zr_session.proofs.Ending.{ends_part, ends_rest}
use Rattle.zr_script.specs.ReplyText as text
use Rattle.zr_session.proofs.Moments.{part_moments, end_moments}
use Rattle.zr_session.proofs.script.Script.take_up.Goals as goal

pub returns-in_err-end_line-clause-ends : goal.returns-in_err-end_line-clause-ends
returns-in_err-end_line-clause-ends g c = λ t n.
    let i = c.loop-part.invariant in
    let p = err_from_is_err_and c.from_residual.result c.from_residual.ensures.1 in
    rw p.1 (λ opening taken a.
    let s = i.at t n opening taken a in
    let ended : EndsAs g.P.Pool.meaning c.args.course.now.rounds c.in_err-end_line.field-0.0 opening (g.D.Shelf.world c.end_line.new.desk).now =
    ends_part _ _ opening _ _ s.state _ _ c.in-Some.part.now c.in-Some.more.now _ taken _ s.holds c.in-Some.ensures.some.0 c.in-Some.ensures.some.1
    (c.in_err-end_line.ensures.stopped (i.told t) (i.named t ∙ (n ∙ sym i.paths)) s.state s.stands_for) in
    subst (λ e. EndsAs g.P.Pool.meaning c.args.course.now.rounds e opening (g.D.Shelf.world c.end_line.new.desk).now) (sym p.2) ended)

pub loop-part-preserved : goal.loop-part-preserved
loop-part-preserved g c =
    let i = c.loop-part.invariant in
    let s = c.in-Some.ensures.some in
    let o = c.in_ok-end_line.ensures in
    let parts = ap length s.0 ∙ length-append c.in-Some.part.now _ in
    record {
      at = λ t n opening taken a. stands_line _ _ _ _ opening _ _ _ _ c.in-Some.part.now _ _ taken _ _ (i.at t n opening taken a) s.0 s.1 (o.answered (i.told t) (i.named t ∙ (n ∙ sym i.paths))) o.line o.lines;
      moments = λ t n opening taken a.
          let s = i.at t n opening taken a in
          part_moments g.P.Pool.meaning c.args.course.now.rounds opening _ _ _ s.state _ _ c.in-Some.part.now c.in-Some.more.now _ taken s.holds c.in-Some.ensures.some.0 c.in-Some.ensures.some.1 (i.moments t n opening taken a)
          (c.end_line.ensures.moments (i.told t) (i.named t ∙ (n ∙ sym i.paths)) s.state s.stands_for);
      named = λ t. o.named (i.told t) ∙ i.named t;
      told = λ t. o.told (i.told t);
      lines = let l = i.lines in let e = o.lines in omega arith;
      short = let e = ap length o.line in omega arith;
      fits = o.fits;
      paths = o.paths ∙ i.paths;
      sizes = o.sizes ∙ i.sizes;
      none_fell = fell_more _ _ _ i.none_fell o.none_fell;
    }

pub returns-clause-at : goal.returns-clause-at
returns-clause-at g c = λ t n.
    let i = c.loop-part.invariant in
    from_three c.carry_over.result _ _ _ _ c.carry_over.ensures.same c.carry_over.ensures.line c.carry_over.ensures.short
    (λ same line short opening taken a.
    stands_kept _ _ _ opening _ _ _ _ _ _ _ taken (i.at t n opening taken a) c.in_default.ensures.none (ap (λ d. (g.D.Shelf.world d).now) same) line short c.carry_over.ensures.lines)

pub returns-clause-ends : goal.returns-clause-ends
returns-clause-ends g c = λ t n.
    let i = c.loop-part.invariant in
    IfErr-weaker c.carry_over.result _ _ (λ end h opening taken a. let s = i.at t n opening taken a in ends_rest _ _ opening _ _ s.state _ _ _ taken end s.holds c.in_default.ensures.none h) (c.carry_over.ensures.stopped (i.told t))

pub returns-clause-named : goal.returns-clause-named
returns-clause-named g c = λ t.
    let i = c.loop-part.invariant in
    on_ok_weaker c.carry_over.result (λ same. ap (λ d. (g.D.Shelf.world d).now.paths) same ∙ i.named t) c.carry_over.ensures.same

-- ---- at each moment

pub returns-in_err-end_line-clause-moments : goal.returns-in_err-end_line-clause-moments
returns-in_err-end_line-clause-moments g c = λ t n opening taken a.
    let i = c.loop-part.invariant in
    let s = i.at t n opening taken a in
    part_moments g.P.Pool.meaning c.args.course.now.rounds opening _ _ _ s.state _ _ c.in-Some.part.now c.in-Some.more.now _ taken s.holds c.in-Some.ensures.some.0 c.in-Some.ensures.some.1 (i.moments t n opening taken a)
    (c.end_line.ensures.moments (i.told t) (i.named t ∙ (n ∙ sym i.paths)) s.state s.stands_for)

pub returns-clause-moments : goal.returns-clause-moments
returns-clause-moments g c = λ t n opening taken a.
    let i = c.loop-part.invariant in
    let s = i.at t n opening taken a in
    end_moments g.P.Pool.meaning c.args.course.now.rounds opening _ (g.D.Shelf.world c.loop-part.desk) _ s.state _ _ _ taken (text.BadLine (c.loop-part.self.lines + 1)) s.holds
    (g.P.Pool.rests c.loop-part.pool (g.D.Shelf.world c.loop-part.desk).now s.state (i.named t ∙ (n ∙ sym i.paths)) s.stands_for) (i.moments t n opening taken a) (c.carry_over.ensures.moments (i.told t))
