use Rattle.std.proofs.Common.{sym, ap, ◌∙◌, arith, subst}
use Rattle.std.proofs.lemmas.Result.{err_from_is_err_and}
use Rattle.zr_shelf.specs.Moments.{IsStill}
use Rattle.zr_session.specs.Ends.{EndsAs}
use Rattle.zr_session.proofs.Going.{stands_piece, stands_end, left_end}
use Rattle.zr_session.proofs.Ending.{ends_taken}
use Rattle.zr_shelf.proofs.Runs.{joined}
use Rattle.zr_session.specs.Moments.{IsMoment}
use Rattle.zr_session.proofs.Moments.{take_moments}
use Rattle.zr_session.proofs.session.take_piece.Goals as goal

pub returns-in-Err-Failed-clause-ends : goal.returns-in-Err-Failed-clause-ends
returns-in-Err-Failed-clause-ends g c = λ t n opening taken m a.
    ends_taken _ _ opening _ _ a.state _ _ taken a.holds (let h : IsStill (g.D.Shelf.world c.args.desk.now) (g.D.Shelf.world c.take.new.self) = c.in-Err-Failed.ensures.world t in h.now)

pub returns-then-count-eq0-clause-ends : goal.returns-then-count-eq0-clause-ends
returns-then-count-eq0-clause-ends g c = λ t n opening taken m a.
    let w = (c.in-Ok.ensures.world t).left in
    let z = c.if-count-eq0.true in
    c.finish.ensures.ends (c.take.ensures.told t) (ap (λ s. s.paths) w.2 ∙ n) (left_end _ _ _ _ w z (c.in-Ok.ensures.end t z c.requires.room)) opening taken (let r = c.requires.room in omega arith)
    (stands_end _ _ _ opening _ _ _ _ _ _ taken a w z (omega arith))

pub returns-in_err-take_up-clause-ends : goal.returns-in_err-take_up-clause-ends
returns-in_err-take_up-clause-ends g c = λ t n.
    let w = (c.in-Ok.ensures.world t).left in
    let p = err_from_is_err_and c.from_residual.result c.from_residual.ensures.1 in
    rw p.1 (λ opening taken m a.
    let ended : EndsAs g.P.Pool.meaning c.args.course.now.rounds c.in_err-take_up.field-0.0 opening (g.D.Shelf.world c.take_up.new.desk).now =
    c.in_err-take_up.ensures.ends (c.take.ensures.told t) (ap (λ s. s.paths) w.2 ∙ n) opening _ (stands_piece _ _ _ opening _ _ _ _ _ _ taken a w (let l = c.take.auto.out in let k = c.in-Ok.ensures.count in omega arith) (let l = c.take.auto.out in omega arith) (let l = c.take.auto.out in let f = c.requires.piece in omega arith)) in
    subst (λ e. EndsAs g.P.Pool.meaning c.args.course.now.rounds e opening (g.D.Shelf.world c.take_up.new.desk).now) (sym p.2) ended)

-- ---- at each moment

pub returns-in-Err-Failed-clause-moments : goal.returns-in-Err-Failed-clause-moments
returns-in-Err-Failed-clause-moments g c = λ t n opening taken m a.
    take_moments g.P.Pool.meaning c.args.course.now.rounds opening _ _ a.state _ _ taken _ c.take.result a.holds (g.P.Pool.rests _ (g.D.Shelf.world c.args.desk.now).now a.state n a.stands_for) (c.take.ensures.world t)

pub returns-in-Err-NoMemory-clause-moments : goal.returns-in-Err-NoMemory-clause-moments
returns-in-Err-NoMemory-clause-moments g c = λ t n opening taken m a.
    take_moments g.P.Pool.meaning c.args.course.now.rounds opening _ _ a.state _ _ taken _ c.take.result a.holds (g.P.Pool.rests _ (g.D.Shelf.world c.args.desk.now).now a.state n a.stands_for) (c.take.ensures.world t)

pub returns-then-count-eq0-clause-moments : goal.returns-then-count-eq0-clause-moments
returns-then-count-eq0-clause-moments g c = λ t n opening taken m a.
    let w = (c.in-Ok.ensures.world t).left in
    let z = c.if-count-eq0.true in
    joined (IsMoment g.P.Pool.meaning c.args.course.now.rounds opening) (g.D.Shelf.world c.args.desk.now) (g.D.Shelf.world c.take.new.self) (g.D.Shelf.world c.finish.new.desk) (take_moments g.P.Pool.meaning c.args.course.now.rounds opening _ _ a.state _ _ taken _ c.take.result a.holds (g.P.Pool.rests _ (g.D.Shelf.world c.args.desk.now).now a.state n a.stands_for) (c.take.ensures.world t))
    (c.finish.ensures.moments (c.take.ensures.told t) (ap (λ s. s.paths) w.2 ∙ n) (left_end _ _ _ _ w z (c.in-Ok.ensures.end t z c.requires.room)) opening taken
    (stands_end _ _ _ opening _ _ _ _ _ _ taken a w z (let r = c.requires.room in omega arith)))

pub returns-in_err-take_up-clause-moments : goal.returns-in_err-take_up-clause-moments
returns-in_err-take_up-clause-moments g c = λ t n opening taken m a.
    let w = (c.in-Ok.ensures.world t).left in
    joined (IsMoment g.P.Pool.meaning c.args.course.now.rounds opening) (g.D.Shelf.world c.args.desk.now) (g.D.Shelf.world c.take.new.self) (g.D.Shelf.world c.take_up.new.desk) (take_moments g.P.Pool.meaning c.args.course.now.rounds opening _ _ a.state _ _ taken _ c.take.result a.holds (g.P.Pool.rests _ (g.D.Shelf.world c.args.desk.now).now a.state n a.stands_for) (c.take.ensures.world t))
    (c.take_up.ensures.moments (c.take.ensures.told t) (ap (λ s. s.paths) w.2 ∙ n) opening _ (stands_piece _ _ _ opening _ _ _ _ _ _ taken a w (let l = c.take.auto.out in let k = c.in-Ok.ensures.count in omega arith) (let l = c.take.auto.out in omega arith) (let l = c.take.auto.out in let f = c.requires.piece in omega arith)))

pub returns-clause-moments : goal.returns-clause-moments
returns-clause-moments g c = λ t n opening taken m a.
    let w = (c.in-Ok.ensures.world t).left in
    joined (IsMoment g.P.Pool.meaning c.args.course.now.rounds opening) (g.D.Shelf.world c.args.desk.now) (g.D.Shelf.world c.take.new.self) (g.D.Shelf.world c.take_up.new.desk) (take_moments g.P.Pool.meaning c.args.course.now.rounds opening _ _ a.state _ _ taken _ c.take.result a.holds (g.P.Pool.rests _ (g.D.Shelf.world c.args.desk.now).now a.state n a.stands_for) (c.take.ensures.world t))
    (c.take_up.ensures.moments (c.take.ensures.told t) (ap (λ s. s.paths) w.2 ∙ n) opening _ (stands_piece _ _ _ opening _ _ _ _ _ _ taken a w (let l = c.take.auto.out in let k = c.in-Ok.ensures.count in omega arith) (let l = c.take.auto.out in omega arith) (let l = c.take.auto.out in let f = c.requires.piece in omega arith)))
