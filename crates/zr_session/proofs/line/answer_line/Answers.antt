use Rattle.std.proofs.Common.{ℕ, List, ◌∙◌, sym, subst}
use Rattle.std.proofs.lemmas.Result.{IfErr-weaker, on_ok_weaker, err_from_is_err_and}
use Rattle.zr_model.specs.Runs.{Asks}
use Rattle.zr_session.specs.declared.replies.Replies.TheVariants.{Sent}
use Rattle.zr_session.specs.Lines.{StopsAtLine, command, within}
use Rattle.zr_session.proofs.Sending.{for_one}
use Rattle.zr_script.specs.ReplyText as text
use Rattle.zr_session.proofs.Moments.{command_moments, line_moments, told_moments}
use Rattle.zr_session.proofs.Playing.{does_both, does_given, rounds_among, stops_among}
use Rattle.zr_session.proofs.line.answer_line.Goals as goal

pub returns-in_err-do_command-clause-stopped : goal.returns-in_err-do_command-clause-stopped
returns-in_err-do_command-clause-stopped g c = λ t n before s.
    let reads = rw c.in-Some.is at c.in_ok-command.ensures in
    let asks : Asks c.args.line.now c.in-Some.command = (reads, c.is_quit.ensures.no c.if-is_quit.false) in
    let p = err_from_is_err_and c.from_residual-in_err-do_command.result c.from_residual-in_err-do_command.ensures.1 in
    rw p.1 (
    let stop : StopsAtLine g.P.Pool.meaning c.args.course.now.rounds c.args.line.now c.args.number before (g.D.Shelf.world c.args.desk.now).now (g.D.Shelf.world c.do_command.new.desk).now c.in_err-do_command.field-0.0 =
    command c.in-Some.command asks (c.in_err-do_command.ensures.stopped t n before s) in
    subst (λ e. StopsAtLine g.P.Pool.meaning c.args.course.now.rounds c.args.line.now c.args.number before (g.D.Shelf.world c.args.desk.now).now (g.D.Shelf.world c.do_command.new.desk).now e) (sym p.2) stop)

pub returns-clause-answered : goal.returns-clause-answered
returns-clause-answered g c = λ t n before s.
    let reads = rw c.in-Some.is at c.in_ok-command.ensures in
    let asks : Asks c.args.line.now c.in-Some.command = (reads, c.is_quit.ensures.no c.if-is_quit.false) in
    let o = c.in_ok-do_command.ensures in
    let d = o.done t n before s in
    let given = does_given (List ℕ) g.P.Pool.meaning Asks Sent c.args.line.now c.in-Some.command _ before d.state _ _ asks d.holds in
    on_ok_weaker c.do_rounds.result (for_one _ _ _ _ (λ after r. does_both (List ℕ) g.P.Pool.meaning Asks Sent _ _ before d.state after _ _ _ given (rounds_among (List ℕ) g.P.Pool.meaning Asks Sent c.args.course.now.rounds d.state after _ _ r)))
    (c.do_rounds.ensures.done (o.told t) (o.named t ∙ (n ∙ sym o.paths)) d.state d.stands_for)

pub returns-clause-stopped : goal.returns-clause-stopped
returns-clause-stopped g c = λ t n before s.
    let reads = rw c.in-Some.is at c.in_ok-command.ensures in
    let asks : Asks c.args.line.now c.in-Some.command = (reads, c.is_quit.ensures.no c.if-is_quit.false) in
    let o = c.in_ok-do_command.ensures in
    let d = o.done t n before s in
    let given = does_given (List ℕ) g.P.Pool.meaning Asks Sent c.args.line.now c.in-Some.command _ before d.state _ _ asks d.holds in
    IfErr-weaker c.do_rounds.result _ _ (λ end h. within d.state _ given (stops_among (List ℕ) g.P.Pool.meaning Asks Sent c.args.course.now.rounds c.args.number d.state _ _ end h)) (c.do_rounds.ensures.stopped (o.told t) (o.named t ∙ (n ∙ sym o.paths)) d.state d.stands_for)

pub returns-clause-named : goal.returns-clause-named
returns-clause-named g c = λ t.
    let o = c.in_ok-do_command.ensures in
    on_ok_weaker c.do_rounds.result (λ same. same ∙ o.named t) (c.do_rounds.ensures.named (o.told t))

-- ---- at each moment

pub returns-in_default-clause-moments : goal.returns-in_default-clause-moments
returns-in_default-clause-moments g c = λ t n before s.
    told_moments (List ℕ) g.P.Pool.meaning Asks Sent _ before _ _ (text.BadLine c.args.number) (g.P.Pool.rests _ (g.D.Shelf.world c.args.desk.now).now before n s) (c.refuse_line.ensures.moments t)

pub returns-in_err-do_command-clause-moments : goal.returns-in_err-do_command-clause-moments
returns-in_err-do_command-clause-moments g c = λ t n before s.
    let reads = rw c.in-Some.is at c.in_ok-command.ensures in
    let asks : Asks c.args.line.now c.in-Some.command = (reads, c.is_quit.ensures.no c.if-is_quit.false) in
    command_moments g.P.Pool.meaning c.args.course.now.rounds c.args.line.now c.in-Some.command before _ _ asks (c.do_command.ensures.moments t n before s)

pub returns-clause-moments : goal.returns-clause-moments
returns-clause-moments g c = λ t n before s.
    let reads = rw c.in-Some.is at c.in_ok-command.ensures in
    let asks : Asks c.args.line.now c.in-Some.command = (reads, c.is_quit.ensures.no c.if-is_quit.false) in
    let o = c.in_ok-do_command.ensures in
    let d = o.done t n before s in
    let given = does_given (List ℕ) g.P.Pool.meaning Asks Sent c.args.line.now c.in-Some.command _ before d.state _ _ asks d.holds in
    line_moments g.P.Pool.meaning c.args.course.now.rounds c.args.line.now c.in-Some.command before d.state _ _ _ asks given (c.do_command.ensures.moments t n before s)
    (c.do_rounds.ensures.moments (o.told t) (o.named t ∙ (n ∙ sym o.paths)) d.state d.stands_for)
