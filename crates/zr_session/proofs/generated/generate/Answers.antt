use Rattle.std.proofs.Common.{◌≡◌, sym, ap, subst, ◌∙◌, map}
use Rattle.zr_command.specs.Meanings.{disks_of}
use Rattle.zr_script.specs.Generated.{script_of}
use Rattle.zr_session.specs.Agenda.{agenda}
use Rattle.zr_session.specs.Tallied.{DoesCommands, StopsAmong}
use Rattle.zr_words.specs.Views.{path_of}
use Rattle.zr_session.proofs.Generating.{none_generated, line_sent, line_unmade, ends_among}
use Rattle.zr_shelf.specs.Moments.{Throughout}
use Rattle.zr_script.specs.declared.command.Command.{Command}
use Rattle.zr_session.specs.Agenda.{IsGiven}
use Rattle.zr_session.specs.Moments.{IsMomentOf}
use Rattle.zr_session.specs.declared.replies.Replies.TheVariants.{Kept}
use Rattle.zr_session.proofs.Telling.{generated_moments, telling_moments}
use Rattle.zr_session.proofs.generated.generate.Goals as goal

pub returns-in_default-clause-ends : goal.returns-in_default-clause-ends
returns-in_default-clause-ends g c = λ t n. none_generated _ _ _

pub returns-in_default-script_of-clause-ends : goal.returns-in_default-script_of-clause-ends
returns-in_default-script_of-clause-ends g c = λ t n. none_generated _ _ _

pub returns-in-Err-clause-ends : goal.returns-in-Err-clause-ends
returns-in-Err-clause-ends g c = λ t n.
    let same : c.as_slice-2.result.now ≡ script_of c.args.number c.args.count (map path_of c.args.devices.now) =
    c.as_slice-2.ensures ∙ (c.in-Ok-script_of.ensures.commands ∙ ap (script_of c.args.number c.args.count) (c.as_slice.ensures ∙ c.in-Ok.ensures)) in
    let stop = c.in-Err.ensures.stopped t n (g.P.Pool.meaning.none (disks_of (g.D.Shelf.world c.args.desk.now).now)) (c.requires.closed _) in
    ends_among g.P.Pool.meaning (record { number = c.args.number; count = c.args.count; devs = map path_of c.args.devices.now; rounds = c.args.course.now.rounds }) _ _ c.in-Err.end
    (subst (λ cs. StopsAmong g.P.Pool.meaning (agenda c.args.course.now.rounds cs) (g.P.Pool.meaning.none (disks_of (g.D.Shelf.world c.args.desk.now).now)) (g.D.Shelf.world c.args.desk.now).now (g.D.Shelf.world c.do_commands.new.desk).now c.in-Err.end) same stop)

pub returns-in_default-line-clause-ends : goal.returns-in_default-line-clause-ends
returns-in_default-line-clause-ends g c = λ t n.
    let same : c.as_slice-2.result.now ≡ script_of c.args.number c.args.count (map path_of c.args.devices.now) =
    c.as_slice-2.ensures ∙ (c.in-Ok-script_of.ensures.commands ∙ ap (script_of c.args.number c.args.count) (c.as_slice.ensures ∙ c.in-Ok.ensures)) in
    let d = c.in-Ok-do_commands.ensures.done t n (g.P.Pool.meaning.none (disks_of (g.D.Shelf.world c.args.desk.now).now)) (c.requires.closed _) in
    line_unmade g.P.Pool.meaning (record { number = c.args.number; count = c.args.count; devs = map path_of c.args.devices.now; rounds = c.args.course.now.rounds }) _ _ d.state c.in-Ok-do_commands.tally
    (subst (λ cs. DoesCommands g.P.Pool.meaning (agenda c.args.course.now.rounds cs) c.in-Ok-do_commands.tally (g.P.Pool.meaning.none (disks_of (g.D.Shelf.world c.args.desk.now).now)) d.state (g.D.Shelf.world c.args.desk.now).now (g.D.Shelf.world c.do_commands.new.desk).now) same d.holds)

pub returns-clause-ends : goal.returns-clause-ends
returns-clause-ends g c = λ t n.
    let same : c.as_slice-2.result.now ≡ script_of c.args.number c.args.count (map path_of c.args.devices.now) =
    c.as_slice-2.ensures ∙ (c.in-Ok-script_of.ensures.commands ∙ ap (script_of c.args.number c.args.count) (c.as_slice.ensures ∙ c.in-Ok.ensures)) in
    let d = c.in-Ok-do_commands.ensures.done t n (g.P.Pool.meaning.none (disks_of (g.D.Shelf.world c.args.desk.now).now)) (c.requires.closed _) in
    let h : DoesCommands g.P.Pool.meaning (agenda c.args.course.now.rounds (script_of c.args.number c.args.count (map path_of c.args.devices.now))) c.in-Ok-do_commands.tally (g.P.Pool.meaning.none (disks_of (g.D.Shelf.world c.args.desk.now).now)) d.state (g.D.Shelf.world c.args.desk.now).now (g.D.Shelf.world c.do_commands.new.desk).now =
    subst (λ cs. DoesCommands g.P.Pool.meaning (agenda c.args.course.now.rounds cs) c.in-Ok-do_commands.tally (g.P.Pool.meaning.none (disks_of (g.D.Shelf.world c.args.desk.now).now)) d.state (g.D.Shelf.world c.args.desk.now).now (g.D.Shelf.world c.do_commands.new.desk).now) same d.holds in
    line_sent g.P.Pool.meaning (record { number = c.args.number; count = c.args.count; devs = map path_of c.args.devices.now; rounds = c.args.course.now.rounds }) _ _ _ d.state c.in-Ok-do_commands.tally _ c.tell.result h
    (c.as_slice-3.ensures.value ∙ c.in-Ok-line.ensures _ h.tallied) (c.tell.ensures.told_it (c.do_commands.ensures.told t))

pub returns-in-Err-clause-moments : goal.returns-in-Err-clause-moments
returns-in-Err-clause-moments g c = λ t n.
    let same : c.as_slice-2.result.now ≡ script_of c.args.number c.args.count (map path_of c.args.devices.now) =
    c.as_slice-2.ensures ∙ (c.in-Ok-script_of.ensures.commands ∙ ap (script_of c.args.number c.args.count) (c.as_slice.ensures ∙ c.in-Ok.ensures)) in
    generated_moments g.P.Pool.meaning (record { number = c.args.number; count = c.args.count; devs = map path_of c.args.devices.now; rounds = c.args.course.now.rounds }) _ _
    (subst (λ cs. Throughout (IsMomentOf Command g.P.Pool.meaning IsGiven Kept (agenda c.args.course.now.rounds cs) (g.P.Pool.meaning.none (disks_of (g.D.Shelf.world c.args.desk.now).now)) (g.D.Shelf.world c.args.desk.now).now) (g.D.Shelf.world c.args.desk.now) (g.D.Shelf.world c.do_commands.new.desk)) same
    (c.do_commands.ensures.moments t n (g.P.Pool.meaning.none (disks_of (g.D.Shelf.world c.args.desk.now).now)) (c.requires.closed _)))

pub returns-in_default-line-clause-moments : goal.returns-in_default-line-clause-moments
returns-in_default-line-clause-moments g c = λ t n.
    let same : c.as_slice-2.result.now ≡ script_of c.args.number c.args.count (map path_of c.args.devices.now) =
    c.as_slice-2.ensures ∙ (c.in-Ok-script_of.ensures.commands ∙ ap (script_of c.args.number c.args.count) (c.as_slice.ensures ∙ c.in-Ok.ensures)) in
    generated_moments g.P.Pool.meaning (record { number = c.args.number; count = c.args.count; devs = map path_of c.args.devices.now; rounds = c.args.course.now.rounds }) _ _
    (subst (λ cs. Throughout (IsMomentOf Command g.P.Pool.meaning IsGiven Kept (agenda c.args.course.now.rounds cs) (g.P.Pool.meaning.none (disks_of (g.D.Shelf.world c.args.desk.now).now)) (g.D.Shelf.world c.args.desk.now).now) (g.D.Shelf.world c.args.desk.now) (g.D.Shelf.world c.do_commands.new.desk)) same
    (c.do_commands.ensures.moments t n (g.P.Pool.meaning.none (disks_of (g.D.Shelf.world c.args.desk.now).now)) (c.requires.closed _)))

pub returns-clause-moments : goal.returns-clause-moments
returns-clause-moments g c = λ t n.
    let same : c.as_slice-2.result.now ≡ script_of c.args.number c.args.count (map path_of c.args.devices.now) =
    c.as_slice-2.ensures ∙ (c.in-Ok-script_of.ensures.commands ∙ ap (script_of c.args.number c.args.count) (c.as_slice.ensures ∙ c.in-Ok.ensures)) in
    let d = c.in-Ok-do_commands.ensures.done t n (g.P.Pool.meaning.none (disks_of (g.D.Shelf.world c.args.desk.now).now)) (c.requires.closed _) in
    let h : DoesCommands g.P.Pool.meaning (agenda c.args.course.now.rounds (script_of c.args.number c.args.count (map path_of c.args.devices.now))) c.in-Ok-do_commands.tally (g.P.Pool.meaning.none (disks_of (g.D.Shelf.world c.args.desk.now).now)) d.state (g.D.Shelf.world c.args.desk.now).now (g.D.Shelf.world c.do_commands.new.desk).now =
    subst (λ cs. DoesCommands g.P.Pool.meaning (agenda c.args.course.now.rounds cs) c.in-Ok-do_commands.tally (g.P.Pool.meaning.none (disks_of (g.D.Shelf.world c.args.desk.now).now)) d.state (g.D.Shelf.world c.args.desk.now).now (g.D.Shelf.world c.do_commands.new.desk).now) same d.holds in
    telling_moments g.P.Pool.meaning (record { number = c.args.number; count = c.args.count; devs = map path_of c.args.devices.now; rounds = c.args.course.now.rounds }) d.state c.in-Ok-do_commands.tally _ _ _ _ h (c.as_slice-3.ensures.value ∙ c.in-Ok-line.ensures _ h.tallied)
    (g.P.Pool.rests c.do_commands.new.pool (g.D.Shelf.world c.do_commands.new.desk).now d.state (c.in-Ok-do_commands.ensures.named t ∙ (n ∙ sym c.in-Ok-do_commands.ensures.paths)) d.stands_for)
    (subst (λ cs. Throughout (IsMomentOf Command g.P.Pool.meaning IsGiven Kept (agenda c.args.course.now.rounds cs) (g.P.Pool.meaning.none (disks_of (g.D.Shelf.world c.args.desk.now).now)) (g.D.Shelf.world c.args.desk.now).now) (g.D.Shelf.world c.args.desk.now) (g.D.Shelf.world c.do_commands.new.desk)) same
    (c.do_commands.ensures.moments t n (g.P.Pool.meaning.none (disks_of (g.D.Shelf.world c.args.desk.now).now)) (c.requires.closed _)))
    (c.tell.ensures.moments (c.do_commands.ensures.told t))
