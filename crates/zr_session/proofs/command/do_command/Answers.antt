use Rattle.std.proofs.Common.{refl, sym, ap, ◌∙◌, Err}
use Rattle.zr_command.specs.Meanings.{MayBeDamaged}
use Rattle.zr_session.specs.declared.end.End.TheVariants.{DiskFault, Damaged}
use Rattle.zr_session.specs.Ends.{HasCause}
use Rattle.zr_session.specs.Lines.{StopsAtCommand}
use Rattle.zr_base.specs.declared.refusal.Refusal.TheVariants as refusal
use Rattle.zr_script.specs.ReplyText as text
use Rattle.zr_session.proofs.Moments.{at_it, then_replied, then_told}
use Rattle.zr_session.proofs.Sending.{err_with, does_by, stops_reply, stops_unserved, stops_fault, stops_damage, cause_told, cause_from}
use Rattle.zr_session.proofs.command.do_command.Goals as goal

pub returns-in_ok-hand_on-in-Ok-Some-clause-done : goal.returns-in_ok-hand_on-in-Ok-Some-clause-done
returns-in_ok-hand_on-in-Ok-Some-clause-done g c = λ t n before s.
    let step = rw (c.in-Ok-Some.is, c.in-Ok-Some.field-0-is) at (c.command.ensures.step t n before s) in
    let out = (c.command.ensures.outside t).now in
    does_by _ _ c.args.replies _ _ _ _ _ _ out step (c.in_ok-hand_on-in-Ok-Some.ensures.sent (c.command.ensures.told t))

pub returns-in_err-hand_on-in-Ok-Some-clause-stopped : goal.returns-in_err-hand_on-in-Ok-Some-clause-stopped
returns-in_err-hand_on-in-Ok-Some-clause-stopped g c = λ t n before s.
    let step = rw (c.in-Ok-Some.is, c.in-Ok-Some.field-0-is) at (c.command.ensures.step t n before s) in
    let out = (c.command.ensures.outside t).now in
    err_with c.from_residual.result _ (StopsAtCommand g.P.Pool.meaning c.args.replies c.args.command.now c.args.number before (g.D.Shelf.world c.args.desk.now).now (g.D.Shelf.world c.hand_on.new.desk).now) c.from_residual.ensures.1
    (stops_reply _ _ c.args.command.now c.args.number before _ _ _ _ _ _ out step.takes (c.in_err-hand_on-in-Ok-Some.ensures.partly (c.command.ensures.told t)))

pub returns-in_err-hand_on-in-Ok-Some-clause-cause : goal.returns-in_err-hand_on-in-Ok-Some-clause-cause
returns-in_err-hand_on-in-Ok-Some-clause-cause g c =
    err_with c.from_residual.result _ (HasCause (MayBeDamaged g.P.Pool.meaning) (g.D.Shelf.counts c.args.desk.now) (g.D.Shelf.counts c.hand_on.new.desk)) c.from_residual.ensures.1
    (cause_from (MayBeDamaged g.P.Pool.meaning) _ _ _ _ c.command.ensures.none_fell c.in_err-hand_on-in-Ok-Some.ensures.cause)

pub returns-in-Ok-None-clause-stopped : goal.returns-in-Ok-None-clause-stopped
returns-in-Ok-None-clause-stopped g c = λ t n before s.
    let none = rw (c.in-Ok-None.is, c.in-Ok-None.field-0-is) at (c.command.ensures.none _ before s) in
    let out = (c.command.ensures.outside t).now in
    stops_unserved _ _ _ c.args.number _ _ _ _ _ _ out n none (c.refuse_line.ensures.told_it (c.command.ensures.told t))

pub returns-in-Ok-None-clause-cause : goal.returns-in-Ok-None-clause-cause
returns-in-Ok-None-clause-cause g c = cause_from (MayBeDamaged g.P.Pool.meaning) _ _ _ _ c.command.ensures.none_fell c.refuse_line.ensures.cause

pub returns-in-Err-DiskFault-clause-stopped : goal.returns-in-Err-DiskFault-clause-stopped
returns-in-Err-DiskFault-clause-stopped g c = λ t n before s.
    let out = (c.command.ensures.outside t).now in
    stops_fault _ _ _ c.args.number _ _ _ _ _ _ out refl (c.tell.ensures.told_it (c.command.ensures.told t))

pub returns-in-Err-DiskFault-clause-cause : goal.returns-in-Err-DiskFault-clause-cause
returns-in-Err-DiskFault-clause-cause g c =
    cause_told (MayBeDamaged g.P.Pool.meaning) _ _ _ DiskFault _ (c.command.ensures.failed (c.in-Err-DiskFault.is ∙ ap Err c.in-Err-DiskFault.field-0-is)) c.command.ensures.none_fell c.tell.ensures.none_fell c.tell.ensures.cause

pub returns-in-Err-Damaged-clause-stopped : goal.returns-in-Err-Damaged-clause-stopped
returns-in-Err-Damaged-clause-stopped g c = λ t n before s.
    let out = (c.command.ensures.outside t).now in
    let met = c.command.ensures.damaged t before s _ _ _ (c.in-Err-Damaged.is ∙ ap Err c.in-Err-Damaged.field-0-is) in
    let told_it = rw c.in-Err-Damaged.field-0-is at (c.tell_damage.ensures.told_it (c.command.ensures.told t)) in
    stops_damage _ _ _ c.args.number _ _ _ _ _ _ out met told_it

pub returns-in-Err-Damaged-clause-cause : goal.returns-in-Err-Damaged-clause-cause
returns-in-Err-Damaged-clause-cause g c =
    let met = c.command.ensures.may_damage _ _ _ (c.in-Err-Damaged.is ∙ ap Err c.in-Err-Damaged.field-0-is) in
    cause_told (MayBeDamaged g.P.Pool.meaning) _ _ _ Damaged _ met c.command.ensures.none_fell c.tell_damage.ensures.none_fell c.tell_damage.ensures.cause

-- ---- at each moment

pub returns-in_ok-hand_on-in-Ok-Some-clause-moments : goal.returns-in_ok-hand_on-in-Ok-Some-clause-moments
returns-in_ok-hand_on-in-Ok-Some-clause-moments g c = λ t n before s.
    let step = rw (c.in-Ok-Some.is, c.in-Ok-Some.field-0-is) at (c.command.ensures.step t n before s) in
    let out = c.command.ensures.outside t in
    then_replied g.P.Pool.meaning c.args.replies c.args.command.now before _ _ _ (c.command.ensures.moments t n before s) out step.after _ step.takes
    (g.P.Pool.rests _ (g.D.Shelf.world c.command.new.shelf).now step.after (out.now.paths ∙ (n ∙ sym c.command.ensures.paths)) step.stands_for) (c.hand_on.ensures.moments (c.command.ensures.told t))

pub returns-in_err-hand_on-in-Ok-Some-clause-moments : goal.returns-in_err-hand_on-in-Ok-Some-clause-moments
returns-in_err-hand_on-in-Ok-Some-clause-moments g c = λ t n before s.
    let step = rw (c.in-Ok-Some.is, c.in-Ok-Some.field-0-is) at (c.command.ensures.step t n before s) in
    let out = c.command.ensures.outside t in
    then_replied g.P.Pool.meaning c.args.replies c.args.command.now before _ _ _ (c.command.ensures.moments t n before s) out step.after _ step.takes
    (g.P.Pool.rests _ (g.D.Shelf.world c.command.new.shelf).now step.after (out.now.paths ∙ (n ∙ sym c.command.ensures.paths)) step.stands_for) (c.hand_on.ensures.moments (c.command.ensures.told t))

pub returns-in-Ok-None-clause-moments : goal.returns-in-Ok-None-clause-moments
returns-in-Ok-None-clause-moments g c = λ t n before s.
    then_told g.P.Pool.meaning c.args.replies c.args.command.now before _ _ _ (c.command.ensures.moments t n before s) (c.command.ensures.outside t) _ (text.BadLine c.args.number) refl
    (g.P.Pool.rests _ (g.D.Shelf.world c.args.desk.now).now before n s) (c.refuse_line.ensures.moments (c.command.ensures.told t))

pub returns-in-Err-DiskFault-clause-moments : goal.returns-in-Err-DiskFault-clause-moments
returns-in-Err-DiskFault-clause-moments g c = λ t n before s.
    then_told g.P.Pool.meaning c.args.replies c.args.command.now before _ _ _ (c.command.ensures.moments t n before s) (c.command.ensures.outside t) _ text.DiskFault refl
    (g.P.Pool.rests _ (g.D.Shelf.world c.args.desk.now).now before n s) (c.tell.ensures.moments (c.command.ensures.told t))

pub returns-in-Err-Damaged-clause-moments : goal.returns-in-Err-Damaged-clause-moments
returns-in-Err-Damaged-clause-moments g c = λ t n before s.
    then_told g.P.Pool.meaning c.args.replies c.args.command.now before _ _ _ (c.command.ensures.moments t n before s) (c.command.ensures.outside t) _ (text.Damage (refusal.Damaged c.in-Err-Damaged.at c.in-Err-Damaged.expected c.in-Err-Damaged.found)) refl
    (g.P.Pool.rests _ (g.D.Shelf.world c.args.desk.now).now before n s) (rw c.in-Err-Damaged.field-0-is at (c.tell_damage.ensures.moments (c.command.ensures.told t)))

pub returns-in-Err-NoMemory-clause-moments : goal.returns-in-Err-NoMemory-clause-moments
returns-in-Err-NoMemory-clause-moments g c = λ t n before s.
    at_it g.P.Pool.meaning c.args.replies c.args.command.now before _ _ (c.command.ensures.moments t n before s) (c.command.ensures.outside t).since
