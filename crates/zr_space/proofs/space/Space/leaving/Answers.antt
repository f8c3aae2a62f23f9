use Rattle.std.proofs.Common.{◌≡◌, ◌<◌, ◌∙◌, true, false, length, sym, ap, subst, arith, ⊎_elim}
use Rattle.std.proofs.lemmas.Bool.{cases_lt}
use Rattle.zr_base.specs.declared.space.DevPart.{DevPart}
use Rattle.zr_rules.specs.Places.{is_leaving, state_of_dev}
use Rattle.zr_rules.specs.Space.{Space}
use Rattle.zr_space.specs.Views.{Kept, kept_of}
use Rattle.zr_space.proofs.Turning.{none_beyond}
use Rattle.zr_space.proofs.Views.{part_is, kept_read}
use Rattle.zr_space.proofs.space.Space.leaving.Goals as goal

pub returns-then-is_leaving-clause-some : goal.returns-then-is_leaving-clause-some
returns-then-is_leaving-clause-some c =
    let devs = c.self.inside.devs.items in
    let d = c.loop-dev.dev in
    let there : d < length devs = let t = c.loop-dev-test.true in let e = c.loop-dev.invariant.end in omega (arith, t, e) in
    let is : c.index-device.result.now ≡ kept_of devs d = kept_read devs d c.index-device.result.now there c.index-device.ensures in
    subst (λ (s : Space). is_leaving (state_of_dev s.parts.devs d) ≡ true) c.self.view_is
    (ap (λ (p : DevPart). is_leaving p.row.state) (part_is devs d) ∙ (ap (λ (k : Kept). is_leaving k.row.state) (sym is) ∙ (sym c.is_leaving.ensures ∙ c.if-is_leaving.true)))

pub returns-clause-none : goal.returns-clause-none
returns-clause-none c = λ d.
    let devs = c.self.inside.devs.items in
    let i = c.loop-dev.invariant in
    let each : is_leaving (kept_of devs d).row.state ≡ false = ⊎_elim
    (λ lt. i.so_far d (let t = c.loop-dev-test.false in let e = i.end in omega (arith, t, e, lt)))
    (λ past. ap (λ (k : Kept). is_leaving k.row.state) (none_beyond devs d past))
    (cases_lt d (length devs)) in
    subst (λ (s : Space). is_leaving (state_of_dev s.parts.devs d) ≡ false) c.self.view_is (ap (λ (p : DevPart). is_leaving p.row.state) (part_is devs d) ∙ each)
