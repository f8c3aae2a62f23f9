use Rattle.std.proofs.Common.{◌≡◌, ◌∙◌, refl, ◌<◌, ◌≤◌, ◌^◌, ℕ, Bool, true, false, List, map, length, ap, subst, sym, arith}
use Rattle.std.proofs.lemmas.List.{length-map}
use Rattle.zr_base.specs.declared.space.DevPart.{DevPart}
use Rattle.zr_base.specs.Extents.{IsMaximal}
use Rattle.zr_rules.specs.Columns.{late_blocks}
use Rattle.zr_base.specs.declared.space.DevState.{DevState}
use Rattle.zr_base.specs.declared.space.DevState.TheVariants.{On, Leaving, Gone}
use Rattle.zr_rules.specs.Places.{is_on, part_of, units_of_dev}
use Rattle.zr_rules.specs.Space.{Space, IsLawful}
use Rattle.zr_metaslab.specs.Devices.{Devices}
use Rattle.zr_indirect.specs.Mapped.{Mapped}
use Rattle.zr_space.specs.Paths.{HasNoMapping}
use Rattle.zr_space.specs.Views.{Kept, kept_of, part_in, IsMoved, IsSpace}
use Rattle.zr_rules.specs.Mappings.{IsRising}
use Rattle.zr_rules.specs.Equation.{devices_in}
use Rattle.zr_space.proofs.Freeables.{all_rising}
use Rattle.zr_space.specs.declared.whole.Whole.{Whole}
use Rattle.zr_space.proofs.Drops.{never}
use Rattle.zr_space.proofs.Keeps.{lawful}
use Rattle.zr_space.proofs.Totalling.{first_late_maximal, second_late_maximal}
use Rattle.zr_space.proofs.Views.{part_is}
use Rattle.zr_space.proofs.space.Space.lawful.Goals as goal

small_units : {whole : Whole} (slabs : Devices) (devs : List Kept) (d : ℕ) → IsSpace whole slabs devs → units_of_dev (map part_in devs) d < 2 ^ 40
small_units slabs devs d s = subst (λ (p : DevPart). p.row.units < 2 ^ 40) (sym (part_is devs d)) (s.small d)

pub returns-clause-lawful : goal.returns-clause-lawful
returns-clause-lawful c = subst IsLawful c.self.view_is (lawful c.self.inside.whole c.self.inside.slabs c.self.inside.devs.items c.self.invariant)

pub returns-clause-small : goal.returns-clause-small
returns-clause-small c = subst (λ (s : Space). (d : ℕ) → units_of_dev s.parts.devs d < 2 ^ 40) c.self.view_is (λ d. small_units c.self.inside.slabs c.self.inside.devs.items d c.self.invariant)

pub returns-clause-rising : goal.returns-clause-rising
returns-clause-rising c = subst (λ (s : Space). (d : ℕ) → IsRising ((devices_in s).entries d)) c.self.view_is (all_rising c.self.inside.slabs c.self.inside.devs.items c.self.invariant)

pub returns-clause-few : goal.returns-clause-few
returns-clause-few c = subst (λ (s : Space). length s.parts.devs ≤ 32) c.self.view_is (let f = c.self.invariant.few in let e = length-map c.self.inside.devs.items part_in in omega (arith, f, e))

pub returns-clause-first_late : goal.returns-clause-first_late
returns-clause-first_late c = subst (λ (s : Space). (d : ℕ) → IsMaximal (late_blocks (part_of s.parts.devs d).late1)) c.self.view_is (first_late_maximal c.self.inside.whole c.self.inside.slabs c.self.inside.devs.items c.self.invariant)

pub returns-clause-second_late : goal.returns-clause-second_late
returns-clause-second_late c = subst (λ (s : Space). (d : ℕ) → IsMaximal (late_blocks (part_of s.parts.devs d).late2)) c.self.view_is (second_late_maximal c.self.inside.whole c.self.inside.slabs c.self.inside.devs.items c.self.invariant)

is_in_service : (state : DevState) → is_on state ≡ true → state ≡ On
is_in_service On is = refl
is_in_service Leaving is = absurd (never is)
is_in_service Gone is = absurd (never is)

unmapped : {whole : Whole} (slabs : Devices) (devs : List Kept) (d : ℕ) → IsSpace whole slabs devs → is_on (part_of (map part_in devs) d).row.state ≡ true → HasNoMapping (part_of (map part_in devs) d)
unmapped slabs devs d s is =
    let on = is_in_service (kept_of devs d).row.state (sym (ap (λ (p : DevPart). is_on p.row.state) (part_is devs d)) ∙ is) in
    let none = (s.moved d).service on in
    subst HasNoMapping (sym (part_is devs d)) (record { entries = ap (λ (m : Mapped). m.entries) none; counts = ap (λ (m : Mapped). m.counts) none; fresh = ap (λ (m : Mapped). m.fresh) none })

pub returns-clause-unmapped : goal.returns-clause-unmapped
returns-clause-unmapped c = subst (λ (s : Space). (d : ℕ) → is_on (part_of s.parts.devs d).row.state ≡ true → HasNoMapping (part_of s.parts.devs d)) c.self.view_is (λ d. unmapped c.self.inside.slabs c.self.inside.devs.items d c.self.invariant)
