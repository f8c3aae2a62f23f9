use Rattle.std.proofs.Common.{◌≡◌, ◌<◌, inl, inr, arith, ◌∙◌, refl, Result, Err}
use Rattle.zr_base.specs.declared.refusal.Refusal.{Refusal}
use Rattle.zr_image.proofs.laws.the_first_check_that_fails.Goals as goal

same : (e r : Refusal) (x y : Result (Unit {0}) Refusal) → x ≡ Err e → y ≡ Err r → x ≡ y → e ≡ r
same e r x y x_is y_is is = cc

pub returns-clause-told : goal.returns-clause-told
returns-clause-told c = λ e outcome. elim outcome [ inl way ↦ let no_way : 5 < 4 = way.1 in absurd (omega arith) | inr way ↦ same e way.0 (Err e) (Err way.0) refl refl way.2 ∙ way.1.1 ]

pub returns-clause-later : goal.returns-clause-later
returns-clause-later c = λ e outcome. elim outcome [ inl way ↦ way.2.1 | inr way ↦ absurd (way.1.0 (omega arith)) ]

pub returns-clause-none : goal.returns-clause-none
returns-clause-none c = λ outcome. elim outcome [ inl way ↦ let no_way : 5 < 4 = way.1 in absurd (omega arith) | inr way ↦ absurd (cc) ]
