-- Which devices are leaving.
use Rattle.std.proofs.Common.{◌≡◌, inl, inr, ℕ, ◌<◌, ◌≤◌, Bool, true, false, List, length, refl, sym, ◌∙◌, ap, subst, arith}
use Rattle.std.proofs.lemmas.Bool.{cases_lt}
use Rattle.std.proofs.Math.ListN.{get_or-eq_default}
use Rattle.zr_base.specs.declared.space.CkptPart.{CkptPart}
use Rattle.zr_base.specs.declared.space.CkptPart.TheVariants.{Clear}
use Rattle.zr_base.specs.declared.space.DevPart.{DevPart}
use Rattle.zr_judge.specs.Parts.{HasCopied, MayLeave}
use Rattle.zr_rules.specs.Places.{is_leaving, no_part, part_of, state_of_dev}

clash : (b : Bool) → b ≡ true → b ≡ false → ⊥
clash b up down = let e = sym up ∙ down in cc

-- only a device that there is
pub leaving_inside : (devs : List DevPart) (d : ℕ) → is_leaving (state_of_dev devs d) ≡ true → d < length devs
leaving_inside devs d is = elim (cases_lt d (length devs)) [
  | inl lt ↦ lt
  | inr ge ↦ absurd (clash _ is (ap (λ (p : DevPart). is_leaving p.row.state) (get_or-eq_default devs no_part {n = d} ge)))
]

-- no device of the first n is leaving, or one that may, and these are all
pub may : (devs : List DevPart) (ckpt : CkptPart) (met : Bool) (n : ℕ) → length devs ≤ n → (met ≡ false → (d : ℕ) → d < n → is_leaving (state_of_dev devs d) ≡ false)
    → (met ≡ true → (d : ℕ) × (d < n) × (is_leaving (state_of_dev devs d) ≡ true) × (ckpt ≡ Clear) × HasCopied (part_of devs d) × ((e : ℕ) → e < n → is_leaving (state_of_dev devs e) ≡ true → e ≡ d))
    → MayLeave devs ckpt
may devs ckpt false n all none some = record { one = λ d e is other. absurd (never d is); quiet = λ d is. absurd (never d is); each = λ d is. absurd (never d is) }
  where
    never : (d : ℕ) → is_leaving (state_of_dev devs d) ≡ true → ⊥
    never d is = let lt = leaving_inside devs d is in clash _ is (none refl d (omega (arith, lt, all)))
may devs ckpt true n all none some =
    let s = some refl in
    let same : (e : ℕ) → is_leaving (state_of_dev devs e) ≡ true → e ≡ s.0 = λ e is. let lt = leaving_inside devs e is in s.5 e (omega (arith, lt, all)) is in
    record { one = λ d e is other. same d is ∙ sym (same e other); quiet = λ d is. s.3; each = λ d is. subst (λ k. HasCopied (part_of devs k)) (sym (same d is)) s.4 }
