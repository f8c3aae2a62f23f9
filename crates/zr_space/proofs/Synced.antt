-- The synced frontier of a space is that of the device that is leaving.
use Rattle.std.proofs.Common.{◌≡◌, ℕ, zero, suc, Bool, true, false, ◌==◌, List, [], ◌∷◌, refl, ◌∙◌, ap, arith}
use Rattle.std.proofs.lemmas.Bool.Decides.{nat_tests}
use Rattle.std.proofs.lemmas.List.Sums.{sum_by-cons}
use Rattle.zr_base.specs.declared.space.DevState.{DevState}
use Rattle.zr_base.specs.declared.space.DevState.TheVariants.{On, Leaving, Gone}
use Rattle.zr_rules.specs.Places.{is_leaving}
use Rattle.zr_metaslab.specs.Devices.{Devices as Slabs}
use Rattle.zr_indirect.specs.Mapped.{Mapped}
use Rattle.zr_space.specs.Views.{Kept, kept_of, synced_in, IsMoved, IsSpace}
use Rattle.zr_space.specs.declared.whole.Whole.{Whole}

false_true : false ≡ true → ⊥
false_true e = cc

pub leaving_state : (st : DevState) → is_leaving st ≡ true → st ≡ Leaving
leaving_state On is = absurd (false_true is)
leaving_state Leaving is = refl
leaving_state Gone is = absurd (false_true is)

-- a device that is not leaving has none
none_of : (k : Kept) (st : DevState) → k.row.state ≡ st → IsMoved k.row k.moves → is_leaving st ≡ false → k.moves.synced ≡ 0
none_of k On is m stays = ap (λ (x : Mapped). x.synced) (m.service is)
none_of k Leaving is m stays = absurd (true_false stays)
  where
    true_false : true ≡ false → ⊥
    true_false e = cc
none_of k Gone is m stays = (m.gone is).synced_none

-- a sum of which all but one are none
sum_one : (devs : List Kept) (d : ℕ) → ((j : ℕ) → (j == d) ≡ false → (kept_of devs j).moves.synced ≡ 0) → synced_in devs ≡ (kept_of devs d).moves.synced
sum_one [] zero none = refl
sum_one [] (suc d) none = refl
sum_one (x ∷ xs) zero none =
    let rest : synced_in xs ≡ 0 = sum_none xs (λ j. none (suc j) (grind (arith, nat_tests))) in
    sum_by-cons (λ (k : Kept). k.moves.synced) x xs ∙ omega (arith, rest)
  where
    sum_none : (devs : List Kept) → ((j : ℕ) → (kept_of devs j).moves.synced ≡ 0) → synced_in devs ≡ 0
    sum_none [] none = refl
    sum_none (y ∷ ys) none = let rest = sum_none ys (λ j. none (suc j)) in let first = none 0 in sum_by-cons (λ (k : Kept). k.moves.synced) y ys ∙ omega (arith, first, rest)
sum_one (x ∷ xs) (suc d) none =
    let rest = sum_one xs d (λ j ne. none (suc j) (grind (arith, nat_tests, ne))) in
    let first = none 0 (grind (arith, nat_tests)) in
    sum_by-cons (λ (k : Kept). k.moves.synced) x xs ∙ omega (arith, first, rest)

pub synced_is : {whole : Whole} (slabs : Slabs) (devs : List Kept) → IsSpace whole slabs devs → (d : ℕ) → is_leaving (kept_of devs d).row.state ≡ true → synced_in devs ≡ (kept_of devs d).moves.synced
synced_is slabs devs s d is =
    sum_one devs d (λ j ne. none_of (kept_of devs j) (kept_of devs j).row.state refl (s.moved j) (stays j ne (is_leaving (kept_of devs j).row.state) refl))
  where
    stays : (j : ℕ) → (j == d) ≡ false → (b : Bool) → is_leaving (kept_of devs j).row.state ≡ b → is_leaving (kept_of devs j).row.state ≡ false
    stays j ne true e = let same = s.single j d e is in absurd (grind (arith, nat_tests, same, ne))
    stays j ne false e = e
