-- What the current root has where a removal is given up.
use Rattle.std.proofs.Common.{◌≡◌, ◌≢◌, ℕ, ◌<◌, Bool, false, List, length, refl, ◌∙◌, sym, ap, arith}
use Rattle.std.proofs.Math.ListN.{set}
use Rattle.std.proofs.lemmas.Bool.Decides.{nat_tests}
use Rattle.zr_rules.specs.Space.{Space, was_held, was_kept, was_fresh}
use Rattle.zr_metaslab.specs.Devices.{Devices, free_at, count_at}
use Rattle.zr_indirect.specs.Changes.{was_fresh_in}
use Rattle.zr_indirect.specs.Mapped.{Mapped}
use Rattle.zr_units.specs.Changes.{GivesUpCopies}
use Rattle.zr_units.specs.Uses.{Uses, IsAccount}
use Rattle.zr_space.specs.Leavings.{back_in_service}
use Rattle.zr_space.specs.Views.{Kept, kept_of, space_of}
use Rattle.zr_space.specs.declared.whole.Whole.{Whole}
use Rattle.zr_space.proofs.Cancelling.{IsCancelled}
use Rattle.zr_space.proofs.Keeps.{on_each}
use Rattle.zr_space.proofs.Rooted.{SameUses, was_held_in, was_kept_in, was_held_is, was_kept_is, was_fresh_is}
use Rattle.zr_space.proofs.Views.{kept_same}

-- what it has as held and kept, its marks on the other devices, and none on this one
pub record IsRootBut (old new : Space) (d : ℕ) : Type 0 where
  pub held : (j u : ℕ) → was_held new j u ≡ was_held old j u
  pub kept : (j u : ℕ) → was_kept new j u ≡ was_kept old j u
  pub marks : (j u : ℕ) → j ≢ d → was_fresh new j u ≡ was_fresh old j u
  pub unmarked : (u : ℕ) → was_fresh new d u ≡ false

gives_root : (f : ℕ → Bool) (n : ℕ) (x y : Uses) → IsAccount f n x → GivesUpCopies x y → SameUses x y
gives_root f n x y a h = record {
  held = λ u. let c = a.copying.held u in let held = h.held u in let born = h.born u in let d = h.deferred u in grind (arith, nat_tests, c, held, born, d);
  kept = λ u. grind (arith, nat_tests, h.others);
}

module _ (whole : Whole) (s t v : Devices) (devs mid : List Kept) (d : ℕ) (h : IsCancelled whole s t v devs mid d) where
  abbrev back : Kept
  back = back_in_service (kept_of mid d)

  there : d < length mid
  there = let l = h.there in let c = h.gives.count in omega (arith, l, c)

  uses : (j : ℕ) → SameUses (kept_of devs j).uses (kept_of mid j).uses
  uses j = gives_root (free_at s j) (count_at s j) (kept_of devs j).uses (kept_of mid j).uses (h.space.account j) (h.gives.each j).gives

  pub cancel_root : IsRootBut (space_of whole devs) (space_of whole (set mid d (back_in_service (kept_of mid d)))) d
  cancel_root = record {
    held = λ j u.
        was_held_is whole (set mid d back) j u
        ∙ (on_each mid d back (λ i y. was_held_in y.uses u ≡ was_held_in (kept_of devs i).uses u) there ((uses d).held u) (λ i ne. (uses i).held u) j
        ∙ sym (was_held_is whole devs j u));
    kept = λ j u.
        was_kept_is whole (set mid d back) j u
        ∙ (on_each mid d back (λ i y. was_kept_in y.uses u ≡ was_kept_in (kept_of devs i).uses u) there ((uses d).kept u) (λ i ne. (uses i).kept u) j
        ∙ sym (was_kept_is whole devs j u));
    marks = λ j u other.
        was_fresh_is whole (set mid d back) j u
        ∙ (on_each mid d back (λ i y. i ≢ d → was_fresh_in y.moves u ≡ was_fresh_in (kept_of devs i).moves u) there (λ no. absurd (no refl)) (λ i ne no. ap (λ (m : Mapped). was_fresh_in m u) (h.gives.each i).moves) j other
        ∙ sym (was_fresh_is whole devs j u));
    unmarked = λ u. was_fresh_is whole (set mid d back) d u ∙ ap (λ (k : Kept). was_fresh_in k.moves u) (kept_same mid d back there);
  }
