-- One more pointer of a block has changed.
use Rattle.std.proofs.Common.{◌≡◌, ◌≢◌, ◌/◌, ◌%◌, ◌<◌, ◌⊎◌, inl, inr, ℕ, List, [], ◌∷◌, ◌++◌, length, set, refl, sym, ◌∙◌, ap, arith, Bool, eq-eqb, get_or-set_other, get_or-set_same}
use Rattle.std.specs.Prelude.{if◌then◌else◌}
use Rattle.std.specs.List.{sum_by}
use Rattle.std.proofs.lemmas.Bool.{cases_eq, ne_eqb}
use Rattle.zr_bptr.specs.declared.Ptr.{Ptr}
use Rattle.zr_bptr.specs.declared.Ptr.TheVariants.{Hole}
use Rattle.zr_tree.specs.Trees.{slot, own, updated, SetsPointers}
use Rattle.zr_tree.proofs.Below.{own_weight}
use Rattle.zr_tree.proofs.Each.{updated_append, updated_past, weight_at_append, weight_of_append, rises_front, above_of}
use Rattle.zr_tree.proofs.Sums.{sum_flat, sum_swap}

module _ (place : ℕ) (done : List (ℕ × Ptr)) (x : ℕ × Ptr) (qs ps : List Ptr) (count : length ps ≡ 32) (so_far : SetsPointers place done qs ps) (here : x.0 / 32 ≡ place) where
  within : x.0 % 32 < length ps
  within = omega arith

  slots : (index : ℕ) → index / 32 ≡ place → (index % 32 ≡ x.0 % 32) ⊎ (index % 32 ≢ x.0 % 32) → slot (set ps (x.0 % 32) x.1) (index % 32) ≡ updated (done ++ x ∷ []) index (slot qs (index % 32))
  slots index at (inl eq) =
      let same : x.0 ≡ index = omega (arith, at, here, eq) in
      ap (slot (set ps (x.0 % 32) x.1)) eq ∙ get_or-set_same ps (x.0 % 32) x.1 Hole within
      ∙ sym (ap (λ (b : Bool). if b then x.1 else updated done index (slot qs (index % 32))) (eq-eqb x.0 index same))
      ∙ sym (updated_append done (x ∷ []) index (slot qs (index % 32)))
  slots index at (inr ne) =
      get_or-set_other ps (x.0 % 32) (index % 32) x.1 Hole ne
      ∙ so_far.slots index at
      ∙ sym (ap (λ (b : Bool). if b then x.1 else updated done index (slot qs (index % 32))) (ne_eqb x.0 index (λ e. ne (ap (λ (n : ℕ). n % 32) (sym e)))))
      ∙ sym (updated_append done (x ∷ []) index (slot qs (index % 32)))

  pub one_pointer : SetsPointers place (done ++ x ∷ []) qs (set ps (x.0 % 32) x.1)
  one_pointer = record {
    slots = λ index at. slots index at (cases_eq (index % 32) (x.0 % 32));
    swaps_leaves = λ rises. record {
      stored = λ weight.
          let at = λ (index : ℕ). slot qs (index % 32) in
          let old_is : slot ps (x.0 % 32) ≡ slot qs (x.0 % 32) = so_far.slots x.0 here ∙ updated_past done x.0 (slot qs (x.0 % 32)) (above_of done (x ∷ []) rises).0 in
          let swap = sum_swap (λ (p : Ptr). sum_by weight (own p)) (λ (p : Ptr). sum_by weight (own p)) ps (x.0 % 32) x.1 within (λ j lt ne. refl) in
          let a = sum_flat weight own (set ps (x.0 % 32) x.1) in
          let b = sum_flat weight own ps in
          let was = ap (λ (p : Ptr). sum_by weight (own p)) old_is ∙ own_weight weight (slot qs (x.0 % 32)) in
          let is = own_weight weight x.1 in
          let before = (so_far.swaps_leaves (rises_front done (x ∷ []) rises)).stored weight in
          let d = weight_at_append weight at done (x ∷ []) in
          let e = weight_of_append weight done (x ∷ []) in
          omega (arith, swap, a, b, was, is, before, d, e);
    };
  }
