-- One more block of a row is put anew.
use Rattle.std.proofs.Common.{◌≡◌, ◌≢◌, ◌+◌, ◌/◌, ◌%◌, ◌^◌, ◌<◌, ◌≤◌, ◌⊎◌, inl, inr, ℕ, zero, suc, List, [], ◌∷◌, ◌++◌, length, get_or, refl, sym, ◌∙◌, ap, subst, arith, nat_eq, nat_lt, true, false, Bool, eq-eqb}
use Rattle.std.specs.Prelude.{if◌then◌else◌, All}
use Rattle.std.specs.List.{sum_by, flat_map}
use Rattle.std.proofs.lemmas.Bool.{cases_eq, ne_eqb}
use Rattle.std.proofs.lemmas.List.Sums.{sum_by-cons}
use Rattle.std.proofs.lemmas.List.Elements.{All-head, All-tail, All-nil, All-cons, All-append}
use Rattle.zr_bptr.specs.declared.Bptr.{Bptr}
use Rattle.zr_bptr.specs.declared.Ptr.{Ptr}
use Rattle.zr_bptr.specs.declared.Ptr.TheVariants.{Hole, At}
use Rattle.zr_bptr.specs.declared.Tree.{Tree}
use Rattle.zr_store.specs.Store.{Stored, AreStored, one_at}
use Rattle.zr_tree.specs.Blocks.{pointers_in}
use Rattle.zr_tree.specs.Trees.{slot, digit, kids, leaf_at, leaves_below, blocks, own, updated, tree_at, AllAt, Rises, weigh, weight_of, weight_below, Keeps, IsOpen, IsWholeAt, IsTreeWay, SetsPointers, PutsBlock, PutsChanged, PutsRow}
use Rattle.zr_tree.proofs.Below.{own_weight, weight_same}
use Rattle.zr_tree.proofs.Each.{updated_append, updated_other, above_none, weight_past, weight_at_append, weight_of_append, rises_back}
use Rattle.zr_tree.proofs.Frames.{IsSameTree, frame, one_itself, whole_again}
use Rattle.zr_tree.proofs.Levels.{no_blocks, blocks_up, below_one, at_weighs}

-- ---- what a store that only grows keeps

-- the block itself is stored
abbrev pub IsStoredAt : Ptr → Stored → Type 0
IsStoredAt p s = (weight : Bptr → ℕ) → weigh weight p ≤ sum_by weight s.pointers

pub same_below : (s t : Stored) (p : Ptr) → Keeps s t → IsStoredAt p s → IsSameTree s t 1 p
same_below s t Hole keep stored = frame s t 1 Hole (record { same = λ b h. absurd (omega (arith, h)) })
same_below s t (At x) keep stored = frame s t 1 (At x) (record {
  same = λ b h.
      let e = ap (λ (bs : List Bptr). sum_by (one_at b.at) (x ∷ bs)) (no_blocks s (kids s 0 x)) in
      let c = sum_by-cons (one_at b.at) x [] in
      let w = stored (one_at b.at) in
      keep b (omega (arith, e, c, w, h));
})

pub same_tree : (s t : Stored) (level : ℕ) (p : Ptr) → Keeps s t → AreStored (blocks s level p) s → IsSameTree s t level p
same_tree s t level p keep stored = frame s t level p (record { same = λ b h. let w = stored (one_at b.at) in keep b (omega (arith, w, h)) })

pub below_same : (s t : Stored) (weight : Bptr → ℕ) (b : Bptr) → t.bytes b ≡ s.bytes b → weight_below t weight b ≡ weight_below s weight b
below_same s t weight b same = ap (λ (bytes : List ℕ). sum_by weight (flat_map own (pointers_in bytes))) same

-- what lies below a block that is kept weighs the same
pub weighs_same : (s t : Stored) (weight : Bptr → ℕ) (p : Ptr) → Keeps s t → IsStoredAt p s → weigh (weight_below t weight) p ≡ weigh (weight_below s weight) p
weighs_same s t weight Hole keep stored = refl
weighs_same s t weight (At b) keep stored = below_same s t weight b (keep b (let w = stored (one_at b.at) in omega (arith, w, one_itself b)))

pub whole_kept : (s t : Stored) (p : Ptr) → Keeps s t → IsStoredAt p s → IsWholeAt s p → IsWholeAt t p
whole_kept s t Hole keep stored whole = tt
whole_kept s t (At b) keep stored whole = whole_again s t b (keep b (let w = stored (one_at b.at) in omega (arith, w, one_itself b))) whole

pub was_kept : (s t : Stored) (p : Ptr) → Keeps s t → IsStoredAt p s → IsWholeAt t p → IsWholeAt s p
was_kept s t Hole keep stored whole = tt
was_kept s t (At b) keep stored whole = whole_again t s b (sym (keep b (let w = stored (one_at b.at) in omega (arith, w, one_itself b)))) whole

-- ---- what a row has

pub updated_weighs : (weight : Bptr → ℕ) (row : List (ℕ × Ptr)) (place : ℕ) (p : Ptr) → weigh weight (updated row place p) ≤ weigh weight p + weight_of weight row
updated_weighs weight [] place p = omega arith
updated_weighs weight (x ∷ row) place p =
    let q = if nat_eq x.0 place then x.1 else p in
    let rest = updated_weighs weight row place q in
    let here : weigh weight q ≤ weigh weight p + weigh weight x.1 = elim (nat_eq x.0 place) as (λ (b : Bool). weigh weight (if b then x.1 else p) ≤ weigh weight p + weigh weight x.1) [ true ↦ omega arith | false ↦ omega arith ] in
    omega (arith, rest, here)

pub one_weighs : (weight : Bptr → ℕ) (row : List (ℕ × Ptr)) (k : ℕ) (d : ℕ × Ptr) → k < length row → weigh weight (get_or row k d).1 ≤ weight_of weight row
one_weighs weight [] k d lt = absurd (omega arith)
one_weighs weight (x ∷ row) zero d lt = omega arith
one_weighs weight (x ∷ row) (suc k) d lt = let rest = one_weighs weight row k d (omega arith) in omega (arith, rest)

-- changes at other places do not touch an index
pub updated_apart : (place : ℕ) (changes : List (ℕ × Ptr)) (index : ℕ) (p : Ptr) → All (λ change. change.0 / 32 < place) changes → index / 32 ≡ place → updated changes index p ≡ p
updated_apart place [] index p below here = refl
updated_apart place (x ∷ xs) index p below here =
    let lt = All-head (λ (change : ℕ × Ptr). change.0 / 32 < place) x xs below in
    let other : x.0 ≢ index = λ e. (let q : x.0 / 32 ≡ index / 32 = ap (λ (n : ℕ). n / 32) e in omega (arith, q, lt, here)) in
    ap (λ (b : Bool). updated xs index (if b then x.1 else p)) (ne_eqb x.0 index other) ∙ updated_apart place xs index p (All-tail (λ (change : ℕ × Ptr). change.0 / 32 < place) x xs below) here

pub no_row : (s : Stored) (t : Tree) (before : List Bptr) → PutsRow [] [] s s t before before
no_row s t before = record {
  leaves = λ index. refl;
  swaps_leaves = λ weight. refl;
  stored = λ weight. omega arith;
  kept = λ b stored. refl;
  gone = λ weight. omega arith;
  whole = All-nil (λ (change : ℕ × Ptr). IsWholeAt s change.1);
  ways = All-nil (λ (change : ℕ × Ptr). IsTreeWay s t (change.0 / 32) × IsWholeAt s (tree_at s t (change.0 / 32)));
}

-- ---- one block

low_digit : (index : ℕ) → digit 0 index ≡ index % 32
low_digit index = omega arith

pub changed : (place : ℕ) (changes : List (ℕ × Ptr)) (s n : Stored) (t : Tree) (p : Ptr) (qs ps : List Ptr) (before after : List Bptr) → IsOpen s 0 (tree_at s t place) qs → SetsPointers place changes qs ps → PutsBlock ps s n p → IsTreeWay s t place → IsWholeAt s (tree_at s t place)
    → ((weight : Bptr → ℕ) → sum_by weight after ≡ sum_by weight before + weigh weight (tree_at s t place)) → PutsChanged place changes s n t p before after
changed place changes s n t p qs ps before after open_was sets put way whole gone = record {
  leaves = λ index here. put.opens.leaves index ∙ ap (slot ps) (low_digit index) ∙ sets.slots index here ∙ ap (updated changes index) (sym (open_was.leaves index ∙ ap (slot qs) (low_digit index)));
  swaps_leaves = λ rises. record {
    stored = λ weight.
        let e = (sets.swaps_leaves rises).stored weight in
        let a = ap (sum_by weight) put.opens.all_leaves in
        let b = ap (sum_by weight) open_was.all_leaves in
        let w = weight_same weight (leaf_at s 1 (tree_at s t place)) (λ index. slot qs (index % 32)) changes (λ index. open_was.leaves index ∙ ap (slot qs) (low_digit index)) in
        omega (arith, e, a, b, w);
  };
  whole = put.whole;
  way = way;
  was_whole = whole;
  swaps = put.swaps;
  gone = gone;
}

module _ (place : ℕ) (done here row : List (ℕ × Ptr)) (s n1 n2 : Stored) (t : Tree) (p : Ptr) (before mid after : List Bptr) (held : AreStored (blocks s (suc t.height) t.root) s) (so_far : PutsRow done row s n1 t before mid) (one : PutsChanged place here n1 n2 t p mid after)
    (at : AllAt 1 place here) (done_below : All (λ change. change.0 / 32 < place) done) (rises : Rises (done ++ here)) where
  same : IsSameTree s n1 t.height t.root
  same = same_tree s n1 t.height t.root so_far.kept (λ weight. let h = held weight in let u = blocks_up s t.height t.root weight in omega (arith, h, u))

  at_same : (index : ℕ) → tree_at n1 t index ≡ tree_at s t index
  at_same index = ap (λ (q : Ptr). if nat_lt index (32 ^ t.height) then q else Hole) (same.leaves index)

  old_stored : (index : ℕ) → IsStoredAt (tree_at s t index) s
  old_stored index weight = let a = at_weighs s t index weight in let h = held weight in omega (arith, a, h)

  was_same : IsSameTree s n1 1 (tree_at s t place)
  was_same = same_below s n1 (tree_at s t place) so_far.kept (old_stored place)

  n1_kept : Keeps n1 n2
  n1_kept b stored = one.swaps.kept b refl stored

  mixed_stored : (index : ℕ) → IsStoredAt (updated row index (tree_at s t index)) n1
  mixed_stored index weight =
      let a = updated_weighs weight row index (tree_at s t index) in
      let b = old_stored index weight in
      let c = so_far.stored weight in
      omega (arith, a, b, c)

  row_stored : (k : ℕ) (d : ℕ × Ptr) → k < length row → IsStoredAt (get_or row k d).1 n1
  row_stored k d lt weight = let a = one_weighs weight row k d lt in let c = so_far.stored weight in omega (arith, a, c)

  here_leaf : (index : ℕ) → index / 32 ≡ place → leaf_at n1 1 (tree_at n1 t place) index ≡ leaf_at s 1 (tree_at s t (index / 32)) index
  here_leaf index e = ap (λ (q : Ptr). leaf_at n1 1 q index) (at_same place) ∙ was_same.leaves index ∙ ap (λ (j : ℕ). leaf_at s 1 (tree_at s t j) index) (sym e)

  leaves : (index : ℕ) → (index / 32 ≡ place) ⊎ (index / 32 ≢ place) → leaf_at n2 1 (updated (row ++ (place, p) ∷ []) (index / 32) (tree_at s t (index / 32))) index ≡ updated (done ++ here) index (leaf_at s 1 (tree_at s t (index / 32)) index)
  leaves index (inl e) =
      ap (λ (q : Ptr). leaf_at n2 1 q index) (updated_append row ((place, p) ∷ []) (index / 32) (tree_at s t (index / 32)) ∙ ap (λ (b : Bool). if b then p else updated row (index / 32) (tree_at s t (index / 32))) (eq-eqb place (index / 32) (sym e)))
      ∙ one.leaves index e
      ∙ ap (updated here index) (here_leaf index e ∙ sym (updated_apart place done index (leaf_at s 1 (tree_at s t (index / 32)) index) done_below e))
      ∙ sym (updated_append done here index (leaf_at s 1 (tree_at s t (index / 32)) index))
  leaves index (inr ne) =
      ap (λ (q : Ptr). leaf_at n2 1 q index) (updated_append row ((place, p) ∷ []) (index / 32) (tree_at s t (index / 32)) ∙ ap (λ (b : Bool). if b then p else updated row (index / 32) (tree_at s t (index / 32))) (ne_eqb place (index / 32) (λ e. ne (sym e))))
      ∙ (same_below n1 n2 (updated row (index / 32) (tree_at s t (index / 32))) n1_kept (mixed_stored (index / 32))).leaves index
      ∙ so_far.leaves index
      ∙ sym (updated_other 1 place here index (updated done index (leaf_at s 1 (tree_at s t (index / 32)) index)) at ne)
      ∙ sym (updated_append done here index (leaf_at s 1 (tree_at s t (index / 32)) index))

  row_weighs : (weight : Bptr → ℕ) (xs : List (ℕ × Ptr)) → ((k : ℕ) (d : ℕ × Ptr) → k < length xs → IsStoredAt (get_or xs k d).1 n1) → weight_of (weight_below n2 weight) xs ≡ weight_of (weight_below n1 weight) xs
  row_weighs weight [] stored = refl
  row_weighs weight (x ∷ xs) stored =
      let a = weighs_same n1 n2 weight x.1 n1_kept (stored 0 x (omega arith)) in
      let b = row_weighs weight xs (λ k d lt. stored (suc k) d (omega (arith, lt))) in
      omega (arith, a, b)

  pub one_block : PutsRow (done ++ here) (row ++ (place, p) ∷ []) s n2 t before after
  one_block = record {
    leaves = λ index. leaves index (cases_eq (index / 32) place);
    swaps_leaves = λ weight.
        let f = λ (index : ℕ). leaf_at s 1 (tree_at s t (index / 32)) index in
        let v = weight_below s weight in
        let before_is = so_far.swaps_leaves weight in
        let one_is = (one.swaps_leaves (rises_back done here rises)).stored weight in
        let here_is = weight_past weight (leaf_at n1 1 (tree_at n1 t place)) f (λ index. index / 32 ≡ place) [] here (λ index e. here_leaf index e) at (above_none here) in
        let was_is = ap (λ (q : Ptr). sum_by weight (leaves_below n1 1 q)) (at_same place) ∙ ap (sum_by weight) was_same.all_leaves ∙ below_one s weight (tree_at s t place) in
        let now_is = below_one n2 weight p in
        let row_is = row_weighs weight row row_stored in
        let a = weight_of_append (weight_below n2 weight) row ((place, p) ∷ []) in
        let b = weight_at_append v (tree_at s t) row ((place, p) ∷ []) in
        let c = weight_at_append weight f done here in
        let d = weight_of_append weight done here in
        omega (arith, before_is, one_is, here_is, was_is, now_is, row_is, a, b, c, d);
    stored = λ weight.
        let a = so_far.stored weight in
        let b = one.swaps.stored weight in
        let c = own_weight weight p in
        let d = weight_of_append weight row ((place, p) ∷ []) in
        omega (arith, a, b, c, d);
    kept = λ b stored. n1_kept b (let a = so_far.stored (one_at b.at) in omega (arith, a, stored)) ∙ so_far.kept b stored;
    gone = λ weight.
        let a = so_far.gone weight in
        let b = one.gone weight in
        let c = ap (weigh weight) (at_same place) in
        let d = weight_at_append weight (tree_at s t) row ((place, p) ∷ []) in
        omega (arith, a, b, c, d);
    whole = All-append (λ (change : ℕ × Ptr). IsWholeAt n2 change.1) row ((place, p) ∷ []) (λ k d lt. whole_kept n1 n2 (get_or row k d).1 n1_kept (row_stored k d lt) (so_far.whole k d lt))
        (All-cons (λ (change : ℕ × Ptr). IsWholeAt n2 change.1) (place, p) [] one.whole (All-nil (λ (change : ℕ × Ptr). IsWholeAt n2 change.1)));
    ways = All-append (λ (change : ℕ × Ptr). IsTreeWay s t (change.0 / 32) × IsWholeAt s (tree_at s t (change.0 / 32))) done here so_far.ways
        (λ k d lt. (
          subst (IsTreeWay s t) (sym (at k d lt)) (λ low. same.ways place (one.way low)),
          subst (λ (j : ℕ). IsWholeAt s (tree_at s t j)) (sym (at k d lt)) (was_kept s n1 (tree_at s t place) so_far.kept (old_stored place) (subst (IsWholeAt n1) (at_same place) one.was_whole)),
        ));
  }
