-- From a row to the row above, and from the top of a tree to a taller one.
use Rattle.std.proofs.Common.{◌≡◌, ◌≢◌, ◌+◌, ◌/◌, ◌^◌, ◌<◌, ◌≤◌, ◌⊎◌, inl, inr, ℕ, zero, suc, List, [], ◌∷◌, Result, length, get_or, refl, sym, ◌∙◌, ap, subst, arith, nat_lt, true, false, Bool, eq-eqb}
use Rattle.std.specs.Prelude.{if◌then◌else◌, All}
use Rattle.std.specs.List.{sum_by, AllByRecursion}
use Rattle.std.proofs.lemmas.Bool.{cases_eq, ne_eqb}
use Rattle.std.proofs.lemmas.List.Sums.{sum_by-cons}
use Rattle.std.proofs.lemmas.List.Elements.{All-head, All-tail, All-cons}
use Rattle.zr_bptr.specs.declared.Bptr.{Bptr}
use Rattle.zr_bptr.specs.declared.Ptr.{Ptr}
use Rattle.zr_bptr.specs.declared.Ptr.TheVariants.{Hole, At}
use Rattle.zr_bptr.specs.declared.Tree.{Tree}
use Rattle.zr_store.specs.Store.{Stored, AreStored, one_at}
use Rattle.zr_store.specs.declared.StoreErr.{StoreErr}
use Rattle.zr_tree.specs.Trees.{leaf_at, leaves_below, blocks, own, updated, tree_at, AllAt, Rises, weigh, weight_at, weight_of, weight_below, Keeps, Brings, IsAmong, IsWhole, IsWholeAt, IsTreeWay, EndsInUnit, HasRoot, TellsOf, PutsRow, PutsTree}
use Rattle.zr_tree.proofs.Below.{own_weight, weight_same, updated_last, leaf_weighs}
use Rattle.zr_tree.proofs.Frames.{IsSameTree, one_itself, whole_again, hole_leaf}
use Rattle.zr_tree.proofs.Holes.{inside, outside, hole_blocks, hole_leaves}
use Rattle.zr_tree.proofs.Levels.{tree_of, div_up, leaf_up, blocks_up, leaves_up, at_weighs, tree_up, tree_way_up}
use Rattle.zr_tree.proofs.Row.{IsStoredAt, same_below, same_tree, below_same, weighs_same, updated_weighs, one_weighs}
use Rattle.zr_tree.proofs.Wholes.{like, like_less, among_count, count_among, among_hits, among_within, among_own, brings_none, tells_before, Within}

-- ---- a row

-- a block that is among those that came is whole
row_whole : (s : Stored) (row : List (ℕ × Ptr)) (b : Bptr) → All (λ change. IsWholeAt s change.1) row → 0 < weight_of (like b) row → IsWhole s b
row_whole s [] b whole some = absurd (omega (arith, some))
row_whole s (x ∷ row) b whole some = elim (cases_eq (weigh (like b) x.1) 0) [
  | inl none ↦ row_whole s row b (All-tail (λ (change : ℕ × Ptr). IsWholeAt s change.1) x row whole) (omega (arith, none, some))
  | inr here ↦ of_own x.1 (All-head (λ (change : ℕ × Ptr). IsWholeAt s change.1) x row whole) here
]
  where
    of_own : (p : Ptr) → IsWholeAt s p → weigh (like b) p ≢ 0 → IsWhole s b
    of_own Hole w some = absurd (some refl)
    of_own (At y) w some = among_own s (At y) b w (count_among b (y ∷ []) (omega (arith, some, sum_by-cons (like b) y [])))

list_weighs : (s t : Stored) (weight : Bptr → ℕ) (bs : List Bptr) → Keeps s t → AreStored bs s → sum_by (weight_below t weight) bs ≡ sum_by (weight_below s weight) bs
list_weighs s t weight [] keep stored = refl
list_weighs s t weight (b ∷ bs) keep stored =
    let here = below_same s t weight b (keep b (let w = stored (one_at b.at) in omega (arith, w, one_itself b, sum_by-cons (one_at b.at) b bs))) in
    let rest = list_weighs s t weight bs keep (λ v. let w = stored v in omega (arith, w, sum_by-cons v b bs)) in
    omega (arith, here, rest, sum_by-cons (weight_below t weight) b bs, sum_by-cons (weight_below s weight) b bs)

at_weigh : (s t : Stored) (weight : Bptr → ℕ) (at : ℕ → Ptr) (row : List (ℕ × Ptr)) → Keeps s t → ((index : ℕ) → IsStoredAt (at index) s) → weight_at (weight_below t weight) at row ≡ weight_at (weight_below s weight) at row
at_weigh s t weight at [] keep stored = refl
at_weigh s t weight at (x ∷ row) keep stored =
    let a = weighs_same s t weight (at x.0) keep (stored x.0) in
    let b = at_weigh s t weight at row keep stored in
    omega (arith, a, b)

row_weigh : (s t : Stored) (weight : Bptr → ℕ) (row : List (ℕ × Ptr)) → Keeps s t → ((k : ℕ) (d : ℕ × Ptr) → k < length row → IsStoredAt (get_or row k d).1 s) → weight_of (weight_below t weight) row ≡ weight_of (weight_below s weight) row
row_weigh s t weight [] keep stored = refl
row_weigh s t weight (x ∷ row) keep stored =
    let a = weighs_same s t weight x.1 keep (stored 0 x (omega arith)) in
    let b = row_weigh s t weight row keep (λ k d lt. stored (suc k) d (omega (arith, lt))) in
    omega (arith, a, b)

module _ (height level : ℕ) (root p : Ptr) (changes row : List (ℕ × Ptr)) (s0 s1 s2 : Stored) (before mid after : List Bptr) (held : AreStored (blocks s0 (suc level) root) s0) (lower : PutsRow changes row s0 s1 (tree_of root level) before mid)
    (upper : PutsTree height row s1 s2 (tree_of root level) p mid after) where
  held_above : AreStored (blocks s0 level root) s0
  held_above weight = let h = held weight in let u = blocks_up s0 level root weight in omega (arith, h, u)

  held_row : AreStored (leaves_below s0 level root) s0
  held_row weight = let h = held weight in let u = blocks_up s0 level root weight in omega (arith, h, u)

  same : IsSameTree s0 s1 level root
  same = same_tree s0 s1 level root lower.kept held_above

  at_same : (index : ℕ) → tree_at s1 (tree_of root level) index ≡ tree_at s0 (tree_of root level) index
  at_same index = ap (λ (q : Ptr). if nat_lt index (32 ^ level) then q else Hole) (same.leaves index)

  old_stored : (index : ℕ) → IsStoredAt (tree_at s0 (tree_of root level) index) s0
  old_stored index weight = let a = at_weighs s0 (tree_of root level) index weight in let h = held weight in omega (arith, a, h)

  mixed_stored : (index : ℕ) → IsStoredAt (updated row index (tree_at s0 (tree_of root level) index)) s1
  mixed_stored index weight =
      let a = updated_weighs weight row index (tree_at s0 (tree_of root level) index) in
      let b = old_stored index weight in
      let c = lower.stored weight in
      omega (arith, a, b, c)

  row_stored : (k : ℕ) (d : ℕ × Ptr) → k < length row → IsStoredAt (get_or row k d).1 s1
  row_stored k d lt weight = let a = one_weighs weight row k d lt in let c = lower.stored weight in omega (arith, a, c)

  kept : Keeps s0 s2
  kept b stored = upper.kept b (let c = lower.stored (one_at b.at) in omega (arith, c, stored)) ∙ lower.kept b stored

  leaves : (index : ℕ) → index / 32 ^ suc height ≡ 0 → leaf_at s2 (suc height) p index ≡ updated changes index (tree_at s0 (tree_of root (suc level)) index)
  leaves index here =
      leaf_up s2 height p index
      ∙ ap (λ (q : Ptr). leaf_at s2 1 q index) (upper.leaves (index / 32) (sym (div_up index height) ∙ here) ∙ ap (updated row (index / 32)) (at_same (index / 32)))
      ∙ (same_below s1 s2 (updated row (index / 32) (tree_at s0 (tree_of root level) (index / 32))) upper.kept (mixed_stored (index / 32))).leaves index
      ∙ lower.leaves index
      ∙ ap (updated changes index) (sym (tree_up s0 root level index))

  -- what the row above swaps
  swapped : (weight : Bptr → ℕ) → sum_by weight (leaves_below s2 height p) + weight_at weight (tree_at s0 (tree_of root level)) row ≡ sum_by weight (leaves_below s0 level root) + weight_of weight row
  swapped weight =
      let e = upper.swaps_leaves.stored weight in
      let w = weight_same weight (tree_at s1 (tree_of root level)) (tree_at s0 (tree_of root level)) row at_same in
      let l = ap (sum_by weight) same.all_leaves in
      omega (arith, e, w, l)

  -- a block above the row
  brings_above : (b : Bptr) → IsAmong b (blocks s2 height p) → (IsAmong b (blocks s0 (suc level) root) × (s2.bytes b ≡ s0.bytes b)) ⊎ IsWhole s2 b
  brings_above b h = elim (upper.brings.each b h) [
    | inr whole ↦ inr whole
    | inl old ↦
        let above = subst (IsAmong b) same.tree_blocks old.0 in
        let n = among_hits b (blocks s0 level root) above in
        let d = held_above (one_at b.at) in
        inl (among_within b (blocks s0 level root) (blocks s0 (suc level) root) (λ weight. let u = blocks_up s0 level root weight in omega (arith, u)) above, kept b (omega (arith, n, d)))
  ]

  -- a block of the row
  brings_row : (b : Bptr) → 0 < sum_by (like b) (leaves_below s2 height p) → (IsAmong b (blocks s0 (suc level) root) × (s2.bytes b ≡ s0.bytes b)) ⊎ IsWhole s2 b
  brings_row b h = elim (cases_eq (weight_of (like b) row) 0) [
    | inl none ↦
        let e = swapped (like b) in
        let old = count_among b (leaves_below s0 level root) (omega (arith, none, e, h)) in
        let n = among_hits b (leaves_below s0 level root) old in
        let d = held_row (one_at b.at) in
        inl (among_within b (leaves_below s0 level root) (blocks s0 (suc level) root) (λ weight. let u = blocks_up s0 level root weight in omega (arith, u)) old, kept b (omega (arith, n, d)))
    | inr some ↦
        let whole = row_whole s1 row b lower.whole (omega (arith, some)) in
        let less = row_less b row in
        let c = lower.stored (one_at b.at) in
        inr (whole_again s1 s2 b (upper.kept b (omega (arith, some, less, c))) whole)
  ]
    where
      less_at : (b : Bptr) (q : Ptr) → weigh (like b) q ≤ weigh (one_at b.at) q
      less_at b Hole = omega arith
      less_at b (At x) = like_less b x

      row_less : (b : Bptr) (xs : List (ℕ × Ptr)) → weight_of (like b) xs ≤ weight_of (one_at b.at) xs
      row_less b [] = omega arith
      row_less b (x ∷ xs) = let a = less_at b x.1 in let c = row_less b xs in omega (arith, a, c)

  pub stepped : PutsTree (suc height) changes s0 s2 (tree_of root (suc level)) p before after
  stepped = record {
    leaves = leaves;
    stored = λ weight.
        let a = upper.stored weight in
        let b = lower.stored weight in
        let c = lower.gone weight in
        let d = swapped weight in
        let e = blocks_up s0 level root weight in
        let f = blocks_up s2 height p weight in
        let g = ap (sum_by weight) same.tree_blocks in
        omega (arith, a, b, c, d, e, f, g);
    grows = λ weight. let a = upper.grows weight in let b = lower.stored weight in omega (arith, a, b);
    kept = kept;
    brings = record {
      each = λ b h. elim (cases_eq (sum_by (like b) (blocks s2 height p)) 0) [
        | inl none ↦
            let n = among_count b (blocks s2 (suc height) p) h in
            let u = blocks_up s2 height p (like b) in
            brings_row b (omega (arith, none, n, u))
        | inr some ↦ brings_above b (count_among b (blocks s2 height p) (omega (arith, some)))
      ];
    };
    swaps_leaves = record {
      stored = λ weight.
          let at = λ (index : ℕ). tree_at s0 (tree_of root level) index in
          let a = swapped (weight_below s2 weight) in
          let b = at_weigh s0 s2 weight at row kept old_stored in
          let c = row_weigh s1 s2 weight row upper.kept row_stored in
          let d = list_weighs s0 s2 weight (leaves_below s0 level root) kept held_row in
          let e = lower.swaps_leaves weight in
          let f = leaves_up s2 height p weight in
          let g = leaves_up s0 level root weight in
          let h = weight_same weight (tree_at s0 (tree_of root (suc level))) (λ index. leaf_at s0 1 (at (index / 32)) index) changes (tree_up s0 root level) in
          omega (arith, a, b, c, d, e, f, g, h);
    };
    ways = λ k d lt. let way = lower.ways k d lt in tree_way_up s0 root level (get_or changes k d).0 way.0 way.1;
  }

-- ---- the leaf itself

at_top : (weight : Bptr → ℕ) (s : Stored) (root : Ptr) (changes : List (ℕ × Ptr)) → AllAt 0 0 changes → weight_at weight (λ index. root) changes ≡ weight_at weight (tree_at s (tree_of root 0)) changes
at_top weight s root [] here = refl
at_top weight s root (x ∷ xs) here =
    let first = All-head (λ (c : ℕ × Ptr). c.0 / 32 ^ 0 ≡ 0) x xs here in
    let a : weigh weight root ≡ weigh weight (tree_at s (tree_of root 0) x.0) = ap (weigh weight) (sym (inside s (tree_of root 0) x.0 first)) in
    let b = at_top weight s root xs (All-tail (λ (c : ℕ × Ptr). c.0 / 32 ^ 0 ≡ 0) x xs here) in
    omega (arith, a, b)

no_way_above : (s : Stored) (root : Ptr) (changes : List (ℕ × Ptr)) → All (λ change. IsTreeWay s (tree_of root 0) change.0) changes
no_way_above s root changes k d lt low = tt

pub last_leaf : (n : ℕ) (changes : List (ℕ × Ptr)) (s : Stored) (root : Ptr) (d : ℕ × Ptr) (before : List Bptr) → AllAt 0 0 changes → length changes ≡ suc n → Rises changes → PutsTree 0 changes s s (tree_of root 0) (get_or changes n d).1 before before
last_leaf n changes s root d before at size rises = record {
  leaves = λ index here. updated_last changes index n root d (λ k e lt. let a = at k e lt in omega (arith, a, here)) size ∙ ap (updated changes index) (sym (inside s (tree_of root 0) index here));
  stored = λ weight. omega arith;
  grows = λ weight. omega arith;
  kept = λ b stored. refl;
  brings = brings_none s [];
  swaps_leaves = record {
    stored = λ weight.
        let e = (leaf_weighs 0 n changes root d at size rises).stored weight in
        let a = at_top weight s root changes at in
        omega (arith, e, a);
  };
  ways = no_way_above s root changes;
}

pub no_leaf : (changes : List (ℕ × Ptr)) (s : Stored) (root : Ptr) (before : List Bptr) → length changes ≡ 0 → PutsTree 0 changes s s (tree_of root 0) root before before
no_leaf [] s root before size = record {
  leaves = λ index here. sym (inside s (tree_of root 0) index here);
  stored = λ weight. omega arith;
  grows = λ weight. omega arith;
  kept = λ b stored. refl;
  brings = brings_none s [];
  swaps_leaves = record { stored = λ weight. refl };
  ways = no_way_above s root [];
}
no_leaf (x ∷ xs) s root before size = absurd (omega (arith, size))

-- ---- a taller tree

-- the changes lie past the first place
abbrev pub AreAbove : List (ℕ × Ptr) → Type 0
AreAbove = AllByRecursion (λ (change : ℕ × Ptr). 0 < change.0)

above_more : (n : ℕ) (xs : List (ℕ × Ptr)) → AllByRecursion (λ (later : ℕ × Ptr). n < later.0) xs → AreAbove xs
above_more n [] above = tt
above_more n (y ∷ ys) above = (let lt = above.0 in omega (arith, lt), above_more n ys above.1)

-- the leaf alone is at the first place
not_first : (s : Stored) (root : Ptr) (n : ℕ) → n ≢ 0 → tree_at s (tree_of root 0) n ≡ Hole
not_first s root n ne = outside s (tree_of root 0) n 0 (omega arith) (λ e. ne (omega (arith, e)))

is_first : (s : Stored) (root : Ptr) (n : ℕ) → n ≡ 0 → tree_at s (tree_of root 0) n ≡ root
is_first s root n e = inside s (tree_of root 0) n (omega (arith, e))

none_above : (weight : Bptr → ℕ) (s : Stored) (root : Ptr) (xs : List (ℕ × Ptr)) → AreAbove xs → weight_at weight (tree_at s (tree_of root 0)) xs ≡ 0
none_above weight s root [] above = refl
none_above weight s root (x ∷ xs) above =
    let lt = above.0 in
    let a : weigh weight (tree_at s (tree_of root 0) x.0) ≡ 0 = ap (weigh weight) (not_first s root x.0 (λ e. omega (arith, e, lt))) in
    let b = none_above weight s root xs above.1 in
    omega (arith, a, b)

-- a tree of holes weighs nothing
hole_tree : (s : Stored) (height index : ℕ) → tree_at s (tree_of Hole height) index ≡ Hole
hole_tree s height index = elim (nat_lt index (32 ^ height)) as (λ (b : Bool). (if b then leaf_at s height Hole index else Hole) ≡ Hole) [ true ↦ hole_leaf s height index | false ↦ refl ]

none_at : (weight : Bptr → ℕ) (s : Stored) (height : ℕ) (xs : List (ℕ × Ptr)) → weight_at weight (tree_at s (tree_of Hole height)) xs ≡ 0
none_at weight s height [] = refl
none_at weight s height (x ∷ xs) =
    let a : weigh weight (tree_at s (tree_of Hole height) x.0) ≡ 0 = ap (weigh weight) (hole_tree s height x.0) in
    let b = none_at weight s height xs in
    omega (arith, a, b)

module _ (height level : ℕ) (root p : Ptr) (changes all : List (ℕ × Ptr)) (s0 s1 : Stored) (before after : List Bptr) (same : (index : ℕ) → updated all index Hole ≡ updated changes index (tree_at s0 (tree_of root 0) index))
    (weighs : (weight : Bptr → ℕ) → weigh weight root + weight_of weight changes ≡ weight_of weight all + weight_at weight (tree_at s0 (tree_of root 0)) changes) (put : PutsTree height all s0 s1 (tree_of Hole level) p before after) where
  taller : PutsTree height changes s0 s1 (tree_of root 0) p before after
  taller = record {
    leaves = λ index here. put.leaves index here ∙ ap (updated all index) (hole_tree s0 level index) ∙ same index;
    stored = λ weight. let e = put.stored weight in let h = ap (sum_by weight) (hole_blocks s0 level) in omega (arith, e, h);
    grows = put.grows;
    kept = put.kept;
    brings = subst (λ (out : List Bptr). Brings s0 s1 out (blocks s1 height p)) (hole_blocks s0 level) put.brings;
    swaps_leaves = record {
      stored = λ weight.
          let e = put.swaps_leaves.stored weight in
          let n = none_at weight s0 level all in
          let h = ap (sum_by weight) (hole_leaves s0 level) in
          let w = weighs weight in
          let o = own_weight weight root in
          omega (arith, e, n, h, w, o);
    };
    ways = no_way_above s0 root changes;
  }

-- the root in front of the changes
in_front : (height level : ℕ) (root p : Ptr) (changes : List (ℕ × Ptr)) (s0 s1 : Stored) (before after : List Bptr) → AreAbove changes → PutsTree height ((0, root) ∷ changes) s0 s1 (tree_of Hole level) p before after → PutsTree height changes s0 s1 (tree_of root 0) p before after
in_front height level root p changes s0 s1 before after above put =
    taller height level root p changes ((0, root) ∷ changes) s0 s1 before after
    (λ index. ap (updated changes index) (elim (cases_eq 0 index) [
      | inl e ↦ ap (λ (b : Bool). if b then root else Hole) (eq-eqb 0 index e) ∙ sym (is_first s0 root index (sym e))
      | inr ne ↦ ap (λ (b : Bool). if b then root else Hole) (ne_eqb 0 index ne) ∙ sym (not_first s0 root index (λ e. ne (sym e)))
    ]))
    (λ weight. let n = none_above weight s0 root changes above in omega (arith, n)) put

-- a change of the root itself
in_place : (height level : ℕ) (root p : Ptr) (x : ℕ × Ptr) (changes : List (ℕ × Ptr)) (s0 s1 : Stored) (before after : List Bptr) → x.0 ≡ 0 → AreAbove changes → PutsTree height (x ∷ changes) s0 s1 (tree_of Hole level) p before after → PutsTree height (x ∷ changes) s0 s1 (tree_of root 0) p before after
in_place height level root p x changes s0 s1 before after first above put =
    taller height level root p (x ∷ changes) (x ∷ changes) s0 s1 before after
    (λ index. ap (updated changes index) (elim (cases_eq x.0 index) [
      | inl e ↦ ap (λ (b : Bool). if b then x.1 else Hole) (eq-eqb x.0 index e) ∙ sym (ap (λ (b : Bool). if b then x.1 else tree_at s0 (tree_of root 0) index) (eq-eqb x.0 index e))
      | inr ne ↦ ap (λ (b : Bool). if b then x.1 else Hole) (ne_eqb x.0 index ne) ∙ sym (ap (λ (b : Bool). if b then x.1 else tree_at s0 (tree_of root 0) index) (ne_eqb x.0 index ne) ∙ not_first s0 root index (λ e. ne (first ∙ sym e)))
    ]))
    (λ weight.
    let n = none_above weight s0 root changes above in
    let r : weigh weight (tree_at s0 (tree_of root 0) x.0) ≡ weigh weight root = ap (weigh weight) (is_first s0 root x.0 first) in
    omega (arith, n, r)) put

pub grown : (height level : ℕ) (root p : Ptr) (changes all : List (ℕ × Ptr)) (s0 s1 : Stored) (before after : List Bptr) → HasRoot root changes all → Rises changes → PutsTree height all s0 s1 (tree_of Hole level) p before after → PutsTree height changes s0 s1 (tree_of root 0) p before after
grown height level root p [] all s0 s1 before after has rises put =
    in_front height level root p [] s0 s1 before after tt (subst (λ (cs : List (ℕ × Ptr)). PutsTree height cs s0 s1 (tree_of Hole level) p before after) has put)
grown height level root p (x ∷ xs) all s0 s1 before after (inl has) rises put =
    in_place height level root p x xs s0 s1 before after has.0 (above_more x.0 xs rises.0) (subst (λ (cs : List (ℕ × Ptr)). PutsTree height cs s0 s1 (tree_of Hole level) p before after) has.1 put)
grown height level root p (x ∷ xs) all s0 s1 before after (inr has) rises put =
    let ne = has.0 in
    in_front height level root p (x ∷ xs) s0 s1 before after (omega (arith, ne), above_more x.0 xs rises.0) (subst (λ (cs : List (ℕ × Ptr)). PutsTree height cs s0 s1 (tree_of Hole level) p before after) has.1 put)

-- what holds of the changes, and of the root at the first place, holds of all
pub all_hold : (P : ℕ × Ptr → Type 0) (root : Ptr) (changes all : List (ℕ × Ptr)) → HasRoot root changes all → P (0, root) → All P changes → All P all
all_hold P root [] all has first each = subst (All P) (sym has) (All-cons P (0, root) [] first each)
all_hold P root (x ∷ xs) all (inl has) first each = subst (All P) (sym has.1) each
all_hold P root (x ∷ xs) all (inr has) first each = subst (All P) (sym has.1) (All-cons P (0, root) (x ∷ xs) first each)

pub all_rise : (root : Ptr) (changes all : List (ℕ × Ptr)) → HasRoot root changes all → Rises changes → Rises all
all_rise root [] all has rises = subst Rises (sym has) (tt, tt)
all_rise root (x ∷ xs) all (inl has) rises = subst Rises (sym has.1) rises
all_rise root (x ∷ xs) all (inr has) rises = let ne = has.0 in subst Rises (sym has.1) ((omega (arith, ne), above_more x.0 xs rises.0), rises)

pub all_long : (root : Ptr) (changes all : List (ℕ × Ptr)) → HasRoot root changes all → length all ≤ length changes + 1
all_long root [] all has = let e = ap (λ (cs : List (ℕ × Ptr)). length cs) has in omega (arith, e)
all_long root (x ∷ xs) all (inl has) = let e = ap (λ (cs : List (ℕ × Ptr)). length cs) has.1 in omega (arith, e)
all_long root (x ∷ xs) all (inr has) = let e = ap (λ (cs : List (ℕ × Ptr)). length cs) has.1 in omega (arith, e)

pub all_some : (root : Ptr) (changes all : List (ℕ × Ptr)) → HasRoot root changes all → 0 < length all
all_some root [] all has = let e = ap (λ (cs : List (ℕ × Ptr)). length cs) has in omega (arith, e)
all_some root (x ∷ xs) all (inl has) = let e = ap (λ (cs : List (ℕ × Ptr)). length cs) has.1 in omega (arith, e)
all_some root (x ∷ xs) all (inr has) = let e = ap (λ (cs : List (ℕ × Ptr)). length cs) has.1 in omega (arith, e)

pub all_end : (root : Ptr) (changes all : List (ℕ × Ptr)) → HasRoot root changes all → 0 < length changes → EndsInUnit changes → EndsInUnit all
all_end root [] all has some ends = absurd (omega (arith, some))
all_end root (x ∷ xs) all (inl has) some ends = subst EndsInUnit (sym has.1) ends
all_end root (x ∷ xs) all (inr has) some ends = subst EndsInUnit (sym has.1) later
  where
    later : EndsInUnit ((0, root) ∷ x ∷ xs)
    later zero d size = absurd (omega (arith, size))
    later (suc n) d size = ends n d (omega (arith, size))

-- ---- errors

-- what a store that has grown tells of a tree is told of the tree as it was
pub tells_kept : {T : Type 0} (s t : Stored) (level : ℕ) (p : Ptr) (r : Result T StoreErr) → Keeps s t → ((weight : Bptr → ℕ) → sum_by weight s.pointers ≤ sum_by weight t.pointers) → AreStored (blocks s level p) s → TellsOf t (blocks t level p) r → TellsOf s (blocks s level p) r
tells_kept s t level p r keep grows held h =
    let same = (same_tree s t level p keep held).tree_blocks in
    let old : Brings s t (blocks s level p) (blocks s level p) = record { each = λ b k. inl (k, keep b (let n = among_hits b (blocks s level p) k in let d = held (one_at b.at) in omega (arith, n, d))) } in
    tells_before s t (blocks s level p) (blocks t level p) r (subst (λ (into : List Bptr). Brings s t (blocks s level p) into) (sym same) old)
    (λ weight. let e = ap (sum_by weight) same in let d = held weight in let g = grows weight in omega (arith, e, d, g)) h

-- the tree blocks above the lowest row are some of all
pub above_within : (s : Stored) (level : ℕ) (p : Ptr) → Within (blocks s level p) (blocks s (suc level) p)
above_within s level p weight = let u = blocks_up s level p weight in omega (arith, u)

-- the block at a place of the lowest row is one of all
pub row_within : (s : Stored) (t : Tree) (index : ℕ) → Within (own (tree_at s t index)) (blocks s (suc t.height) t.root)
row_within s t index weight = let a = at_weighs s t index weight in let o = own_weight weight (tree_at s t index) in omega (arith, a, o)

-- a store that has grown has what it had
pub stored_kept : (s t : Stored) (level : ℕ) (p : Ptr) → Keeps s t → ((weight : Bptr → ℕ) → sum_by weight s.pointers ≤ sum_by weight t.pointers) → AreStored (blocks s level p) s → AreStored (blocks t level p) t
stored_kept s t level p keep grows held weight =
    let e = ap (sum_by weight) (same_tree s t level p keep held).tree_blocks in
    let d = held weight in
    let g = grows weight in
    omega (arith, e, d, g)

-- ---- the last change

pub last_holds : (P : Ptr → Type 0) (root p : Ptr) (changes : List (ℕ × Ptr)) → (length changes ≡ 0 → p ≡ root) → ((d : ℕ × Ptr) (n : ℕ) → length changes ≡ suc n → p ≡ (get_or changes n d).1) → P root → All (λ change. P change.1) changes → P p
last_holds P root p [] none last first all = subst P (sym (none refl)) first
last_holds P root p (x ∷ xs) none last first all = subst P (sym (last x (length xs) refl)) (all (length xs) x (omega arith))

pub last_put : (root p : Ptr) (changes : List (ℕ × Ptr)) (s : Stored) (before : List Bptr) → (length changes ≡ 0 → p ≡ root) → ((d : ℕ × Ptr) (n : ℕ) → length changes ≡ suc n → p ≡ (get_or changes n d).1) → AllAt 0 0 changes → Rises changes → PutsTree 0 changes s s (tree_of root 0) p before before
last_put root p [] s before none last here rises = subst (λ (q : Ptr). PutsTree 0 [] s s (tree_of root 0) q before before) (sym (none refl)) (no_leaf [] s root before refl)
last_put root p (x ∷ xs) s before none last here rises =
    subst (λ (q : Ptr). PutsTree 0 (x ∷ xs) s s (tree_of root 0) q before before) (sym (last x (length xs) refl)) (last_leaf (length xs) (x ∷ xs) s root x before here refl rises)
