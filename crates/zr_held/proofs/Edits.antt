-- A range of an object is changed: its blocks, and then its bytes.
use Rattle.std.proofs.Common.{◌≡◌, ◌∙◌, ◌<◌, ◌≤◌, ◌+◌, ◌⊎◌, ℕ, List, [], ◌∷◌, ◌++◌, map, Option, Some, refl, sym, ap, subst, arith, lt-ltb}
use Rattle.std.specs.Prelude.{unwrap_or}
use Rattle.std.specs.List.{sum_by, All, AllZip, range_with_len}
use Rattle.std.proofs.lemmas.Bool.{eq-eqb, ne_eqb}
use Rattle.std.proofs.lemmas.List.Sums.{sum_by-append, sum_by-cons}
use Rattle.zr_bptr.specs.declared.Bptr.{Bptr}
use Rattle.zr_bptr.specs.declared.Ptr.{Ptr}
use Rattle.zr_bptr.specs.declared.Ptr.TheVariants.{At}
use Rattle.zr_bptr.specs.declared.ObjRec.{ObjRec}
use Rattle.zr_store.specs.Store.{Stored, IsOnce}
use Rattle.zr_tree.specs.Trees.{tree_at, tree_blocks, tree_reach, updated}
use Rattle.zr_tree.proofs.Frames.{Agree, first_of}
use Rattle.zr_tree.proofs.Others.{keeps}
use Rattle.zr_objset.specs.Records.{record_of}
use Rattle.zr_objset.proofs.Keeping.{beside}
use Rattle.zr_txg.specs.Changes.{object_in, change_in}
use Rattle.zr_lookup.specs.Objects.{record_now, pointer_now, block_in, AreObjectBlocks}
use Rattle.zr_change.specs.declared.plans.Planned.{Planned}
use Rattle.zr_change.specs.Changes.{changed_by}
use Rattle.zr_change.specs.Plans.{IsChanged, olds_of, leaves_of}
use Rattle.zr_moves.specs.Account.{Account}
use Rattle.zr_held.specs.Held.{AreBlocksNow, HasAllBlocks}
use Rattle.zr_held.specs.Steps.{IsOtherGroup, ChangesBlocks}
use Rattle.zr_held.proofs.Frames.{leaf_of}
use Rattle.zr_held.proofs.One.{object_stored}
use Rattle.zr_held.proofs.Leaves.{set_leaves, all_rising, all_values, untouched, listed_weight, index_of, have_keys, plan_weight, holes_of, holes_keys, holes_weight, changed_over}

module _ (s n : Stored) (a b : Account) (id : ℕ) (r : ObjRec) (plan : List Planned) (low count : ℕ) (h : HasAllBlocks s a.dir a.changes)
    (small : id < 65536) (found : record_now s a.dir a.changes id ≡ Some r) (row : map index_of plan ≡ range_with_len low count)
    (olds : All (λ p. p.old ≡ pointer_now s a.changes id r p.index) plan)
    (dir : b.dir ≡ a.dir) (changed : IsChanged id r plan s a.changes n b.changes) (once : IsOnce n) where
  abbrev xs : List (ℕ × Ptr)
  xs = changed.recorded.changes

  abbrev at_first : ℕ → Ptr
  at_first k = pointer_now s a.changes id r k

  -- ---- the group

  pub other_group : IsOtherGroup id a b
  other_group = record {
    dir = dir;
    records = λ other apart. changed.recorded.records.object other ∙ rw (ne_eqb id other apart) refl;
    blocks = λ other apart i. changed.recorded.records.blocks other i ∙ rw (ne_eqb id other apart) refl;
  }

  pub found_then : record_now n b.dir b.changes id ≡ Some r
  found_then =
      let recorded : object_in b.changes id ≡ Some (Some r) = changed.recorded.records.object id ∙ rw (eq-eqb id id refl) refl in
      rw (lt-ltb id 65536 small) (ap (λ (y : Option (Option ObjRec)). unwrap_or y (record_of n b.dir id)) recorded)

  change_then : (k : ℕ) → change_in b.changes id k ≡ changed_by xs k (change_in a.changes id k)
  change_then k = changed.recorded.records.blocks id k ∙ rw (eq-eqb id id refl) refl

  -- ---- the blocks

  pub had : AreObjectBlocks s a.changes id r (h.blocks id)
  had = subst (λ (x : Option ObjRec). AreBlocksNow s a.changes id x (h.blocks id)) found (h.each id)

  abbrev ls : List (ℕ × Bptr)
  ls = had.leaves

  swap_weight : (ys : List (ℕ × Ptr)) → AllZip (λ p x. x.0 ≡ p.index) plan ys → (weight : Bptr → ℕ)
      → sum_by weight (map leaf_of (set_leaves ls ys)) + sum_by weight (olds_of plan) ≡ sum_by weight (map leaf_of ls) + sum_by weight (leaves_of ys)
  swap_weight ys keys weight = plan_weight at_first weight ls plan ys low count had.are_leaves.rising (λ k le. had.are_leaves.each k) row olds keys

  had_weight : (weight : Bptr → ℕ) → sum_by weight (h.blocks id) ≡ sum_by weight (map leaf_of ls) + sum_by weight (tree_blocks s r.tree)
  had_weight weight = let e = ap (sum_by weight) had.all in omega (arith, e, sum_by-append weight (map leaf_of ls) (tree_blocks s r.tree))

  -- blocks beside those that went
  beside_olds : (ps : List Bptr) → ((weight : Bptr → ℕ) → sum_by weight (olds_of plan) + sum_by weight ps ≤ sum_by weight (h.blocks id)) → Agree s n ps
  beside_olds ps fits = beside s n (olds_of plan) (leaves_of xs) ps changed.swaps h.once
      (λ weight.
      let all = object_stored s a.dir a.changes h id weight in
      let f = fits weight in
      omega (arith, all, f, sum_by-append weight (tree_reach s a.dir) (h.blocks id), sum_by-append weight (olds_of plan) ps))

  tree_agrees : Agree s n (tree_blocks s r.tree)
  tree_agrees = beside_olds (tree_blocks s r.tree)
      (λ weight.
      let w = swap_weight (holes_of plan) (holes_keys plan) weight in
      let z = holes_weight weight plan in
      let all = had_weight weight in
      omega (arith, w, z, all))

  -- an untouched leaf keeps its bytes
  pub leaf_kept : (i : ℕ) (x : Bptr) → (i < low) ⊎ (low + count ≤ i) → at_first i ≡ At x → n.bytes x ≡ s.bytes x
  leaf_kept i x out is =
      let ys = holes_of plan in
      let keys = keys_row plan in
      let value = all_values ls ys i (at_first i) had.are_leaves.rising (had.are_leaves.each i) ∙ ap block_in (untouched ys count i low (at_first i) (keys ∙ row) out ∙ is) in
      let agree = beside_olds (x ∷ [])
      (λ weight.
      let w = swap_weight ys (holes_keys plan) weight in
      let z = holes_weight weight plan in
      let l = listed_weight weight i x (set_leaves ls ys) value in
      let all = had_weight weight in
      omega (arith, w, z, l, all, sum_by-cons weight x [])) in
      agree.same x (first_of x [])
    where
      keys_row : (ps : List Planned) → map (λ (y : ℕ × Ptr). y.0) (holes_of ps) ≡ map index_of ps
      keys_row [] = refl
      keys_row (p ∷ ps) = ap (λ (ks : List ℕ). p.index ∷ ks) (keys_row ps)

  pub pointer_then : (k : ℕ) → pointer_now n b.changes id r k ≡ updated xs k (at_first k)
  pointer_then k =
      ap (λ (c : Option Ptr). unwrap_or c (tree_at n r.tree k)) (change_then k)
      ∙ (ap (λ (t : Ptr). unwrap_or (changed_by xs k (change_in a.changes id k)) t) ((keeps s n r.tree (λ q met. tree_agrees.same q met)).leaves k)
      ∙ changed_over xs k (change_in a.changes id k) (tree_at s r.tree k))

  abbrev new_leaves : List (ℕ × Bptr)
  new_leaves = set_leaves ls xs

  blocks_now : AreObjectBlocks n b.changes id r (map leaf_of new_leaves ++ tree_blocks s r.tree)
  blocks_now = record {
    leaves = new_leaves;
    are_leaves = record {
      rising = all_rising ls xs had.are_leaves.rising;
      each = λ k. all_values ls xs k (at_first k) had.are_leaves.rising (had.are_leaves.each k) ∙ sym (ap block_in (pointer_then k));
    };
    all = ap (λ (bs : List Bptr). map leaf_of new_leaves ++ bs) (sym ((keeps s n r.tree (λ q met. tree_agrees.same q met)).same_blocks));
  }

  pub changes_blocks : ChangesBlocks s n b id (h.blocks id) (map leaf_of new_leaves ++ tree_blocks s r.tree) (olds_of plan) (leaves_of xs)
  changes_blocks = record {
    swaps = changed.swaps;
    among = λ weight.
        let w = swap_weight (holes_of plan) (holes_keys plan) weight in
        let z = holes_weight weight plan in
        let all = had_weight weight in
        omega (arith, w, z, all);
    balance = λ weight.
        let w = swap_weight xs (have_keys plan xs changed.recorded.are_changes) weight in
        let all = had_weight weight in
        omega (arith, w, all, sum_by-append weight (map leaf_of new_leaves) (tree_blocks s r.tree));
    now = subst (λ (x : Option ObjRec). AreBlocksNow n b.changes id x (map leaf_of new_leaves ++ tree_blocks s r.tree)) (sym found_then) blocks_now;
    once = once;
  }

-- the old blocks of a plan are among the object's
pub olds_among : (s : Stored) (a : Account) (id : ℕ) (r : ObjRec) (plan : List Planned) (low count : ℕ) (h : HasAllBlocks s a.dir a.changes) → record_now s a.dir a.changes id ≡ Some r → map index_of plan ≡ range_with_len low count
    → All (λ p. p.old ≡ pointer_now s a.changes id r p.index) plan → (weight : Bptr → ℕ) → sum_by weight (olds_of plan) ≤ sum_by weight (h.blocks id)
olds_among s a id r plan low count h found row olds weight =
    let mine = subst (λ (x : Option ObjRec). AreBlocksNow s a.changes id x (h.blocks id)) found (h.each id) in
    let w = plan_weight (λ k. pointer_now s a.changes id r k) weight mine.leaves plan (holes_of plan) low count mine.are_leaves.rising (λ k le. mine.are_leaves.each k) row olds (holes_keys plan) in
    let z = holes_weight weight plan in
    let e = ap (sum_by weight) mine.all in
    omega (arith, w, z, e, sum_by-append weight (map leaf_of mine.leaves) (tree_blocks s r.tree))
