-- What was put in all rows, and what is given back after that.
use Rattle.std.proofs.Common.{◌/◌, ◌^◌, ◌≤◌, inl, inr, ℕ, List, [], sym, ◌∙◌, ap, subst, arith}
use Rattle.std.specs.List.{sum_by}
use Rattle.std.proofs.lemmas.Bool.{cases_eq}
use Rattle.zr_bptr.specs.declared.Bptr.{Bptr}
use Rattle.zr_bptr.specs.declared.Ptr.{Ptr}
use Rattle.zr_bptr.specs.declared.Tree.{Tree}
use Rattle.zr_store.specs.Store.{Stored, Swaps, AreStored, IsOnce, one_at}
use Rattle.zr_tree.specs.Trees.{blocks, tree_at, tree_blocks, AllAt, Brings, PutsTree, Raises, SetsTree}
use Rattle.zr_tree.proofs.Frames.{Agree, IsSameTree, frame}
use Rattle.zr_tree.proofs.Holes.{inside}
pub use Rattle.zr_tree.proofs.Holes.{outside}
use Rattle.zr_tree.proofs.Wholes.{among_hits, brings_same}
use Rattle.zr_tree.proofs.Others.{keeps_others}
use Rattle.zr_tree.proofs.Each.{updated_other}

-- what came by the first may go by the second
pub joined : (a b c : Stored) (out mid into : List Bptr) → Swaps a b out mid → Swaps b c mid into → IsOnce b → Swaps a c out into
joined a b c out mid into first second once = record {
  stored = λ weight. let e = first.stored weight in let f = second.stored weight in omega (arith, e, f);
  kept = λ x free held.
      let e = first.stored (one_at x.at) in
      let o = once x.at in
      second.kept x (omega (arith, e, o, free, held)) (omega (arith, e, free, held)) ∙ first.kept x free held;
}

-- what is to be given back is stored
pub gone_stored : (height : ℕ) (changes : List (ℕ × Ptr)) (s0 s1 : Stored) (t : Tree) (p : Ptr) (gone : List Bptr) → PutsTree height changes s0 s1 t p [] gone → AreStored (tree_blocks s0 t) s0 → AreStored gone s1
gone_stored height changes s0 s1 t p gone put held weight = let e = put.stored weight in let h = held weight in omega (arith, e, h)

module _ (height : ℕ) (changes : List (ℕ × Ptr)) (s0 s1 s2 : Stored) (t : Tree) (p : Ptr) (gone : List Bptr) (put : PutsTree height changes s0 s1 t p [] gone) (free : Swaps s1 s2 gone []) (held : AreStored (tree_blocks s0 t) s0) (once : IsOnce s1) where
  agree : Agree s1 s2 (blocks s1 height p)
  agree = record {
    same = λ b h.
        let e = put.stored (one_at b.at) in
        let d = held (one_at b.at) in
        let o = once b.at in
        free.kept b (omega (arith, e, d, o, h)) (omega (arith, e, d, h));
  }

  same : IsSameTree s1 s2 height p
  same = frame s1 s2 height p agree

  pub given_back : Raises height changes s0 s2 t p
  given_back = record {
    leaves = λ index here. same.leaves index ∙ put.leaves index here;
    swaps = record {
      stored = λ weight.
          let e = put.stored weight in
          let f = free.stored weight in
          let n = ap (sum_by weight) same.tree_blocks in
          omega (arith, e, f, n);
      kept = λ b out stored.
          let e = put.stored (one_at b.at) in
          let g = put.grows (one_at b.at) in
          let o = once b.at in
          free.kept b (omega (arith, e, o, out, stored)) (omega (arith, g, stored)) ∙ put.kept b stored;
    };
    brings = subst (λ (into : List Bptr). Brings s0 s2 (tree_blocks s0 t) into) (sym same.tree_blocks) (brings_same s0 s1 s2 (tree_blocks s0 t) (blocks s1 height p) put.brings (λ x h. agree.same x (among_hits x (blocks s1 height p) h)));
    swaps_leaves = record {
      stored = λ weight.
          let e = put.swaps_leaves.stored weight in
          let n = ap (sum_by weight) same.all_leaves in
          omega (arith, e, n);
    };
    ways = put.ways;
  }

-- from the block at the top to the tree
pub whole : (changes : List (ℕ × Ptr)) (s0 s1 : Stored) (t u : Tree) → t.height ≤ u.height → AllAt u.height 0 changes → IsOnce s0 → Raises u.height changes s0 s1 t u.root → SetsTree changes s0 s1 t u
whole changes s0 s1 t u grows room once raises = record {
  leaves = λ index. elim (cases_eq (index / 32 ^ u.height) 0) [
    | inl here ↦ inside s1 u index here ∙ raises.leaves index here
    | inr past ↦ let o = outside s0 t index u.height grows past in outside s1 u index u.height (omega arith) past ∙ sym (updated_other u.height 0 changes index (tree_at s0 t index) room past ∙ o)
  ];
  swaps = raises.swaps;
  brings = raises.brings;
  swaps_leaves = raises.swaps_leaves;
  others = keeps_others s0 s1 (tree_blocks s0 t) (tree_blocks s1 u) raises.swaps once;
}
