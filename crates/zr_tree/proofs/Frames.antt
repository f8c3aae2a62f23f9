-- Stores that agree on a tree's blocks give it one meaning.
use Rattle.std.proofs.Common.{◌≡◌, ◌-◌, ◌<◌, ℕ, zero, suc, List, [], ◌∷◌, ◌++◌, refl, sym, ◌∙◌, ap, subst, arith}
use Rattle.std.proofs.lemmas.Bool.Decides.{nat_tests}
use Rattle.std.specs.List.{flat_map}
use Rattle.std.proofs.lemmas.List.Sums.{sum_by-append, sum_by-cons}
use Rattle.zr_bptr.specs.declared.Bptr.{Bptr}
use Rattle.zr_bptr.specs.declared.Ptr.{Ptr}
use Rattle.zr_bptr.specs.declared.Ptr.TheVariants.{Hole, At}
use Rattle.zr_bptr.specs.Spelling.{SpellsTreeBlock}
use Rattle.sha2.specs.Sha256.{sha256}
use Rattle.zr_tree.specs.Blocks.{pointers_in}
use Rattle.zr_store.specs.Store.{Stored, hits, one_at}
use Rattle.zr_tree.specs.Trees.{kids, slot, digit, leaf_at, leaves_below, blocks, reach, IsWhole, IsWay}

pub record Agree (s t : Stored) (pointers : List Bptr) : Type 0 where
  pub same : (b : Bptr) → 0 < hits pointers b.at → t.bytes b ≡ s.bytes b

pub record IsSameTree (s t : Stored) (level : ℕ) (p : Ptr) : Type 0 where
  pub tree_blocks : blocks t level p ≡ blocks s level p
  pub all_blocks : reach t level p ≡ reach s level p
  pub leaves : (index : ℕ) → leaf_at t level p index ≡ leaf_at s level p index
  pub all_leaves : leaves_below t level p ≡ leaves_below s level p
  pub ways : (index : ℕ) → IsWay t level p index → IsWay s level p index

pub one_itself : (b : Bptr) → one_at b.at b ≡ 1
one_itself b = grind (arith, nat_tests)

pub first_of : (b : Bptr) (bs : List Bptr) → 0 < hits (b ∷ bs) b.at
first_of b bs = omega (arith, sum_by-cons (one_at b.at) b bs, one_itself b)

pub agree_rest : (s t : Stored) (b : Bptr) (bs : List Bptr) → Agree s t (b ∷ bs) → Agree s t bs
agree_rest s t b bs a = record { same = λ q h. a.same q (omega (arith, sum_by-cons (one_at q.at) b bs, h)) }

pub agree_front : (s t : Stored) (xs ys : List Bptr) → Agree s t (xs ++ ys) → Agree s t xs
agree_front s t xs ys a = record { same = λ q h. a.same q (omega (arith, sum_by-append (one_at q.at) xs ys, h)) }

pub agree_back : (s t : Stored) (xs ys : List Bptr) → Agree s t (xs ++ ys) → Agree s t ys
agree_back s t xs ys a = record { same = λ q h. a.same q (omega (arith, sum_by-append (one_at q.at) xs ys, h)) }

pub hole_leaf : (s : Stored) (level index : ℕ) → leaf_at s level Hole index ≡ Hole
hole_leaf s zero index = refl
hole_leaf s (suc below) index = refl

pub way_hole : (s : Stored) (level index : ℕ) → IsWay s level Hole index
way_hole s zero index = tt
way_hole s (suc below) index = tt

pub whole_again : (s t : Stored) (b : Bptr) → t.bytes b ≡ s.bytes b → IsWhole s b → IsWhole t b
whole_again s t b same w = record {
  checksum = w.checksum ∙ sym (ap (λ (bytes : List ℕ). sha256 bytes) same);
  block = (w.block.0, subst (λ (bytes : List ℕ). SpellsTreeBlock bytes (b.level - 1) b.fill w.block.0) (sym same) w.block.1);
}

module _ (s t : Stored) (level : ℕ) (each : (p : Ptr) → Agree s t (blocks s level p) → IsSameTree s t level p) where
  pub each_blocks : (ps : List Ptr) → Agree s t (flat_map (blocks s level) ps) → flat_map (blocks t level) ps ≡ flat_map (blocks s level) ps
  each_blocks [] a = refl
  each_blocks (p ∷ ps) a =
      let h = each p (agree_front s t (blocks s level p) (flat_map (blocks s level) ps) a) in
      let e = each_blocks ps (agree_back s t (blocks s level p) (flat_map (blocks s level) ps) a) in
      ap (λ (xs : List Bptr). xs ++ flat_map (blocks t level) ps) h.tree_blocks ∙ ap (λ (ys : List Bptr). blocks s level p ++ ys) e

  pub each_reach : (ps : List Ptr) → Agree s t (flat_map (blocks s level) ps) → flat_map (reach t level) ps ≡ flat_map (reach s level) ps
  each_reach [] a = refl
  each_reach (p ∷ ps) a =
      let h = each p (agree_front s t (blocks s level p) (flat_map (blocks s level) ps) a) in
      let e = each_reach ps (agree_back s t (blocks s level p) (flat_map (blocks s level) ps) a) in
      ap (λ (xs : List Bptr). xs ++ flat_map (reach t level) ps) h.all_blocks ∙ ap (λ (ys : List Bptr). reach s level p ++ ys) e

  pub each_leaf_list : (ps : List Ptr) → Agree s t (flat_map (blocks s level) ps) → flat_map (leaves_below t level) ps ≡ flat_map (leaves_below s level) ps
  each_leaf_list [] a = refl
  each_leaf_list (p ∷ ps) a =
      let h = each p (agree_front s t (blocks s level p) (flat_map (blocks s level) ps) a) in
      let e = each_leaf_list ps (agree_back s t (blocks s level p) (flat_map (blocks s level) ps) a) in
      ap (λ (xs : List Bptr). xs ++ flat_map (leaves_below t level) ps) h.all_leaves ∙ ap (λ (ys : List Bptr). leaves_below s level p ++ ys) e

  pub each_leaves : (ps : List Ptr) → Agree s t (flat_map (blocks s level) ps) → (k index : ℕ) → leaf_at t level (slot ps k) index ≡ leaf_at s level (slot ps k) index
  each_leaves [] a k index = hole_leaf t level index ∙ sym (hole_leaf s level index)
  each_leaves (p ∷ ps) a zero index = (each p (agree_front s t (blocks s level p) (flat_map (blocks s level) ps) a)).leaves index
  each_leaves (p ∷ ps) a (suc k) index = each_leaves ps (agree_back s t (blocks s level p) (flat_map (blocks s level) ps) a) k index

  pub each_ways : (ps : List Ptr) → Agree s t (flat_map (blocks s level) ps) → (k index : ℕ) → IsWay t level (slot ps k) index → IsWay s level (slot ps k) index
  each_ways [] a k index way = way_hole s level index
  each_ways (p ∷ ps) a zero index way = (each p (agree_front s t (blocks s level p) (flat_map (blocks s level) ps) a)).ways index way
  each_ways (p ∷ ps) a (suc k) index way = each_ways ps (agree_back s t (blocks s level p) (flat_map (blocks s level) ps) a) k index way

pub frame : (s t : Stored) (level : ℕ) (p : Ptr) → Agree s t (blocks s level p) → IsSameTree s t level p
frame s t zero Hole a = record { tree_blocks = refl; all_blocks = refl; leaves = λ index. refl; all_leaves = refl; ways = λ index way. tt }
frame s t zero (At b) a = record { tree_blocks = refl; all_blocks = refl; leaves = λ index. refl; all_leaves = refl; ways = λ index way. tt }
frame s t (suc below) Hole a = record { tree_blocks = refl; all_blocks = refl; leaves = λ index. refl; all_leaves = refl; ways = λ index way. tt }
frame s t (suc below) (At b) a =
    let same_bytes = a.same b (first_of b (flat_map (blocks s below) (kids s below b))) in
    let same : kids t below b ≡ kids s below b = ap (λ (bytes : List ℕ). pointers_in bytes) same_bytes in
    let rest = agree_rest s t b (flat_map (blocks s below) (kids s below b)) a in
    record {
      tree_blocks = ap (λ (ps : List Ptr). b ∷ flat_map (blocks t below) ps) same ∙ ap (λ (bs : List Bptr). b ∷ bs) (each_blocks s t below (λ p h. frame s t below p h) (kids s below b) rest);
      all_blocks = ap (λ (ps : List Ptr). b ∷ flat_map (reach t below) ps) same ∙ ap (λ (bs : List Bptr). b ∷ bs) (each_reach s t below (λ p h. frame s t below p h) (kids s below b) rest);
      leaves = λ index. ap (λ (ps : List Ptr). leaf_at t below (slot ps (digit below index)) index) same ∙ each_leaves s t below (λ p h. frame s t below p h) (kids s below b) rest (digit below index) index;
      all_leaves = ap (λ (ps : List Ptr). flat_map (leaves_below t below) ps) same ∙ each_leaf_list s t below (λ p h. frame s t below p h) (kids s below b) rest;
      ways = λ index way. (
        whole_again t s b (sym same_bytes) way.0,
        each_ways s t below (λ p h. frame s t below p h) (kids s below b) rest (digit below index) index (subst (λ (ps : List Ptr). IsWay t below (slot ps (digit below index)) index) same way.1),
      );
    }
