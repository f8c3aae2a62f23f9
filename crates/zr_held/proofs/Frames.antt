-- An object whose blocks keep their bytes is the same object.
use Rattle.std.proofs.Common.{◌≡◌, ◌≢◌, ◌∙◌, ◌<◌, ◌*◌, ℕ, List, [], ◌∷◌, ◌++◌, map, replicate, Option, Some, None, refl, sym, ap, subst, arith}
use Rattle.std.specs.Prelude.{unwrap_or, Bool, true, false, nat_lt, if◌then◌else◌}
use Rattle.std.proofs.lemmas.Bool.{eq-eqb, ne_eqb}
use Rattle.std.proofs.lemmas.List.Sums.{sum_by-cons}
use Rattle.sha2.specs.Sha256.{sha256}
use Rattle.zr_bptr.specs.declared.Bptr.{Bptr}
use Rattle.zr_bptr.specs.declared.Ptr.{Ptr}
use Rattle.zr_bptr.specs.declared.Ptr.TheVariants.{Hole, At}
use Rattle.zr_bptr.specs.declared.ObjRec.{ObjRec}
use Rattle.zr_store.specs.Store.{Stored, hits, one_at}
use Rattle.zr_tree.specs.Trees.{tree_at, tree_blocks}
use Rattle.zr_tree.proofs.Frames.{Agree, first_of, agree_front, agree_back}
use Rattle.zr_tree.proofs.Others.{keeps}
use Rattle.zr_objset.specs.Records.{record_of, bytes_of}
use Rattle.zr_txg.specs.Tables.{value_at}
use Rattle.zr_txg.proofs.Keyed.{by_key}
use Rattle.zr_txg.specs.Changes.{Changes, object_in, change_in}
use Rattle.zr_lookup.specs.Objects.{record_now, pointer_now, block_in, AreObjectBlocks}
use Rattle.zr_model.specs.Objects.{Object, bytes_at}
use Rattle.zr_image.specs.StateOf.{IsLost}
use Rattle.zr_moves.specs.Account.{Account, leaf_in, leaf_now, IsObjectNow, IsObjectAt}
use Rattle.zr_held.specs.Held.{AreBlocksNow}

abbrev pub leaf_of : ℕ × Bptr → Bptr
leaf_of leaf = leaf.1

-- a leaf of the list is met there
pub listed : (k : ℕ) (b : Bptr) (leaves : List (ℕ × Bptr)) → value_at leaves k ≡ Some b → 0 < hits (map leaf_of leaves) b.at
listed k b [] is = absurd (cc)
listed k b (e ∷ es) is =
    by_key e.0 k
    (λ same.
    let here : Some e.1 ≡ Some b = sym (rw (eq-eqb e.0 k same) refl) ∙ is in
    let this : e.1 ≡ b = cc in
    subst (λ (q : Bptr). 0 < hits (map leaf_of (e ∷ es)) q.at) this (first_of e.1 (map leaf_of es)))
    (λ other.
    let there : value_at es k ≡ Some b = sym (rw (ne_eqb e.0 k other) refl) ∙ is in
    let rest = listed k b es there in
    omega (arith, rest, sum_by-cons (one_at b.at) e.1 (map leaf_of es)))

-- ---- one object

module _ (s n : Stored) (a b : Account) (id : ℕ) (r q : ObjRec) (units : q.units ≡ r.units)
    (leaves : (i : ℕ) → leaf_now n b id i ≡ leaf_now s a id i)
    (bytes : (i : ℕ) (x : Bptr) → leaf_now s a id i ≡ At x → n.bytes x ≡ s.bytes x) where
  lost_back : (i : ℕ) (p : Ptr) → leaf_now s a id i ≡ p → IsLost n p → IsLost s p
  lost_back i Hole is lost = lost
  lost_back i (At x) is lost = subst (λ (bs : List ℕ). sha256 bs ≢ x.sum) (bytes i x is) lost

  lost_on : (i : ℕ) (p : Ptr) → leaf_now s a id i ≡ p → IsLost s p → IsLost n p
  lost_on i Hole is lost = lost
  lost_on i (At x) is lost = subst (λ (bs : List ℕ). sha256 bs ≢ x.sum) (sym (bytes i x is)) lost

  lost_then : (i : ℕ) → IsLost s (leaf_now s a id i) → IsLost n (leaf_now n b id i)
  lost_then i lost = subst (λ (p : Ptr). IsLost n p) (sym (leaves i)) (lost_on i (leaf_now s a id i) refl lost)

  lost_before : (i : ℕ) → IsLost n (leaf_now n b id i) → IsLost s (leaf_now s a id i)
  lost_before i lost = lost_back i (leaf_now s a id i) refl (subst (λ (p : Ptr). IsLost n p) (leaves i) lost)

  bytes_at_leaf : (i : ℕ) (p : Ptr) → leaf_now s a id i ≡ p → bytes_of n r.units p ≡ bytes_of s r.units p
  bytes_at_leaf i Hole is = refl
  bytes_at_leaf i (At x) is = bytes i x is

  bytes_then : (i : ℕ) → bytes_of n r.units (leaf_now n b id i) ≡ bytes_of s r.units (leaf_now s a id i)
  bytes_then i = ap (λ (p : Ptr). bytes_of n r.units p) (leaves i) ∙ bytes_at_leaf i (leaf_now s a id i) refl

  with_units : (o : Object) → IsObjectNow s a id r o → IsObjectNow n b id r o
  with_units o is = record {
    units = is.units;
    lost_are = λ i. (λ among. lost_then i ((is.lost_are i).0 among), λ lost. (is.lost_are i).1 (lost_before i lost));
    blocks = λ i there. is.blocks i (λ lost. there (lost_then i lost)) ∙ sym (bytes_then i);
    lost = λ i lost. is.lost i (lost_before i lost);
    nonzero = is.nonzero;
  }

  pub same_object : (o : Object) → IsObjectNow s a id r o → IsObjectNow n b id q o
  same_object o is =
      let w = with_units o is in
      record {
        units = w.units ∙ sym units;
        lost_are = w.lost_are;
        blocks = λ i there. subst (λ (u : ℕ). IsBytesAt u i) (sym units) (w.blocks i there);
        lost = λ i lost. subst (λ (u : ℕ). IsZerosAt u i) (sym units) (w.lost i lost);
        nonzero = w.nonzero;
      }
    where
      IsBytesAt : ℕ → ℕ → Type 0
      IsBytesAt u i = bytes_at o.bytes (4096 * u * i) (4096 * u) ≡ bytes_of n u (leaf_now n b id i)

      IsZerosAt : ℕ → ℕ → Type 0
      IsZerosAt u i = bytes_at o.bytes (4096 * u * i) (4096 * u) ≡ replicate (4096 * u) 0

-- ---- the blocks of one object

-- the leaf that the account has is the pointer that is looked up
in_range : (y : Bool) (x : Option ObjRec) (r : ObjRec) → (if y then x else None) ≡ Some r → x ≡ Some r
in_range true x r is = is
in_range false x r is = absurd (cc)

pub leaf_is : (s : Stored) (a : Account) (id : ℕ) (r : ObjRec) → record_now s a.dir a.changes id ≡ Some r → (i : ℕ) → leaf_now s a id i ≡ pointer_now s a.changes id r i
leaf_is s a id r is i =
    let here = in_range (nat_lt id 65536) (unwrap_or (object_in a.changes id) (record_of s a.dir id)) r is in
    ap (λ (x : Option ObjRec). unwrap_or (change_in a.changes id i) (leaf_in s x i)) here

module _ (s n : Stored) (g h : Changes) (id : ℕ) (same : (i : ℕ) → change_in h id i ≡ change_in g id i) where
  pub pointers_same : (r : ObjRec) → Agree s n (tree_blocks s r.tree) → (i : ℕ) → pointer_now n h id r i ≡ pointer_now s g id r i
  pointers_same r agree i =
      ap (λ (c : Option Ptr). unwrap_or c (tree_at n r.tree i)) (same i)
      ∙ ap (λ (p : Ptr). unwrap_or (change_in g id i) p) ((keeps s n r.tree (λ b met. agree.same b met)).leaves i)

  pub tree_agrees : (r : ObjRec) (bs : List Bptr) → Agree s n bs → AreObjectBlocks s g id r bs → Agree s n (tree_blocks s r.tree)
  tree_agrees r bs agree is = agree_back s n (map leaf_of is.leaves) (tree_blocks s r.tree) (subst (λ (xs : List Bptr). Agree s n xs) is.all agree)

  pub object_blocks_same : (r : ObjRec) (bs : List Bptr) → Agree s n bs → AreObjectBlocks s g id r bs → AreObjectBlocks n h id r bs
  object_blocks_same r bs agree is =
      let tree = tree_agrees r bs agree is in
      record {
        leaves = is.leaves;
        are_leaves = record { rising = is.are_leaves.rising; each = λ i. is.are_leaves.each i ∙ ap block_in (sym (pointers_same r tree i)) };
        all = is.all ∙ ap (λ (xs : List Bptr). map leaf_of is.leaves ++ xs) (sym ((keeps s n r.tree (λ b met. tree.same b met)).same_blocks));
      }

  pub blocks_same : (x : Option ObjRec) (bs : List Bptr) → Agree s n bs → AreBlocksNow s g id x bs → AreBlocksNow n h id x bs
  blocks_same None bs agree is = (is.0, λ i. same i ∙ is.1 i)
  blocks_same (Some r) bs agree is = object_blocks_same r bs agree is

  pub leaf_bytes : (r : ObjRec) (bs : List Bptr) → Agree s n bs → AreObjectBlocks s g id r bs → (i : ℕ) (x : Bptr) → pointer_now s g id r i ≡ At x → n.bytes x ≡ s.bytes x
  leaf_bytes r bs agree is i x at =
      let all = subst (λ (xs : List Bptr). Agree s n xs) is.all agree in
      let leaves = agree_front s n (map leaf_of is.leaves) (tree_blocks s r.tree) all in
      leaves.same x (listed i x is.leaves (is.are_leaves.each i ∙ ap block_in at))

-- ---- an object of the account

module _ (s n : Stored) (a b : Account) (id : ℕ) (same : (i : ℕ) → change_in b.changes id i ≡ change_in a.changes id i) where
  here_same : (r : ObjRec) (bs : List Bptr) (o : Object) → record_now s a.dir a.changes id ≡ Some r → record_now n b.dir b.changes id ≡ Some r
      → Agree s n bs → AreObjectBlocks s a.changes id r bs → IsObjectNow s a id r o → IsObjectNow n b id r o
  here_same r bs o before after agree blocks is =
      let tree = tree_agrees s n a.changes b.changes id same r bs agree blocks in
      same_object s n a b id r r refl
      (λ i. leaf_is n b id r after i ∙ pointers_same s n a.changes b.changes id same r tree i ∙ sym (leaf_is s a id r before i))
      (λ i x at. leaf_bytes s n a.changes b.changes id same r bs agree blocks i x (sym (leaf_is s a id r before i) ∙ at))
      o is

  pub object_stays : (x : Option ObjRec) (bs : List Bptr) (found : Option Object) → record_now s a.dir a.changes id ≡ x → record_now n b.dir b.changes id ≡ x
      → Agree s n bs → AreBlocksNow s a.changes id x bs → IsObjectAt s a id x found → IsObjectAt n b id x found
  object_stays None bs found before after agree blocks is = is
  object_stays (Some r) bs None before after agree blocks is = is
  object_stays (Some r) bs (Some o) before after agree blocks is = here_same r bs o before after agree blocks is
