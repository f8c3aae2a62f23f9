-- The blocks that an edit touches, and the errors of reading them.
use Rattle.std.proofs.Common.{◌≡◌, ◌∙◌, ◌+◌, ◌-◌, ◌*◌, ◌/◌, ◌<◌, ◌≤◌, inl, inr, ℕ, List, [], ◌∷◌, ◌++◌, length, map, Result, Err, sym, ap, subst, arith}
use Rattle.std.specs.Prelude.{IsErrOf, IfErr}
use Rattle.std.specs.List.{range_with_len}
use Rattle.std.proofs.Math.Nat.{lt-mul-div-succ, mul-div-le, mul-le-mul_left}
use Rattle.std.proofs.lemmas.List.{map-append, length-map}
use Rattle.std.proofs.lemmas.List.FromFn.{length-range_with_len}
use Rattle.std.proofs.lemmas.List.Sums.{sum_by-cons}
use Rattle.zr_base.specs.declared.space.Dva.{Dva}
use Rattle.zr_bptr.specs.declared.Bptr.{Bptr}
use Rattle.zr_bptr.specs.declared.Ptr.{Ptr}
use Rattle.zr_bptr.specs.declared.Ptr.TheVariants.{Hole, At}
use Rattle.zr_bptr.specs.declared.ObjRec.{ObjRec}
use Rattle.zr_store.specs.declared.StoreErr.{StoreErr}
use Rattle.zr_store.specs.declared.StoreErr.TheVariants.{NoMemory, Malformed, Damaged, Unresolved}
use Rattle.zr_store.specs.Store.{Stored, AreStored}
use Rattle.zr_tree.specs.Blocks.{FitsAt}
use Rattle.zr_tree.specs.Trees.{own, tree_blocks, TellsOf, HasBadBlock, HasDamagedBlock}
use Rattle.zr_objset.specs.Errors.{HasBadLeaf, TellsOfLeaves}
use Rattle.zr_lookup.specs.Objects.{IsTouched}
use Rattle.zr_lookup.specs.Errors.{IsOtherBlock, TellsOfObject}
use Rattle.zr_change.specs.declared.plans.Planned.{Planned}
use Rattle.zr_change.specs.declared.ranges.Edit.{Edit}
use Rattle.zr_change.specs.Edits.{IsCovered, IsPart}
use Rattle.zr_change.proofs.Indices.{range_up}
use Rattle.zr_change.proofs.Putting.{err_same}

-- ---- indices

-- each block from the first to the last is touched
pub touched_at : (units off len index : ℕ) → 0 < units → 0 < len → off / (4096 * units) ≤ index → index < (off + len - 1) / (4096 * units) + 1 → IsTouched units off len index
touched_at units off len index some more low high =
    let size = 4096 * units in
    let positive : 0 < size = omega (arith, some) in
    let over = lt-mul-div-succ off positive in
    let up : size * (off / size + 1) ≤ size * (index + 1) = mul-le-mul_left size (omega (arith, low)) in
    let under = mul-div-le (off + len - 1) size in
    let down : size * index ≤ size * ((off + len - 1) / size) = mul-le-mul_left size (omega (arith, high)) in
    record { begins = omega (arith, over, up); ends = omega (arith, under, down, more) }

-- the next index
pub indices_more : (plan new : List Planned) (p : Planned) (first index : ℕ) → first ≤ index → new ≡ plan ++ p ∷ [] → p.index ≡ index → map (λ q. q.index) plan ≡ range_with_len first (index - first) → map (λ q. q.index) new ≡ range_with_len first (index + 1 - first)
indices_more plan new p first index le pushed at so_far =
    let key : Planned → ℕ = λ q. q.index in
    ap (map key) pushed ∙ map-append key plan (p ∷ []) ∙ ap (λ (ks : List ℕ). ks ++ p.index ∷ []) so_far ∙ ap (λ (k : ℕ). range_with_len first (index - first) ++ k ∷ []) at ∙ sym (range_up first index le)

-- ---- errors

-- an error of the way to a block
pub object_of_tree : {T : Type 0} (s : Stored) (at : ℕ → Ptr) (r : ObjRec) (Needed : ℕ → Type 0) (result : Result T StoreErr) → TellsOf s (tree_blocks s r.tree) result → TellsOfObject s at r Needed result
object_of_tree s at r Needed result h = record {
  malformed = λ a expected is. inl (h.malformed a expected is);
  damaged = λ a expected found is. inl (h.damaged a expected found is);
  resolved = λ a expected is stored needed. h.resolved a expected is stored;
}

-- a leaf is no tree block
no_block : (s : Stored) (p : Ptr) (a : Dva) (expected : List ℕ) → FitsAt 0 p → HasBadBlock s (own p) a expected → ⊥
no_block s Hole a expected fits b = let w = b.among (λ (x : Bptr). 1) in omega (arith, w)
no_block s (At q) a expected fits b =
    let level : Bptr → ℕ = λ x. x.level in
    let w = b.among level in
    let tall = b.tall in
    let leaf : q.level ≡ 0 = fits.0 in
    omega (arith, w, tall, leaf, sum_by-cons level q [])

-- an error of reading a block that the edit does not cover
module _ {T : Type 0} (s : Stored) (at : ℕ → Ptr) (r : ObjRec) (e : Edit) (p : Ptr) (index : ℕ) (result : Result T StoreErr) (is_at : p ≡ at index) (fits : FitsAt 0 p) (touched : IsTouched r.units e.off e.len index)
    (unread : IsCovered r.units e index → IfErr result (λ x. x ≡ NoMemory)) (h : TellsOfLeaves s (own p) (own p) (IsOtherBlock s r.units) result) where
  part_of : (x : StoreErr) → IsErrOf result x → ¬ (x ≡ NoMemory) → IsPart r.units e index
  part_of x is other = record {
    touched_at = touched;
    part = λ covered. other (subst (λ (o : Result T StoreErr). IfErr o (λ y. y ≡ NoMemory)) is (unread covered));
  }

  pub object_of_block : TellsOfObject s at r (IsPart r.units e) result
  object_of_block = record {
    malformed = λ a expected is. elim (h.malformed a expected is) [
      | inl b ↦ absurd (no_block s p a expected fits b)
      | inr b ↦ inr (index, part_of (Malformed a expected) is (λ same. absurd cc), subst (λ (q : Ptr). HasBadLeaf (IsOtherBlock s r.units) (own q) a expected) is_at b)
    ];
    damaged = λ a expected found is. inr (index, part_of (Damaged a expected found) is (λ same. absurd cc), subst (λ (q : Ptr). HasDamagedBlock s (own q) a expected found) is_at (h.damaged a expected found is));
    resolved = λ a expected is stored needed.
        h.resolved a expected is (subst (λ (q : Ptr). AreStored (own q) s) (sym is_at) (needed index (part_of (Unresolved a expected) is (λ same. absurd cc))));
  }

-- the error that a `?` hands on
pub object_from : {T U : Type 0} (s : Stored) (at : ℕ → Ptr) (r : ObjRec) (Needed : ℕ → Type 0) (result : Result U StoreErr) (e : StoreErr) → (y : StoreErr) × (result ≡ Err y) × (y ≡ e) → TellsOfObject {T = T} s at r Needed (Err e) → TellsOfObject s at r Needed result
object_from {T} {U} s at r Needed result e given h = record {
  malformed = λ a expected is. h.malformed a expected (err_same result e given is);
  damaged = λ a expected found is. h.damaged a expected found (err_same result e given is);
  resolved = λ a expected is. h.resolved a expected (err_same result e given is);
}

-- as many blocks as indices
pub count_of : (plan : List Planned) (first n : ℕ) → map (λ q. q.index) plan ≡ range_with_len first n → length plan ≡ n
count_of plan first n row =
    let key : Planned → ℕ = λ q. q.index in
    sym (length-map plan key) ∙ ap (λ (ks : List ℕ). length ks) row ∙ length-range_with_len first n
