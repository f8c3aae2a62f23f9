-- Errors that tell of an object's blocks.
use Rattle.std.proofs.Common.{◌≡◌, ◌∙◌, [], inl, inr, ℕ, List, Result, Err, sym, ap, subst, arith}
use Rattle.zr_base.specs.declared.space.Dva.{Dva}
use Rattle.zr_bptr.specs.declared.Bptr.{Bptr}
use Rattle.zr_bptr.specs.declared.Ptr.{Ptr}
use Rattle.zr_bptr.specs.declared.Ptr.TheVariants.{Hole, At}
use Rattle.zr_tree.specs.Blocks.{FitsAt}
use Rattle.std.proofs.lemmas.List.Sums.{sum_by-cons}
use Rattle.zr_bptr.specs.declared.ObjRec.{ObjRec}
use Rattle.zr_store.specs.Store.{Stored, AreStored}
use Rattle.zr_store.specs.declared.StoreErr.{StoreErr}
use Rattle.zr_store.specs.declared.StoreErr.TheVariants.{Malformed, Damaged, Unresolved}
use Rattle.zr_store.proofs.Causes.{again}
use Rattle.zr_tree.specs.Trees.{own, tree_blocks, TellsOf, HasBadBlock, HasDamagedBlock}
use Rattle.zr_objset.specs.Errors.{TellsOfLeaves, HasBadLeaf}
use Rattle.zr_lookup.specs.Errors.{IsOtherBlock, TellsOfObject}

-- an error of reading the tree
pub of_tree : {T : Type 0} (s : Stored) (at : ℕ → Ptr) (r : ObjRec) (IsNeeded : ℕ → Type 0) (result : Result T StoreErr) → TellsOf s (tree_blocks s r.tree) result → TellsOfObject s at r IsNeeded result
of_tree s at r IsNeeded result h = record {
  malformed = λ a expected is. inl (h.malformed a expected is);
  damaged = λ a expected found is. inl (h.damaged a expected found is);
  resolved = λ a expected is tree leaves. h.resolved a expected is tree;
}

no_block : (s : Stored) (p : Ptr) (a : Dva) (expected : List ℕ) → FitsAt 0 p → HasBadBlock s (own p) a expected → ⊥
no_block s Hole a expected fits bad = let w = bad.among (λ y. 1) in omega (arith, w)
no_block s (At x) a expected fits bad = let w = bad.among (λ y. y.level) in let l = fits.0 in let t = bad.tall in omega (arith, w, l, t, sum_by-cons (λ (y : Bptr). y.level) x [])

-- an error of reading a block that is needed
pub of_block : {T : Type 0} (s : Stored) (at : ℕ → Ptr) (r : ObjRec) (IsNeeded : ℕ → Type 0) (index : ℕ) (p : Ptr) (result : Result T StoreErr) → p ≡ at index → IsNeeded index → FitsAt 0 p → TellsOfLeaves s (own p) (own p) (IsOtherBlock s r.units) result → TellsOfObject s at r IsNeeded result
of_block s at r IsNeeded index p result leads needed fits h = record {
  malformed = λ a expected is. elim (h.malformed a expected is) [
    | inl bad ↦ absurd (no_block s p a expected fits bad)
    | inr leaf ↦ inr (index, needed, subst (λ (q : Ptr). HasBadLeaf (IsOtherBlock s r.units) (own q) a expected) leads leaf)
  ];
  damaged = λ a expected found is. inr (index, needed, subst (λ (q : Ptr). HasDamagedBlock s (own q) a expected found) leads (h.damaged a expected found is));
  resolved = λ a expected is tree leaves. h.resolved a expected is (subst (λ (q : Ptr). AreStored (own q) s) (sym leads) (leaves index needed));
}

-- what is needed for less is needed for more
pub needed_more : {T : Type 0} (s : Stored) (at : ℕ → Ptr) (r : ObjRec) (Less More : ℕ → Type 0) (result : Result T StoreErr) → ((index : ℕ) → Less index → More index) → TellsOfObject s at r Less result → TellsOfObject s at r More result
needed_more s at r Less More result more h = record {
  malformed = λ a expected is. elim (h.malformed a expected is) [
    | inl bad ↦ inl bad
    | inr w ↦ inr (w.0, more w.0 w.1, w.2)
  ];
  damaged = λ a expected found is. elim (h.damaged a expected found is) [
    | inl bad ↦ inl bad
    | inr w ↦ inr (w.0, more w.0 w.1, w.2)
  ];
  resolved = λ a expected is tree leaves. h.resolved a expected is tree (λ index needed. leaves index (more index needed));
}

object_again : {T U : Type 0} (s : Stored) (at : ℕ → Ptr) (r : ObjRec) (IsNeeded : ℕ → Type 0) (e : StoreErr) → TellsOfObject {T = T} s at r IsNeeded (Err e) → TellsOfObject {T = U} s at r IsNeeded (Err e)
object_again s at r IsNeeded e h = record {
  malformed = λ a expected is. h.malformed a expected (again e (Malformed a expected) is);
  damaged = λ a expected found is. h.damaged a expected found (again e (Damaged a expected found) is);
  resolved = λ a expected is. h.resolved a expected (again e (Unresolved a expected) is);
}

-- the error that a `?` hands on
pub object_from : {T U : Type 0} (s : Stored) (at : ℕ → Ptr) (r : ObjRec) (IsNeeded : ℕ → Type 0) (result : Result U StoreErr) (e : StoreErr) → (y : StoreErr) × (result ≡ Err y) × (y ≡ e) → TellsOfObject {T = T} s at r IsNeeded (Err e) → TellsOfObject s at r IsNeeded result
object_from {T} {U} s at r IsNeeded result e given h =
    subst (λ (x : Result U StoreErr). TellsOfObject s at r IsNeeded x) (sym (given.1 ∙ ap (λ (y : StoreErr). Err y) given.2)) (object_again {T = T} {U = U} s at r IsNeeded e h)
