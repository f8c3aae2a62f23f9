-- What an error of a store tells of, where a line is refused for it.
use Rattle.std.proofs.Common.{◌≡◌, inl, inr, ℕ, ◌/◌, List, Some, Err, refl}
use Rattle.zr_base.specs.declared.space.Dva.{Dva}
use Rattle.zr_base.specs.declared.refusal.Refusal.TheVariants as refusal
use Rattle.zr_bptr.specs.declared.ObjRec.{ObjRec}
use Rattle.zr_bptr.specs.declared.Tree.{Tree}
use Rattle.zr_lines.specs.Damage.{IsDamageOf, IsRecordDamage, in_tree, in_block, no_block, not_stored}
use Rattle.zr_lookup.specs.Errors.{TellsOfObject}
use Rattle.zr_lookup.specs.Objects.{record_now, pointer_now}
use Rattle.zr_objset.specs.Errors.{IsNoLeaf, TellsOfLeaves}
use Rattle.zr_store.specs.Store.{Stored}
use Rattle.zr_store.specs.declared.StoreErr.{StoreErr}
use Rattle.zr_store.specs.declared.StoreErr.TheVariants as store
use Rattle.zr_sync.specs.Stops.{fault_of}
use Rattle.zr_sync.specs.declared.fault.Fault.{Fault}
use Rattle.zr_sync.specs.declared.fault.Fault.TheVariants.{No}
use Rattle.zr_tree.specs.Trees.{own, tree_at, tree_blocks, tree_reach, TellsOf}
use Rattle.zr_txg.specs.Changes.{Changes}

-- while the record is sought
pub of_directory : {T : Type 0} (s : Stored) (dir : Tree) (id : ℕ) (a : Dva) (x f : List ℕ) (e : StoreErr) (told : Fault)
    → TellsOfLeaves {T = T} s (tree_reach s dir) (own (tree_at s dir (id / 16))) (IsNoLeaf s) (Err e) → told ≡ fault_of e → told ≡ No (refusal.Damaged a x f) → IsRecordDamage s dir id a x f
of_directory s dir id a x f (store.Damaged at expected found) told tells is refused =
    let same_a : a ≡ at = cc in
    let same_x : x ≡ expected = cc in
    let same_f : f ≡ found = cc in
    inl (inl (rw (same_a, same_x, same_f) (tells.damaged at expected found refl)))
of_directory s dir id a x f (store.Malformed at expected) told tells is refused =
    let same_a : a ≡ at = cc in
    let same_x : x ≡ expected = cc in
    let same_f : f ≡ x = cc in
    elim (tells.malformed at expected refl) [ inl bad ↦ inl (inr (same_f, inl (rw (same_a, same_x) bad))) | inr leaf ↦ inr (same_f, rw (same_a, same_x) leaf) ]
of_directory s dir id a x f (store.Unresolved at expected) told tells is refused =
    let same_f : f ≡ x = cc in
    inl (inr (same_f, inr (tells.resolved at expected refl)))
of_directory s dir id a x f store.Failed told tells is refused = absurd cc
of_directory s dir id a x f (store.NoRun needed longest) told tells is refused = absurd cc
of_directory s dir id a x f store.NoMemory told tells is refused = absurd cc

module _ (s : Stored) (dir : Tree) (g : Changes) (id : ℕ) (Needs : ObjRec → ℕ → Type 0) (a : Dva) (x f : List ℕ) where
  -- while the blocks of an object are listed
  pub of_tree : {T : Type 0} (r : ObjRec) (e : StoreErr) (told : Fault) → record_now s dir g id ≡ Some r → TellsOf {T = T} s (tree_blocks s r.tree) (Err e) → told ≡ fault_of e
      → told ≡ No (refusal.Damaged a x f) → IsDamageOf s dir g id Needs a x f
  of_tree r (store.Damaged at expected found) told there tells is refused =
      let same_a : a ≡ at = cc in
      let same_x : x ≡ expected = cc in
      let same_f : f ≡ found = cc in
      in_tree r there (inl (rw (same_a, same_x, same_f) (tells.damaged at expected found refl)))
  of_tree r (store.Malformed at expected) told there tells is refused =
      let same_a : a ≡ at = cc in
      let same_x : x ≡ expected = cc in
      let same_f : f ≡ x = cc in
      in_tree r there (inr (same_f, inl (rw (same_a, same_x) (tells.malformed at expected refl))))
  of_tree r (store.Unresolved at expected) told there tells is refused =
      let same_f : f ≡ x = cc in
      in_tree r there (inr (same_f, inr (tells.resolved at expected refl)))
  of_tree r store.Failed told there tells is refused = absurd cc
  of_tree r (store.NoRun needed longest) told there tells is refused = absurd cc
  of_tree r store.NoMemory told there tells is refused = absurd cc

  -- while its blocks are read
  pub of_object : {T : Type 0} (r : ObjRec) (e : StoreErr) (told : Fault) → record_now s dir g id ≡ Some r → TellsOfObject {T = T} s (pointer_now s g id r) r (Needs r) (Err e) → told ≡ fault_of e
      → told ≡ No (refusal.Damaged a x f) → IsDamageOf s dir g id Needs a x f
  of_object r (store.Damaged at expected found) told there tells is refused =
      let same_a : a ≡ at = cc in
      let same_x : x ≡ expected = cc in
      let same_f : f ≡ found = cc in
      elim (tells.damaged at expected found refl) [ inl tree ↦ in_tree r there (inl (rw (same_a, same_x, same_f) tree)) | inr leaf ↦ in_block r leaf.0 there leaf.1 (rw (same_a, same_x, same_f) leaf.2) ]
  of_object r (store.Malformed at expected) told there tells is refused =
      let same_a : a ≡ at = cc in
      let same_x : x ≡ expected = cc in
      let same_f : f ≡ x = cc in
      elim (tells.malformed at expected refl) [ inl tree ↦ in_tree r there (inr (same_f, inl (rw (same_a, same_x) tree))) | inr leaf ↦ no_block r leaf.0 there leaf.1 same_f (rw (same_a, same_x) leaf.2) ]
  of_object r (store.Unresolved at expected) told there tells is refused =
      let same_f : f ≡ x = cc in
      not_stored r there same_f (tells.resolved at expected refl)
  of_object r store.Failed told there tells is refused = absurd cc
  of_object r (store.NoRun needed longest) told there tells is refused = absurd cc
  of_object r store.NoMemory told there tells is refused = absurd cc
