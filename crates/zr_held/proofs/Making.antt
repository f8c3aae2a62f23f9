-- A new object, which has no blocks.
use Rattle.std.proofs.Common.{◌≡◌, ◌∙◌, ◌<◌, ◌+◌, ◌*◌, ℕ, [], Bool, true, false, Option, Some, None, refl, sym, ap, subst, arith, nat_lt, lt-ltb}
use Rattle.std.specs.Prelude.{unwrap_or, if◌then◌else◌}
use Rattle.std.specs.List.{sum_by}
use Rattle.std.specs.FinMap as fin
use Rattle.std.specs.FinSet as set
use Rattle.std.specs.Ordering.{nat_cmp}
use Rattle.std.proofs.lemmas.Bool.{eq-eqb, ne_eqb}
use Rattle.zr_bptr.specs.declared.Ptr.{Ptr}
use Rattle.zr_bptr.specs.declared.Ptr.TheVariants.{Hole}
use Rattle.zr_bptr.specs.declared.ObjRec.{ObjRec}
use Rattle.zr_store.specs.Store.{Stored}
use Rattle.zr_tree.specs.Trees.{tree_at}
use Rattle.zr_objset.specs.Records.{bytes_of, record_of}
use Rattle.zr_txg.specs.Changes.{object_in, change_in}
use Rattle.zr_lookup.specs.Objects.{record_now, pointer_now, block_in, AreObjectBlocks}
use Rattle.zr_change.specs.Changes.{SetsObject}
use Rattle.zr_model.specs.Objects as model
use Rattle.zr_model.specs.Objects.{Object, Objects}
use Rattle.zr_image.specs.StateOf.{IsLost}
use Rattle.zr_moves.specs.Account.{Account, leaf_now, IsObjectNow, IsObjectAt}
use Rattle.zr_moves.specs.Changes.{new_record}
use Rattle.zr_held.specs.Held.{AreBlocksNow, HasObjects}
use Rattle.zr_held.specs.Steps.{IsOtherGroup, ChangesBlocks}
use Rattle.zr_held.proofs.Frames.{leaf_is}
use Rattle.zr_held.proofs.One.{objects_then, same_swaps}
use Rattle.zr_held.proofs.Bytes.{given_here, given_there, zeros_are, no_byte}

-- what was set of one object is nothing to the others
pub group_of : (id : ℕ) (x : Option ObjRec) (a b : Account) → b.dir ≡ a.dir → SetsObject id x a.changes b.changes → IsOtherGroup id a b
group_of id x a b dir sets = record {
  dir = dir;
  records = λ other apart. sets.object other ∙ rw (ne_eqb id other apart) refl;
  blocks = λ other apart i. sets.blocks other i ∙ rw (ne_eqb id other apart) refl;
}

-- the record that was set is the one that is found
pub record_set : (s : Stored) (id : ℕ) (x : Option ObjRec) (a b : Account) → id < 65536 → SetsObject id x a.changes b.changes → record_now s b.dir b.changes id ≡ x
record_set s id x a b low sets =
    let set : object_in b.changes id ≡ Some x = sets.object id ∙ rw (eq-eqb id id refl) refl in
    rw (lt-ltb id 65536 low) (ap (λ (y : Option (Option ObjRec)). unwrap_or y (record_of s b.dir id)) set)

module _ (s : Stored) (a b : Account) (objects : Objects) (id units : ℕ) (low : id < 65536) (dir : b.dir ≡ a.dir)
    (none : record_now s a.dir a.changes id ≡ None) (sets : SetsObject id (Some (new_record units)) a.changes b.changes) (has : HasObjects s a objects) where
  had : AreBlocksNow s a.changes id None (has.blocks.blocks id)
  had = subst (λ (x : Option ObjRec). AreBlocksNow s a.changes id x (has.blocks.blocks id)) none (has.blocks.each id)

  no_change : (i : ℕ) → change_in b.changes id i ≡ None
  no_change i = sets.blocks id i ∙ rw (eq-eqb id id refl) (had.1 i)

  no_leaf : (y : Bool) → (if y then Hole else Hole) ≡ Hole
  no_leaf true = refl
  no_leaf false = refl

  hole_at : (i : ℕ) → pointer_now s b.changes id (new_record units) i ≡ Hole
  hole_at i = ap (λ (c : Option Ptr). unwrap_or c (tree_at s (new_record units).tree i)) (no_change i) ∙ no_leaf (nat_lt i 1)

  found : record_now s b.dir b.changes id ≡ Some (new_record units)
  found = record_set s id (Some (new_record units)) a b low sets

  hole_now : (i : ℕ) → leaf_now s b id i ≡ Hole
  hole_now i = leaf_is s b id (new_record units) found i ∙ hole_at i

  blocks_now : AreObjectBlocks s b.changes id (new_record units) []
  blocks_now = record { leaves = []; are_leaves = record { rising = tt; each = λ i. sym (ap block_in (hole_at i)) }; all = refl }

  is_blank : IsObjectNow s b id (new_record units) (model.blank units)
  is_blank = record {
    units = refl;
    lost_are = λ i. (λ among. absurd (let e = sym (set.contains-empty nat_cmp i) ∙ among in cc), λ lost. absurd (subst (λ (p : Ptr). IsLost s p) (hole_now i) lost));
    blocks = λ i there. zeros_are fin.empty (4096 * units * i) (4096 * units) (λ k lt. no_byte (4096 * units * i + k)) ∙ sym (ap (λ (p : Ptr). bytes_of s units p) (hole_now i));
    lost = λ i lost. absurd (subst (λ (p : Ptr). IsLost s p) (hole_now i) lost);
    nonzero = λ at e. absurd (let n = sym (fin.get-empty nat_cmp at) ∙ e in cc);
  }

  changes_none : ChangesBlocks s s b id (has.blocks.blocks id) [] [] []
  changes_none = record {
    swaps = same_swaps s;
    among = λ weight. omega arith;
    balance = λ weight. let e = ap (sum_by weight) had.0 in omega (arith, e);
    now = subst (λ (x : Option ObjRec). AreBlocksNow s b.changes id x []) (sym found) blocks_now;
    once = has.blocks.once;
  }

  pub made : HasObjects s b (fin.insert objects id (model.blank units))
  made = objects_then s s a b id [] [] [] low has.blocks (group_of id (Some (new_record units)) a b dir sets) changes_none objects (fin.insert objects id (model.blank units)) has.each
      (λ i apart. given_there objects id i (model.blank units) (λ e. apart (sym e)))
      (subst (λ (x : Option ObjRec). IsObjectAt s b id x (fin.get (fin.insert objects id (model.blank units)) id)) (sym found)
      (subst (λ (o : Option Object). IsObjectAt s b id (Some (new_record units)) o) (sym (given_here objects id (model.blank units))) is_blank))
