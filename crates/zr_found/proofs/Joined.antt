-- The objects of a directory in an image, and the store that has its blocks.
use Rattle.std.proofs.Common.{◌≡◌, ◌<◌, ◌≤◌, ◌*◌, ◌/◌, ◌%◌, ℕ, List, [], length, Option, Some, None, lt-ltb, le-ltb, refl, sym, ◌∙◌, ap, subst, arith, ⊎_elim}
use Rattle.std.specs.List.{sum_by, flat_map, All}
use Rattle.std.specs.FinMap as fin
use Rattle.std.proofs.lemmas.Bool.{cases_lt}
use Rattle.zr_bptr.specs.declared.Bptr.{Bptr}
use Rattle.zr_bptr.specs.declared.Ptr.{Ptr}
use Rattle.zr_bptr.specs.declared.Ptr.TheVariants.{Hole, At}
use Rattle.zr_bptr.specs.declared.ObjRec.{ObjRec}
use Rattle.zr_store.specs.Store.{Stored, AreStored, hits, one_at}
use Rattle.zr_tree.specs.Trees.{tree_at, tree_blocks, tree_reach, own}
use Rattle.zr_tree.proofs.Frames.{Agree, agree_front, first_of}
use Rattle.zr_objset.specs.Records.{record_in, record_of, bytes_of, leaf_reach, all_reach}
use Rattle.zr_objset.proofs.Keeping.{tree_same, same_objects}
use Rattle.zr_objset.proofs.Within.{leaf_within}
use Rattle.zr_lookup.specs.Objects.{record_now}
use Rattle.zr_model.specs.Objects.{Object, Objects}
use Rattle.zr_image.specs.StateOf.{IsLost, IsObject, IsObjectOf, AreObjects}
use Rattle.zr_image.proofs.Meaning.{object_same}
use Rattle.zr_moves.specs.Account.{Account, IsObjectNow, IsObjectAt}
use Rattle.zr_held.specs.Held.{HasAllBlocks}
use Rattle.zr_held.proofs.Frames.{leaf_is}
use Rattle.zr_import.specs.Directories.{IsInPlace}
use Rattle.zr_found.specs.Found.{HasReached, HoldsFound}
use Rattle.zr_found.proofs.Blocks.{record_is, pointer_is, all_blocks, object_weighs}
use Rattle.zr_found.proofs.Object.{object_of}
use Rattle.zr_found.proofs.Tables.{map_upto, upto_get, upto_past}

module _ (image s : Stored) (a : Account) (none : a.changes.objects ≡ []) (place : IsInPlace image a.dir) (h : HasReached image s a.dir) where
  level_there : (i : ℕ) (b : Bptr) → tree_at image a.dir i ≡ At b → b.level ≡ 0
  level_there i b is = (place.leaves i b is).1

  met_is : (b : Bptr) → 0 < hits (all_reach image a.dir) b.at → 0 < hits s.pointers b.at
  met_is b met = subst (λ (ps : List Bptr). 0 < hits ps b.at) (sym h.pointers) met

  agree : Agree image s (all_reach image a.dir)
  agree = record { same = λ b met. h.bytes b (met_is b met) }

  dir_agree : Agree image s (tree_reach image a.dir)
  dir_agree = agree_front image s (tree_reach image a.dir) (flat_map (leaf_reach image) (tree_reach image a.dir)) agree

  record_same : (id : ℕ) → record_of s a.dir id ≡ record_of image a.dir id
  record_same id = (same_objects image s a.dir agree).records id

  -- ---- blocks

  stored : AreStored (all_reach s a.dir) s
  stored weight =
      let reach = ap (sum_by weight) (same_objects image s a.dir agree).reach in
      let all = ap (sum_by weight) h.pointers in
      omega (arith, reach, all)

  no_others : (weight : Bptr → ℕ) → sum_by weight s.pointers ≤ sum_by weight (all_reach s a.dir)
  no_others weight =
      let reach = ap (sum_by weight) (same_objects image s a.dir agree).reach in
      let all = ap (sum_by weight) h.pointers in
      omega (arith, reach, all)

  above : All (λ b. 0 < b.level) (tree_blocks s a.dir)
  above = subst (All (λ b. 0 < b.level)) (sym (tree_same image s a.dir dir_agree).same_blocks) place.above

  level_here : (i : ℕ) (b : Bptr) → tree_at s a.dir i ≡ At b → b.level ≡ 0
  level_here i b is = level_there i b (sym ((tree_same image s a.dir dir_agree).leaves i) ∙ is)

  none_in : (p : Ptr) (k : ℕ) → ((b : Bptr) → p ≡ At b → ⊥) → record_in image p k ≡ None
  none_in Hole k not = refl
  none_in (At b) k not = absurd (not b refl)

  past_none : (id : ℕ) → 65536 ≤ id → record_of image a.dir id ≡ None
  past_none id le = none_in (tree_at image a.dir (id / 16)) (id % 16) (λ b is. let low = (place.leaves (id / 16) b is).0 in omega (arith, le, low))

  blocks : HasAllBlocks s a.dir a.changes
  blocks = all_blocks s a.dir a.changes none level_here above (λ id le. record_same id ∙ past_none id le) stored no_others h.once

  -- ---- one object

  module _ (id : ℕ) (r : ObjRec) (is : record_of image a.dir id ≡ Some r) where
    met_in : (b : Bptr) → 0 < hits (tree_reach image r.tree) b.at → 0 < hits (all_reach image a.dir) b.at
    met_in b met =
        let w = object_weighs image a.dir level_there (one_at b.at) id in
        let e = ap (λ (x : Option ObjRec). hits (reach_in x) b.at) is in
        omega (arith, w, e, met)
      where
        reach_in : Option ObjRec → List Bptr
        reach_in None = []
        reach_in (Some q) = tree_reach image q.tree

    met_leaf : (i : ℕ) (b : Bptr) → tree_at image r.tree i ≡ At b → 0 < hits (tree_reach image r.tree) b.at
    met_leaf i b at =
        let w = leaf_within image r.tree i (one_at b.at) in
        let e = ap (λ (p : Ptr). hits (own p) b.at) at in
        omega (arith, w, e, first_of b [])

    sized : (i : ℕ) (b : Bptr) → tree_at image r.tree i ≡ At b → length (image.bytes b) ≡ 4096 * r.units
    sized i b at =
        let met = met_is b (met_in b (met_leaf i b at)) in
        let long = h.sizes b met in
        let same = ap (λ (bs : List ℕ). length bs) (h.bytes b met) in
        let own_len = place.objects id r is i b at in
        omega (arith, long, same, own_len)

    with_proof : (o : Object) × IsObject image r o
    with_proof = object_of image r sized

    abbrev made : Object
    made = with_proof.0

    made_is : IsObject image r made
    made_is = with_proof.1

    -- the object that an image has is the one that the account has
    as_now : record_now s a.dir a.changes id ≡ Some r → (o : Object) → IsObject image r o → IsObjectNow s a id r o
    as_now now o of =
        let here = object_same image s r (λ b met. h.bytes b (met_is b (met_in b met))) o of in
        let leaf = λ (i : ℕ). leaf_is s a id r now i ∙ pointer_is a.changes none s id r i in
        record {
          units = here.units;
          lost_are = λ i. (
            λ among. subst (IsLost s) (sym (leaf i)) ((here.lost_are i).0 among),
            λ lost. (here.lost_are i).1 (subst (IsLost s) (leaf i) lost),
          );
          blocks = λ i there. here.blocks i (λ lost. there (subst (IsLost s) (sym (leaf i)) lost)) ∙ sym (ap (λ (p : Ptr). bytes_of s r.units p) (leaf i));
          lost = λ i lost. here.lost i (subst (IsLost s) (leaf i) lost);
          nonzero = here.nonzero;
        }

  -- ---- all objects

  found : (id : ℕ) (x : Option ObjRec) → record_of image a.dir id ≡ x → Option Object
  found id None is = None
  found id (Some r) is = Some (made id r is)

  abbrev found_at : ℕ → Option Object
  found_at id = found id (record_of image a.dir id) refl

  found_is : (id : ℕ) (x : Option ObjRec) (is : record_of image a.dir id ≡ x) → IsObjectOf image x (found id x is)
  unfolding found
  found_is id None is = refl
  found_is id (Some r) is = made_is id r is

  abbrev all_found : Objects
  all_found = map_upto found_at 65536

  are : AreObjects image a.dir all_found
  are id = ⊎_elim
      (λ (low : id < 65536). subst (IsObjectOf image (record_of image a.dir id)) (sym (upto_get found_at 65536 id low)) (found_is id (record_of image a.dir id) refl))
      (λ (high : 65536 ≤ id). subst (λ (x : Option ObjRec). IsObjectOf image x (fin.get all_found id)) (sym (past_none id high)) (upto_past found_at 65536 id high))
      (cases_lt id 65536)

  low_record : (id : ℕ) → id < 65536 → record_now s a.dir a.changes id ≡ record_of image a.dir id
  low_record id low = record_is a.changes none s a.dir id ∙ rw (lt-ltb id 65536 low) (record_same id)

  high_record : (id : ℕ) → 65536 ≤ id → record_now s a.dir a.changes id ≡ None
  high_record id high = record_is a.changes none s a.dir id ∙ rw (le-ltb id 65536 high) refl

  at_now : (id : ℕ) (x : Option ObjRec) → record_of image a.dir id ≡ x → record_now s a.dir a.changes id ≡ x → (o : Option Object) → IsObjectOf image x o → IsObjectAt s a id x o
  at_now id None is now o of = of
  at_now id (Some r) is now None of = of
  at_now id (Some r) is now (Some o) of = as_now id r is now o of

  each_now : (id : ℕ) → IsObjectAt s a id (record_now s a.dir a.changes id) (fin.get all_found id)
  each_now id = ⊎_elim
      (λ (low : id < 65536).
      subst (λ (x : Option ObjRec). IsObjectAt s a id x (fin.get all_found id)) (sym (low_record id low))
      (at_now id (record_of image a.dir id) refl (low_record id low) (fin.get all_found id) (are id)))
      (λ (high : 65536 ≤ id). subst (λ (x : Option ObjRec). IsObjectAt s a id x (fin.get all_found id)) (sym (high_record id high)) (upto_past found_at 65536 id high))
      (cases_lt id 65536)

  pub holds_found : HoldsFound image s a
  holds_found = record { objects = all_found; are = are; has = record { blocks = blocks; each = each_now } }
