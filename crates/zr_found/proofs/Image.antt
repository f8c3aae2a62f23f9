-- The objects that a store holds, in an image where its pointers read the same.
use Rattle.std.proofs.Common.{◌≡◌, ◌<◌, ◌≤◌, ℕ, [], ◌++◌, Option, Some, None, lt-ltb, le-ltb, refl, sym, ◌∙◌, ap, subst, arith, ⊎_elim}
use Rattle.std.specs.FinMap as fin
use Rattle.std.proofs.lemmas.Bool.{cases_lt}
use Rattle.zr_bptr.specs.declared.Ptr.{Ptr}
use Rattle.zr_bptr.specs.declared.ObjRec.{ObjRec}
use Rattle.zr_store.specs.Store.{Stored, one_at}
use Rattle.zr_tree.specs.Trees.{tree_at, tree_reach}
use Rattle.zr_tree.proofs.Frames.{Agree, agree_front, agree_back}
use Rattle.zr_objset.specs.Records.{record_of, bytes_of}
use Rattle.zr_objset.proofs.Keeping.{same_record}
use Rattle.zr_lookup.specs.Objects.{record_now}
use Rattle.zr_model.specs.Objects.{Object, Objects}
use Rattle.zr_image.specs.StateOf.{IsLost, IsObject, IsObjectOf, AreObjects}
use Rattle.zr_moves.specs.Account.{Account, leaf_now, IsObjectNow, IsObjectAt}
use Rattle.zr_held.specs.Held.{HasObjects}
use Rattle.zr_held.proofs.Frames.{leaf_is, object_stays}
use Rattle.zr_held.proofs.One.{object_stored}
use Rattle.zr_held.proofs.Same.{record_same}
use Rattle.zr_found.specs.Found.{ReadsAlike}
use Rattle.zr_found.proofs.Blocks.{record_is, pointer_is}

module _ (image s : Stored) (a : Account) (objects : Objects) (none : a.changes.objects ≡ []) (alike : ReadsAlike image s) (has : HasObjects s a objects) where
  agree : (id : ℕ) → Agree s image (tree_reach s a.dir ++ has.blocks.blocks id)
  agree id = record { same = λ b met. alike b (let all = object_stored s a.dir a.changes has.blocks id (one_at b.at) in omega (arith, all, met)) }

  dir_agrees : Agree s image (tree_reach s a.dir)
  dir_agrees = agree_front s image (tree_reach s a.dir) (has.blocks.blocks 0) (agree 0)

  own_agrees : (id : ℕ) → Agree s image (has.blocks.blocks id)
  own_agrees id = agree_back s image (tree_reach s a.dir) (has.blocks.blocks id) (agree id)

  -- ---- the records

  record_stays : (id : ℕ) → record_now image a.dir a.changes id ≡ record_now s a.dir a.changes id
  record_stays id = record_same s image a.dir a.changes id dir_agrees

  low_record : (id : ℕ) → id < 65536 → record_now image a.dir a.changes id ≡ record_of image a.dir id
  low_record id lt = record_is a.changes none image a.dir id ∙ rw (lt-ltb id 65536 lt) refl

  high_record : (id : ℕ) → 65536 ≤ id → record_now image a.dir a.changes id ≡ record_of image a.dir id
  high_record id le = record_is a.changes none image a.dir id ∙ rw (le-ltb id 65536 le) (sym (same_record s image a.dir id dir_agrees ∙ has.blocks.past id le))

  -- ---- one object

  there : (id : ℕ) → IsObjectAt image a id (record_now image a.dir a.changes id) (fin.get objects id)
  there id =
      subst (λ (x : Option ObjRec). IsObjectAt image a id x (fin.get objects id)) (sym (record_stays id))
      (object_stays s image a a id (λ i. refl) (record_now s a.dir a.changes id) (has.blocks.blocks id) (fin.get objects id) refl (record_stays id) (own_agrees id) (has.blocks.each id) (has.each id))

  module _ (id : ℕ) (r : ObjRec) (is : record_now image a.dir a.changes id ≡ Some r) where
    leaf : (i : ℕ) → leaf_now image a id i ≡ tree_at image r.tree i
    leaf i = leaf_is image a id r is i ∙ pointer_is a.changes none image id r i

    -- with an empty group the object that there is now is the directory's
    in_directory : (o : Object) → IsObjectNow image a id r o → IsObject image r o
    in_directory o now = record {
      units = now.units;
      lost_are = λ i. (
        λ among. subst (IsLost image) (leaf i) ((now.lost_are i).0 among),
        λ lost. (now.lost_are i).1 (subst (IsLost image) (sym (leaf i)) lost),
      );
      blocks = λ i right. now.blocks i (λ lost. right (subst (IsLost image) (leaf i) lost)) ∙ ap (λ (p : Ptr). bytes_of image r.units p) (leaf i);
      lost = λ i lost. now.lost i (subst (IsLost image) (sym (leaf i)) lost);
      nonzero = now.nonzero;
    }

  found_by : (id : ℕ) (x : Option ObjRec) → record_now image a.dir a.changes id ≡ x → (o : Option Object) → IsObjectAt image a id x o → IsObjectOf image x o
  found_by id None is o at = at
  found_by id (Some r) is None at = at
  found_by id (Some r) is (Some o) at = in_directory id r is o at

  -- ---- all objects

  pub held_are_found : AreObjects image a.dir objects
  held_are_found id =
      let now = found_by id (record_now image a.dir a.changes id) refl (fin.get objects id) (there id) in
      ⊎_elim
      (λ (lt : id < 65536). subst (λ (x : Option ObjRec). IsObjectOf image x (fin.get objects id)) (low_record id lt) now)
      (λ (le : 65536 ≤ id). subst (λ (x : Option ObjRec). IsObjectOf image x (fin.get objects id)) (high_record id le) now)
      (cases_lt id 65536)
