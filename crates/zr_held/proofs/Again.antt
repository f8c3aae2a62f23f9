-- What was found of an object is found again where the same pointers are stored.
use Rattle.std.proofs.Common.{◌≡◌, ◌∙◌, ℕ, List, [], ◌++◌, length, get_or, Option, Some, refl, sym, ap, subst}
use Rattle.std.specs.List.{All}
use Rattle.sha2.specs.Sha256.{sha256}
use Rattle.zr_bptr.specs.declared.Bptr.{Bptr}
use Rattle.zr_bptr.specs.declared.Ptr.{Ptr}
use Rattle.zr_bptr.specs.declared.Ptr.TheVariants.{Hole, At}
use Rattle.zr_bptr.specs.declared.ObjRec.{ObjRec}
use Rattle.zr_store.specs.Store.{Stored, Swaps}
use Rattle.zr_tree.specs.Trees.{tree_reach}
use Rattle.zr_tree.proofs.Frames.{Agree, agree_front, agree_back}
use Rattle.zr_objset.specs.Records.{bytes_of}
use Rattle.zr_objset.proofs.Keeping.{beside}
use Rattle.zr_lookup.specs.Objects.{record_now, pointer_now, AreObjectBlocks}
use Rattle.zr_lookup.specs.Errors.{IsSoundPointer}
use Rattle.zr_change.specs.declared.plans.Planned.{Planned}
use Rattle.zr_change.specs.declared.ranges.Edit.{Edit}
use Rattle.zr_change.specs.Edits.{IsEdited}
use Rattle.zr_change.specs.Plans.{IsPlannedFor, bytes_of_new}
use Rattle.zr_model.specs.Objects.{Objects}
use Rattle.zr_moves.specs.Account.{Account}
use Rattle.zr_held.specs.Held.{AreBlocksNow, HasObjects}
use Rattle.zr_held.proofs.Frames.{pointers_same, tree_agrees, object_blocks_same, leaf_bytes}
use Rattle.zr_held.proofs.One.{object_stored}
use Rattle.zr_held.proofs.Same.{record_same}
use Rattle.zr_held.proofs.Dropping.{one_blocks}

module _ (s n : Stored) (a : Account) (objects : Objects) (id : ℕ) (r : ObjRec) (swap : Swaps s n [] []) (has : HasObjects s a objects) (found : record_now s a.dir a.changes id ≡ Some r) where
  all_agree : Agree s n (tree_reach s a.dir ++ has.blocks.blocks id)
  all_agree = beside s n [] [] (tree_reach s a.dir ++ has.blocks.blocks id) swap has.blocks.once (object_stored s a.dir a.changes has.blocks id)

  agrees : Agree s n (has.blocks.blocks id)
  agrees = agree_back s n (tree_reach s a.dir) (has.blocks.blocks id) all_agree

  mine : AreObjectBlocks s a.changes id r (has.blocks.blocks id)
  mine = subst (λ (x : Option ObjRec). AreBlocksNow s a.changes id x (has.blocks.blocks id)) found (has.blocks.each id)

  pub found_again : record_now n a.dir a.changes id ≡ Some r
  found_again = record_same s n a.dir a.changes id (agree_front s n (tree_reach s a.dir) (has.blocks.blocks id) all_agree) ∙ found

  pointer_again : (i : ℕ) → pointer_now n a.changes id r i ≡ pointer_now s a.changes id r i
  pointer_again i = pointers_same s n a.changes a.changes id (λ k. refl) r (tree_agrees s n a.changes a.changes id (λ k. refl) r (has.blocks.blocks id) agrees mine) i

  bytes_again : (i : ℕ) (p : Ptr) → pointer_now s a.changes id r i ≡ p → bytes_of n r.units p ≡ bytes_of s r.units p
  bytes_again i Hole at = refl
  bytes_again i (At x) at = leaf_bytes s n a.changes a.changes id (λ k. refl) r (has.blocks.blocks id) agrees mine i x at

  sound_again : (i : ℕ) (p : Ptr) → pointer_now s a.changes id r i ≡ p → IsSoundPointer s r.units p → IsSoundPointer n r.units p
  sound_again i Hole at sound = sound
  sound_again i (At x) at sound =
      let same = leaf_bytes s n a.changes a.changes id (λ k. refl) r (has.blocks.blocks id) agrees mine i x at in
      record { checksum = sound.checksum ∙ sym (ap sha256 same); len = sound.len; size = ap length same ∙ sound.size }

  planned_again : (e : Edit) (p : Planned) → IsPlannedFor s a.changes id r e p → IsPlannedFor n a.changes id r e p
  planned_again e p plan =
      let at = sym plan.old in
      record {
        old = plan.old ∙ sym (pointer_again p.index);
        bytes = subst (λ (bs : List ℕ). IsEdited e r.units p.index bs (bytes_of_new r.units p.new)) (sym (bytes_again p.index p.old at)) plan.bytes;
        sound = λ part. sound_again p.index p.old at (plan.sound part);
      }

  pub plan_again : (e : Edit) (plan : List Planned) → All (IsPlannedFor s a.changes id r e) plan → All (IsPlannedFor n a.changes id r e) plan
  plan_again e plan all k d lt = planned_again e (get_or plan k d) (all k d lt)

  pub blocks_again : (blocks : List Bptr) → AreObjectBlocks s a.changes id r blocks → AreObjectBlocks n a.changes id r blocks
  blocks_again blocks are =
      let same = one_blocks s a.changes id r (has.blocks.blocks id) blocks mine are in
      object_blocks_same s n a.changes a.changes id (λ k. refl) r blocks (subst (λ (xs : List Bptr). Agree s n xs) same agrees) are
