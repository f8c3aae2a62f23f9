-- The same pointers are stored, and nothing else happened.
use Rattle.std.proofs.Common.{◌≡◌, ◌∙◌, ℕ, [], ◌++◌, refl, sym, ap, subst, arith}
use Rattle.std.specs.FinMap as fin
use Rattle.zr_bptr.specs.declared.ObjRec.{ObjRec}
use Rattle.std.specs.Prelude.{Option, None, unwrap_or, nat_lt, if◌then◌else◌}
use Rattle.zr_bptr.specs.declared.Tree.{Tree}
use Rattle.zr_tree.specs.Trees.{tree_reach}
use Rattle.zr_txg.specs.Changes.{Changes, object_in, change_in}
use Rattle.zr_store.specs.Store.{Stored, Swaps, one_at}
use Rattle.zr_tree.proofs.Frames.{Agree, agree_front, agree_back}
use Rattle.zr_objset.proofs.Keeping.{beside, same_record}
use Rattle.zr_lookup.specs.Objects.{record_now}
use Rattle.zr_model.specs.Objects.{Objects}
use Rattle.zr_moves.specs.Account.{Account, IsObjectAt}
use Rattle.zr_held.specs.Held.{AreBlocksNow, HasObjects}
use Rattle.zr_held.specs.Steps.{IsOtherGroup, ChangesBlocks}
use Rattle.zr_held.proofs.Frames.{blocks_same, object_stays}
use Rattle.zr_held.proofs.One.{object_stored, objects_then}

-- the records of the directory stay with its blocks
pub record_same : (s n : Stored) (dir : Tree) (g : Changes) (id : ℕ) → Agree s n (tree_reach s dir) → record_now n dir g id ≡ record_now s dir g id
record_same s n dir g id agree = ap (λ (x : Option ObjRec). if nat_lt id 65536 then unwrap_or (object_in g id) x else None) (same_record s n dir id agree)

module _ (s n : Stored) (a b : Account) (objects : Objects) (swap : Swaps s n [] []) (dir : b.dir ≡ a.dir) (group : b.changes ≡ a.changes) (has : HasObjects s a objects) where
  all_agree : Agree s n (tree_reach s a.dir ++ has.blocks.blocks 0)
  all_agree = beside s n [] [] (tree_reach s a.dir ++ has.blocks.blocks 0) swap has.blocks.once (object_stored s a.dir a.changes has.blocks 0)

  agrees : Agree s n (has.blocks.blocks 0)
  agrees = agree_back s n (tree_reach s a.dir) (has.blocks.blocks 0) all_agree

  changes_same : (id i : ℕ) → change_in b.changes id i ≡ change_in a.changes id i
  changes_same id i = ap (λ (g : Changes). change_in g id i) group

  record_stays : record_now n b.dir b.changes 0 ≡ record_now s a.dir a.changes 0
  record_stays =
      ap (λ (t : Tree). record_now n t b.changes 0) dir ∙ ap (λ (g : Changes). record_now n a.dir g 0) group
      ∙ record_same s n a.dir a.changes 0 (agree_front s n (tree_reach s a.dir) (has.blocks.blocks 0) all_agree)

  group_stays : IsOtherGroup 0 a b
  group_stays = record { dir = dir; records = λ other apart. ap (λ (g : Changes). object_in g other) group; blocks = λ other apart i. changes_same other i }

  none_changes : ChangesBlocks s n b 0 (has.blocks.blocks 0) (has.blocks.blocks 0) [] []
  none_changes = record {
    swaps = swap;
    among = λ weight. omega arith;
    balance = λ weight. refl;
    now = subst (λ (x : Option ObjRec). AreBlocksNow n b.changes 0 x (has.blocks.blocks 0)) (sym record_stays)
        (blocks_same s n a.changes b.changes 0 (changes_same 0) (record_now s a.dir a.changes 0) (has.blocks.blocks 0) agrees (has.blocks.each 0));
    once = λ at. let o = has.blocks.once at in let w = swap.stored (one_at at) in omega (arith, o, w);
  }

  pub same : HasObjects n b objects
  same = objects_then s n a b 0 [] [] (has.blocks.blocks 0) (omega arith) has.blocks group_stays none_changes objects objects has.each (λ i apart. refl)
      (subst (λ (x : Option ObjRec). IsObjectAt n b 0 x (fin.get objects 0)) (sym record_stays)
      (object_stays s n a b 0 (changes_same 0) (record_now s a.dir a.changes 0) (has.blocks.blocks 0) (fin.get objects 0) refl record_stays agrees (has.blocks.each 0) (has.each 0)))
