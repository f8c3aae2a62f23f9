-- A group that is written stays so while its blocks stay.
use Rattle.std.proofs.Common.{◌≡◌, ◌∙◌, ℕ, List, [], ◌∷◌, ◌++◌, Option, refl, sym, ap, subst, arith}
use Rattle.std.specs.List.{AllByRecursion}
use Rattle.zr_bptr.specs.declared.Bptr.{Bptr}
use Rattle.zr_bptr.specs.declared.Tree.{Tree}
use Rattle.zr_bptr.specs.declared.ObjRec.{ObjRec}
use Rattle.zr_store.specs.Store.{Stored, Swaps, Now, AreStored, IsOnce, one_at}
use Rattle.zr_tree.specs.Trees.{tree_reach}
use Rattle.zr_tree.proofs.Frames.{Agree, agree_front, agree_back}
use Rattle.zr_tree.proofs.Others.{keeps_others}
use Rattle.zr_objset.specs.Records.{record_of}
use Rattle.zr_objset.proofs.Keeping.{tree_same, same_record}
use Rattle.zr_txg.specs.Changes.{ObjectChange, Changes}
use Rattle.zr_commit.specs.Objects.{object_blocks, blocks_of, blocks_now, IsObjectWritten, WritesGroup}
use Rattle.zr_commit.proofs.Swapping.{object_same, written_to}

module _ (s m n : Stored) (g : Changes) (dir u : Tree) (once : IsOnce s) (held : AreStored (blocks_of s g.objects ++ tree_reach s dir) s) (w : WritesGroup s m g dir u) (moved : Swaps m n [] []) where
  into_stored : AreStored (blocks_now m u g.objects ++ tree_reach m u) m
  into_stored weight = let e = w.swaps.stored weight in let h = held weight in omega (arith, e, h)

  agree : Agree m n (blocks_now m u g.objects ++ tree_reach m u)
  agree = record { same = λ b h. let a = into_stored (one_at b.at) in moved.kept b refl (omega (arith, a, h)) }

  dir_agree : Agree m n (tree_reach m u)
  dir_agree = agree_back m n (blocks_now m u g.objects) (tree_reach m u) agree

  records : (id : ℕ) → record_of n u id ≡ record_of m u id
  records id = same_record m n u id dir_agree

  each_written : (es : List (ℕ × ObjectChange)) → Agree m n (blocks_now m u es)
      → AllByRecursion (λ (e : ℕ × ObjectChange). IsObjectWritten e.1.blocks s m e.1.object (record_of m u e.0)) es
      → AllByRecursion (λ (e : ℕ × ObjectChange). IsObjectWritten e.1.blocks s n e.1.object (record_of n u e.0)) es
  each_written [] a all = tt
  each_written (e ∷ es) a all = (
    subst (λ (x : Option ObjRec). IsObjectWritten e.1.blocks s n e.1.object x) (sym (records e.0))
        (written_to e.1.blocks s m n e.1.object (record_of m u e.0) (agree_front m n (object_blocks m (record_of m u e.0)) (blocks_now m u es) a) all.0),
    each_written es (agree_back m n (object_blocks m (record_of m u e.0)) (blocks_now m u es) a) all.1,
  )

  same_now : (es : List (ℕ × ObjectChange)) → Agree m n (blocks_now m u es) → blocks_now n u es ≡ blocks_now m u es
  same_now [] a = refl
  same_now (e ∷ es) a =
      ap (λ (x : Option ObjRec). object_blocks n x ++ blocks_now n u es) (records e.0)
      ∙ ap (λ (bs : List Bptr). bs ++ blocks_now n u es) (object_same m n (record_of m u e.0) (agree_front m n (object_blocks m (record_of m u e.0)) (blocks_now m u es) a))
      ∙ ap (λ (bs : List Bptr). object_blocks m (record_of m u e.0) ++ bs) (same_now es (agree_back m n (object_blocks m (record_of m u e.0)) (blocks_now m u es) a))

  same_into : blocks_now n u g.objects ++ tree_reach n u ≡ blocks_now m u g.objects ++ tree_reach m u
  same_into =
      ap (λ (bs : List Bptr). bs ++ tree_reach n u) (same_now g.objects (agree_front m n (blocks_now m u g.objects) (tree_reach m u) agree))
      ∙ ap (λ (bs : List Bptr). blocks_now m u g.objects ++ bs) (tree_same m n u dir_agree).same_reach

  swapped : Swaps s n (blocks_of s g.objects ++ tree_reach s dir) (blocks_now m u g.objects ++ tree_reach m u)
  swapped = record {
    stored = λ weight. let e = w.swaps.stored weight in let f = moved.stored weight in omega (arith, e, f);
    kept = λ b free had.
        let e = w.swaps.stored (one_at b.at) in
        moved.kept b refl (omega (arith, e, free, had)) ∙ w.swaps.kept b free had;
  }

  -- a group that was written is so in a later store of the same blocks
  pub written_still : WritesGroup s n g dir u
  written_still =
      let swaps = subst (λ (into : List Bptr). Swaps s n (blocks_of s g.objects ++ tree_reach s dir) into) (sym same_into) swapped in
      record {
        written = each_written g.objects (agree_front m n (blocks_now m u g.objects) (tree_reach m u) agree) w.written;
        rest = λ id none. records id ∙ w.rest id none;
        swaps = swaps;
        others = keeps_others s n (blocks_of s g.objects ++ tree_reach s dir) (blocks_now n u g.objects ++ tree_reach n u) swaps once;
      }

-- and so once a later store of the same blocks is held
pub now_still : (had has : Stored → Type 0) (s : Stored) (g : Changes) (dir u : Tree) → IsOnce s → AreStored (blocks_of s g.objects ++ tree_reach s dir) s
    → ((m : Stored) → had m → Now has (λ n. Swaps m n [] [])) → Now had (λ m. WritesGroup s m g dir u) → Now has (λ n. WritesGroup s n g dir u)
now_still had has s g dir u once held goes before =
    let later = goes before.stored before.held in
    record { stored = later.stored; held = later.held; is = written_still s before.stored later.stored g dir u once held before.is later.is }

-- what is held by another description of the same store
pub now_held : {had has is : Stored → Type 0} → ((m : Stored) → had m → has m) → Now had is → Now has is
now_held goes before = record { stored = before.stored; held = goes before.stored before.held; is = before.is }
