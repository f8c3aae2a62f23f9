-- Stores that agree on the blocks of a directory give it one meaning.
use Rattle.std.proofs.Common.{◌≡◌, ◌∙◌, ℕ, List, [], ◌∷◌, ◌++◌, Bool, true, false, nat_eq, Option, Some, None, refl, ap, arith}
use Rattle.std.specs.Prelude.{if◌then◌else◌, slice_index_or, ◌/◌, ◌%◌}
use Rattle.std.specs.List.{flat_map}
use Rattle.std.proofs.lemmas.List.Sums.{sum_by-append}
use Rattle.zr_bptr.specs.declared.Bptr.{Bptr}
use Rattle.zr_bptr.specs.declared.Ptr.{Ptr}
use Rattle.zr_bptr.specs.declared.Ptr.TheVariants.{Hole, At}
use Rattle.zr_bptr.specs.declared.Tree.{Tree}
use Rattle.zr_bptr.specs.declared.ObjRec.{ObjRec}
use Rattle.zr_store.specs.Store.{Stored, Swaps, AreStored, IsOnce, hits, one_at}
use Rattle.zr_tree.specs.Trees.{tree_at, tree_reach, own, KeepsTree}
use Rattle.zr_tree.proofs.Frames.{Agree, first_of, agree_rest, agree_front, agree_back}
use Rattle.zr_tree.proofs.Others.{keeps}
use Rattle.zr_objset.specs.Records.{records_in, record_in, record_of, bytes_of, block_of, object_reach, leaf_reach, all_reach, KeepsObjects}
use Rattle.zr_objset.proofs.Within.{blocks_within, leaf_within}

module _ (old new : Stored) where
  -- a tree of which all blocks stay
  pub tree_same : (t : Tree) → Agree old new (tree_reach old t) → KeepsTree old new t
  tree_same t a = keeps old new t (λ b h. let w = blocks_within old t (one_at b.at) in a.same b (omega (arith, w, h)))

  -- the leaf at an index has its bytes
  leaf_same : (t : Tree) (index : ℕ) (b : Bptr) → Agree old new (tree_reach old t) → tree_at old t index ≡ At b → new.bytes b ≡ old.bytes b
  leaf_same t index b a is =
      let w = leaf_within old t index (one_at b.at) in
      let e = ap (λ (p : Ptr). hits (own p) b.at) is in
      a.same b (omega (arith, w, e, first_of b []))

  record_same : (p : Ptr) (place : ℕ) → ((b : Bptr) → p ≡ At b → new.bytes b ≡ old.bytes b) → record_in new p place ≡ record_in old p place
  record_same Hole place same = refl
  record_same (At b) place same = ap (λ (bytes : List ℕ). slice_index_or (records_in bytes) place None) (same b refl)

  bytes_same : (units : ℕ) (p : Ptr) → ((b : Bptr) → p ≡ At b → new.bytes b ≡ old.bytes b) → bytes_of new units p ≡ bytes_of old units p
  bytes_same units Hole same = refl
  bytes_same units (At b) same = same b refl

  pub same_record : (t : Tree) (id : ℕ) → Agree old new (tree_reach old t) → record_of new t id ≡ record_of old t id
  same_record t id a =
      let p = tree_at old t (id / 16) in
      ap (λ (q : Ptr). record_in new q (id % 16)) ((tree_same t a).leaves (id / 16)) ∙ record_same p (id % 16) (λ b is. leaf_same t (id / 16) b a is)

  pub same_block : (r : ObjRec) (index : ℕ) → Agree old new (tree_reach old r.tree) → block_of new r index ≡ block_of old r index
  same_block r index a =
      let p = tree_at old r.tree index in
      ap (λ (q : Ptr). bytes_of new r.units q) ((tree_same r.tree a).leaves index) ∙ bytes_same r.units p (λ b is. leaf_same r.tree index b a is)

  object_same : (x : Option ObjRec) → Agree old new (object_reach old x) → object_reach new x ≡ object_reach old x
  object_same None a = refl
  object_same (Some r) a = (tree_same r.tree a).same_reach

  objects_same : (xs : List (Option ObjRec)) → Agree old new (flat_map (object_reach old) xs) → flat_map (object_reach new) xs ≡ flat_map (object_reach old) xs
  objects_same [] a = refl
  objects_same (x ∷ xs) a =
      let front = agree_front old new (object_reach old x) (flat_map (object_reach old) xs) a in
      let back = agree_back old new (object_reach old x) (flat_map (object_reach old) xs) a in
      ap (λ (ys : List Bptr). ys ++ flat_map (object_reach new) xs) (object_same x front) ∙ ap (λ (ys : List Bptr). object_reach old x ++ ys) (objects_same xs back)

  part_same : (yes : Bool) (xs : List (Option ObjRec)) → Agree old new (if yes then flat_map (object_reach old) xs else []) → (if yes then flat_map (object_reach new) xs else []) ≡ (if yes then flat_map (object_reach old) xs else [])
  part_same true xs a = objects_same xs a
  part_same false xs a = refl

  leaves_same : (bs : List Bptr) → Agree old new bs → Agree old new (flat_map (leaf_reach old) bs) → flat_map (leaf_reach new) bs ≡ flat_map (leaf_reach old) bs
  leaves_same [] own_agree a = refl
  leaves_same (b ∷ bs) own_agree a =
      let front = agree_front old new (leaf_reach old b) (flat_map (leaf_reach old) bs) a in
      let back = agree_back old new (leaf_reach old b) (flat_map (leaf_reach old) bs) a in
      let bytes = own_agree.same b (first_of b bs) in
      let here = ap (λ (xs : List ℕ). if nat_eq b.level 0 then flat_map (object_reach new) (records_in xs) else []) bytes ∙ part_same (nat_eq b.level 0) (records_in (old.bytes b)) front in
      ap (λ (ys : List Bptr). ys ++ flat_map (leaf_reach new) bs) here ∙ ap (λ (ys : List Bptr). leaf_reach old b ++ ys) (leaves_same bs (agree_rest old new b bs own_agree) back)

  pub same_objects : (t : Tree) → Agree old new (all_reach old t) → KeepsObjects old new t
  same_objects t a =
      let own_agree = agree_front old new (tree_reach old t) (flat_map (leaf_reach old) (tree_reach old t)) a in
      let rest = agree_back old new (tree_reach old t) (flat_map (leaf_reach old) (tree_reach old t)) a in
      record {
        records = λ id. same_record t id own_agree;
        reach = ap (λ (bs : List Bptr). bs ++ flat_map (leaf_reach new) bs) (tree_same t own_agree).same_reach ∙ ap (λ (bs : List Bptr). tree_reach old t ++ bs) (leaves_same (tree_reach old t) own_agree rest);
      }

-- what is stored beside the blocks that left has its bytes
pub beside : (old new : Stored) (out into pointers : List Bptr) → Swaps old new out into → IsOnce old → AreStored (out ++ pointers) old → Agree old new pointers
beside old new out into pointers swaps once held = record {
  same = λ b h.
      let o = once b.at in
      let d = held (one_at b.at) in
      let a = sum_by-append (one_at b.at) out pointers in
      swaps.kept b (omega (arith, o, d, a, h)) (omega (arith, d, a, h));
}
