-- Calls on a store one after the other, and trees beside those that they change.
use Rattle.std.proofs.Common.{◌≡◌, ◌∙◌, ◌-◌, ℕ, List, ◌++◌, Result, Option, Some, None, refl, ap, subst, arith}
use Rattle.std.specs.List.{sum_by}
use Rattle.std.proofs.lemmas.List.Sums.{sum_by-append}
use Rattle.sha2.specs.Sha256.{sha256}
use Rattle.zr_bptr.specs.declared.Bptr.{Bptr}
use Rattle.zr_bptr.specs.declared.Ptr.{Ptr}
use Rattle.zr_bptr.specs.declared.ObjRec.{ObjRec}
use Rattle.zr_store.specs.declared.StoreErr.{StoreErr}
use Rattle.zr_store.specs.Store.{Stored, Swaps, AreStored, one_at}
use Rattle.zr_tree.specs.Blocks.{IsNoBlock}
use Rattle.zr_tree.specs.Trees.{tree_at, updated, TellsOf}
use Rattle.zr_tree.proofs.Below.{weight_same}
use Rattle.zr_tree.proofs.Frames.{Agree, frame}
use Rattle.zr_tree.proofs.Others.{keeps}
use Rattle.zr_tree.proofs.Wholes.{among_hits}
use Rattle.zr_commit.specs.Objects.{object_blocks, IsObjectWritten}

-- what two calls did together
pub swaps_both : (s n m : Stored) (out into more now : List Bptr) → Swaps s n out into → Swaps n m more now → Swaps s m (out ++ more) (into ++ now)
swaps_both s n m out into more now first second = record {
  stored = λ weight.
      let e = first.stored weight in
      let f = second.stored weight in
      let a = sum_by-append weight out more in
      let b = sum_by-append weight into now in
      omega (arith, e, f, a, b);
  kept = λ b free had.
      let a = sum_by-append (one_at b.at) out more in
      let e = first.stored (one_at b.at) in
      second.kept b (omega (arith, a, free)) (omega (arith, a, free, e, had)) ∙ first.kept b (omega (arith, a, free)) had;
}

-- what is beside the blocks that left is there with those that came
pub rest_stored : (s n : Stored) (out into more : List Bptr) → Swaps s n out into → AreStored (out ++ more) s → AreStored (more ++ into) n
rest_stored s n out into more swaps held weight =
    let e = swaps.stored weight in
    let h = held weight in
    let a = sum_by-append weight out more in
    let b = sum_by-append weight more into in
    omega (arith, e, h, a, b)

pub front_stored : (s : Stored) (xs ys : List Bptr) → AreStored (xs ++ ys) s → AreStored xs s
front_stored s xs ys held weight = let h = held weight in let a = sum_by-append weight xs ys in omega (arith, h, a)

-- an error that tells of blocks that are as they were
pub tells_same : {T : Type 0} (s n : Stored) (xs : List Bptr) (r : Result T StoreErr) → Agree s n xs → AreStored xs n → TellsOf n xs r → TellsOf s xs r
tells_same s n xs r agree stored h = record {
  malformed = λ at expected is.
      let b = h.malformed at expected is in
      let same = agree.same b.block (among_hits b.block xs b.among) in
      record { block = b.block; among = b.among; address = b.address; checksum = b.checksum; tall = b.tall; right = b.right ∙ ap (λ (bytes : List ℕ). sha256 bytes) same; bad = subst (λ (bytes : List ℕ). IsNoBlock (b.block.level - 1) b.block.fill bytes) same b.bad };
  damaged = λ at expected found is.
      let b = h.damaged at expected found is in
      let same = agree.same b.block (among_hits b.block xs b.among) in
      record { block = b.block; among = b.among; address = b.address; checksum = b.checksum; found_is = b.found_is ∙ ap (λ (bytes : List ℕ). sha256 bytes) same; differs = b.differs };
  resolved = λ at expected is held. h.resolved at expected is stored;
}

-- the tree blocks of an object stay
pub object_same : (s n : Stored) (o : Option ObjRec) → Agree s n (object_blocks s o) → object_blocks n o ≡ object_blocks s o
object_same s n None a = refl
object_same s n (Some r) a = (frame s n r.tree.height r.tree.root a).tree_blocks

-- what was written from a store is written from one before, in which the object was the same
pub written_from : (changes : List (ℕ × Ptr)) (s n m : Stored) (o q : Option ObjRec) → Agree s n (object_blocks s o) → IsObjectWritten changes n m o q → IsObjectWritten changes s m o q
written_from changes s n m None None a w = tt
written_from changes s n m None (Some q) a w = w
written_from changes s n m (Some r) None a w = w
written_from changes s n m (Some r) (Some q) a w =
    let kept = keeps s n r.tree (λ b h. a.same b h) in
    let f = frame s n r.tree.height r.tree.root a in
    record {
      size = w.size;
      height = w.height;
      leaves = λ index. w.leaves index ∙ ap (λ (p : Ptr). updated changes index p) (kept.leaves index);
      swaps_leaves = record {
        stored = λ weight.
            let e = w.swaps_leaves.stored weight in
            let same = weight_same weight (tree_at n r.tree) (tree_at s r.tree) changes kept.leaves in
            let had = ap (λ (bs : List Bptr). sum_by weight bs) f.all_leaves in
            omega (arith, e, same, had);
      };
    }

-- .. and is still written in a later store, in which the new tree is the same
pub written_to : (changes : List (ℕ × Ptr)) (s n m : Stored) (o q : Option ObjRec) → Agree n m (object_blocks n q) → IsObjectWritten changes s n o q → IsObjectWritten changes s m o q
written_to changes s n m None None a w = tt
written_to changes s n m None (Some q) a w = w
written_to changes s n m (Some r) None a w = w
written_to changes s n m (Some r) (Some q) a w =
    let kept = keeps n m q.tree (λ b h. a.same b h) in
    let f = frame n m q.tree.height q.tree.root a in
    record {
      size = w.size;
      height = w.height;
      leaves = λ index. kept.leaves index ∙ w.leaves index;
      swaps_leaves = record {
        stored = λ weight.
            let e = w.swaps_leaves.stored weight in
            let has = ap (λ (bs : List Bptr). sum_by weight bs) f.all_leaves in
            omega (arith, e, has);
      };
    }
