-- Trees that are not changed.
use Rattle.std.proofs.Common.{◌≡◌, ◌<◌, ◌^◌, List, ap, arith, nat_lt}
use Rattle.std.specs.Prelude.{if◌then◌else◌}
use Rattle.std.proofs.lemmas.List.Sums.{sum_by-append}
use Rattle.zr_bptr.specs.declared.Bptr.{Bptr}
use Rattle.zr_bptr.specs.declared.Ptr.{Ptr}
use Rattle.zr_bptr.specs.declared.Ptr.TheVariants.{Hole}
use Rattle.zr_bptr.specs.declared.Tree.{Tree}
use Rattle.zr_store.specs.Store.{Stored, Swaps, IsOnce, hits, one_at}
use Rattle.zr_tree.specs.Trees.{tree_blocks, KeepsTree, KeepsOthers}
use Rattle.zr_tree.proofs.Frames.{frame}

pub keeps : (old new : Stored) (t : Tree) → ((b : Bptr) → 0 < hits (tree_blocks old t) b.at → new.bytes b ≡ old.bytes b) → KeepsTree old new t
keeps old new t same =
    let f = frame old new t.height t.root (record { same = same }) in
    record {
      same_blocks = f.tree_blocks;
      same_reach = f.all_blocks;
      leaves = λ index. ap (λ (p : Ptr). if nat_lt index (32 ^ t.height) then p else Hole) (f.leaves index);
    }

pub keeps_others : (old new : Stored) (out into : List Bptr) → Swaps old new out into → IsOnce old → KeepsOthers old new out
keeps_others old new out into swaps once other held = keeps old new other (λ b h.
    let o = once b.at in
    let d = held (one_at b.at) in
    let a = sum_by-append (one_at b.at) out (tree_blocks old other) in
    swaps.kept b (omega (arith, o, d, a, h)) (omega (arith, d, a, h)))
