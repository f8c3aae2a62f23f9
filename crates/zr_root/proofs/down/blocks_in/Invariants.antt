use Rattle.std.proofs.Common.{◌≡◌, take}
use Rattle.std.specs.List.{flat_map}
use Rattle.zr_tree.specs.Trees.{own}
use Rattle.zr_root.proofs.down.blocks_in.Given as goal

abbrev pub invariant-loop-p : goal.invariant-loop-p
invariant-loop-p l = l.bs.items ≡ flat_map own (take l.p-index l.pointers)
