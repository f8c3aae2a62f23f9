use Rattle.std.proofs.Common.{take, []}
use Rattle.std.specs.List.{flat_map}
use Rattle.zr_store.specs.Causes.{Costs}
use Rattle.zr_store.specs.Store.{Stored, Now, AreStored, Swaps}
use Rattle.zr_tree.specs.Trees.{own}
use Rattle.zr_objset.proofs.stores.free_leaves.Given as goal

abbrev pub invariant-loop-leaf : goal.invariant-loop-leaf
invariant-loop-leaf g l = record {
  follows : (start : g.row.B.Denot) → g.B.Blocks.follows start l.fn.store → g.B.Blocks.follows start l.store;
  costs : Costs 0 l.leaf-index (g.B.Blocks.account l.fn.store) (g.B.Blocks.account l.store);
  so_far : (s : Stored) → g.B.Blocks.holds l.fn.store s → AreStored (flat_map own l.leaves) s → Now (g.B.Blocks.holds l.store) (λ n. Swaps s n (flat_map own (take l.leaf-index l.leaves)) []);
}
