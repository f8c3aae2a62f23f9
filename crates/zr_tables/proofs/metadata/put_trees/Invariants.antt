use Rattle.std.proofs.Common.{◌≡◌, ◌++◌, take}
use Rattle.std.specs.List.{flat_map}
use Rattle.zr_store.specs.Causes.{Costs}
use Rattle.zr_store.specs.Store.{Stored}
use Rattle.zr_tree.specs.Trees.{tree_reach}
use Rattle.zr_vdev.specs.Stores.{addresses_of}
use Rattle.zr_tables.proofs.metadata.put_trees.Given as goal

abbrev pub invariant-loop-tree : goal.invariant-loop-tree
invariant-loop-tree g l = record {
  follows : (start : g.row.B.Denot) → g.B.Blocks.follows start l.fn.store → g.B.Blocks.follows start l.store;
  costs : Costs 0 0 (g.B.Blocks.account l.fn.store) (g.B.Blocks.account l.store);
  same : (s : Stored) → g.B.Blocks.holds l.fn.store s → g.B.Blocks.holds l.store s;
  so_far : (s : Stored) → g.B.Blocks.holds l.fn.store s → l.out.items ≡ l.fn.out.items ++ addresses_of (flat_map (tree_reach s) (take l.tree-index l.trees));
}
