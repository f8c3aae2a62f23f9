use Rattle.std.proofs.Common.{◌+◌, ◌*◌}
use Rattle.zr_bptr.specs.declared.Tree.{Tree}
use Rattle.zr_lookup.specs.Objects.{HasLeaves}
use Rattle.zr_store.specs.Causes.{Costs}
use Rattle.zr_store.specs.Store.{Stored}
use Rattle.zr_tree.specs.Trees.{tree_at}
use Rattle.zr_tables.specs.Walks.{AreMetBelow}
use Rattle.zr_tables.proofs.live.put_leaf.Given as goal

abbrev pub invariant-loop-place : goal.invariant-loop-place
invariant-loop-place g l = record {
  follows : (start : g.row.B.Denot) → g.B.Blocks.follows start l.fn.store → g.B.Blocks.follows start l.store;
  costs : Costs 0 0 (g.B.Blocks.account l.fn.store) (g.B.Blocks.account l.store);
  same : (s : Stored) → g.B.Blocks.holds l.fn.store s → g.B.Blocks.holds l.store s;
  so_far : (s : Stored) (dir : Tree) → g.B.Blocks.holds l.fn.store s → HasLeaves (tree_at s dir) l.leaves → AreMetBelow s dir l.group (16 * l.index) l.fn.out.items
      → AreMetBelow s dir l.group (16 * l.index + l.place) l.out.items;
}
