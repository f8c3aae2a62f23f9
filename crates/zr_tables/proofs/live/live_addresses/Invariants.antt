use Rattle.std.proofs.Common.{◌*◌}
use Rattle.zr_store.specs.Causes.{Costs}
use Rattle.zr_store.specs.Store.{Stored}
use Rattle.zr_tables.specs.Walks.{AreMetBelow}
use Rattle.zr_tables.proofs.live.live_addresses.Given as goal

abbrev pub invariant-loop-index : goal.invariant-loop-index
invariant-loop-index g l = record {
  follows : (start : g.row.B.Denot) → g.B.Blocks.follows start l.fn.store → g.B.Blocks.follows start l.store;
  costs : Costs 0 0 (g.B.Blocks.account l.fn.store) (g.B.Blocks.account l.store);
  same : (s : Stored) → g.B.Blocks.holds l.fn.store s → g.B.Blocks.holds l.store s;
  so_far : (s : Stored) → g.B.Blocks.holds l.fn.store s → AreMetBelow s l.dir l.group (16 * l.index) l.out.items;
}
