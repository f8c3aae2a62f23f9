use Rattle.std.proofs.Common.{take, []}
use Rattle.zr_store.specs.Causes.{Costs}
use Rattle.zr_store.specs.Store.{Stored, Now, AreStored, Swaps}
use Rattle.zr_tree.proofs.rows.free_all.Given as goal

abbrev pub invariant-loop-b : goal.invariant-loop-b
invariant-loop-b g l = record {
  follows : (start : g.row.B.Denot) → g.B.Blocks.follows start l.fn.store → g.B.Blocks.follows start l.store;
  costs : Costs 0 l.b-index (g.B.Blocks.account l.fn.store) (g.B.Blocks.account l.store);
  swaps : (s : Stored) → g.B.Blocks.holds l.fn.store s → AreStored l.old s → Now (g.B.Blocks.holds l.store) (λ n. Swaps s n (take l.b-index l.old) []);
}
