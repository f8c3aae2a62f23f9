use Rattle.std.proofs.Common.{[], length, take}
use Rattle.zr_store.specs.Causes.{Costs}
use Rattle.zr_store.specs.Store.{Stored, Now, AreStored, Swaps}
use Rattle.zr_change.specs.Plans.{olds_of}
use Rattle.zr_change.proofs.stores.free_olds.Given as goal

abbrev pub invariant-loop-p : goal.invariant-loop-p
invariant-loop-p g l = record {
  follows : (start : g.row.B.Denot) → g.B.Blocks.follows start l.fn.store → g.B.Blocks.follows start l.store;
  costs : Costs 0 (length (olds_of (take l.p-index l.plan))) (g.B.Blocks.account l.fn.store) (g.B.Blocks.account l.store);
  so_far : (s : Stored) → g.B.Blocks.holds l.fn.store s → AreStored (olds_of l.plan) s → Now (g.B.Blocks.holds l.store) (λ n. Swaps s n (olds_of (take l.p-index l.plan)) []);
}
