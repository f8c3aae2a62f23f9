use Rattle.std.proofs.Common.{[], length, take}
use Rattle.zr_store.specs.Causes.{Costs}
use Rattle.zr_store.specs.Store.{Stored, Now, AreStored, Swaps}
use Rattle.zr_change.specs.Plans.{leaves_of}
use Rattle.zr_change.proofs.stores.free_changes.Given as goal

abbrev pub invariant-loop-change : goal.invariant-loop-change
invariant-loop-change g l = record {
  follows : (start : g.row.B.Denot) → g.B.Blocks.follows start l.fn.store → g.B.Blocks.follows start l.store;
  costs : Costs 0 (length (leaves_of (take l.change-index l.changes))) (g.B.Blocks.account l.fn.store) (g.B.Blocks.account l.store);
  so_far : (s : Stored) → g.B.Blocks.holds l.fn.store s → AreStored (leaves_of l.changes) s → Now (g.B.Blocks.holds l.store) (λ n. Swaps s n (leaves_of (take l.change-index l.changes)) []);
}
