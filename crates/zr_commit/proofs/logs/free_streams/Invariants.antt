use Rattle.std.proofs.Common.{ℕ, length, take, []}
use Rattle.zr_store.specs.Causes.{Costs}
use Rattle.zr_store.specs.Store.{Stored, Now, AreStored, Swaps}
use Rattle.zr_commit.specs.Logs.{streams_reach}
use Rattle.zr_commit.proofs.logs.free_streams.Given as goal

abbrev pub invariant-loop-stream : goal.invariant-loop-stream
invariant-loop-stream g l = record {
  follows : (start : g.row.B.Denot) → g.B.Blocks.follows start l.fn.store → g.B.Blocks.follows start l.store;
  puts : (frees : ℕ) × Costs 0 frees (g.B.Blocks.account l.fn.store) (g.B.Blocks.account l.store);
  costs : (s : Stored) → g.B.Blocks.holds l.fn.store s → AreStored (streams_reach s l.streams) s → Costs 0 (length (streams_reach s (take l.stream-index l.streams))) (g.B.Blocks.account l.fn.store) (g.B.Blocks.account l.store);
  so_far : (s : Stored) → g.B.Blocks.holds l.fn.store s → AreStored (streams_reach s l.streams) s → Now (g.B.Blocks.holds l.store) (λ n. Swaps s n (streams_reach s (take l.stream-index l.streams)) []);
}
