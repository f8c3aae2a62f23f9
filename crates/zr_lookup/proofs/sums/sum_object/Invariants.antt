use Rattle.std.proofs.Common.{take}
use Rattle.std.specs.Prelude.{All}
use Rattle.std.specs.List.{flat_map}
use Rattle.sha2.specs.Hashers.{Holds256}
use Rattle.zr_store.specs.Causes.{Costs}
use Rattle.zr_store.specs.Store.{Stored}
use Rattle.zr_lookup.specs.Objects.{summed}
use Rattle.zr_lookup.specs.Errors.{IsSoundBlock}
use Rattle.zr_lookup.proofs.sums.sum_object.Given as goal

abbrev pub invariant-loop-index : goal.invariant-loop-index
invariant-loop-index g l = record {
  follows : (start : g.row.B.Denot) → g.B.Blocks.follows start l.fn.store → g.B.Blocks.follows start l.store;
  costs : Costs 0 0 (g.B.Blocks.account l.fn.store) (g.B.Blocks.account l.store);
  same : (s : Stored) → g.B.Blocks.holds l.fn.store s → g.B.Blocks.holds l.store s;
  sound : (s : Stored) → g.B.Blocks.holds l.fn.store s → All (λ leaf. IsSoundBlock s l.rec.units leaf.1) (take l.index-index l.index-items);
  summed_up : (s : Stored) → g.B.Blocks.holds l.fn.store s → Holds256 l.digest (flat_map (λ leaf. summed leaf.0 (s.bytes leaf.1)) (take l.index-index l.index-items));
}
