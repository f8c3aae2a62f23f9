use Rattle.std.proofs.Common.{◌≡◌, ◌-◌, map}
use Rattle.std.specs.Prelude.{All}
use Rattle.std.specs.List.{range_with_len}
use Rattle.zr_store.specs.Causes.{Costs}
use Rattle.zr_store.specs.Store.{Stored}
use Rattle.zr_tree.specs.Blocks.{FitsAt}
use Rattle.zr_change.specs.Plans.{AreNew, IsPlannedFor}
use Rattle.zr_change.proofs.plans.plan.Given as goal

abbrev pub invariant-loop-index : goal.invariant-loop-index
invariant-loop-index g l = record {
  follows : (start : g.row.B.Denot) → g.B.Blocks.follows start l.fn.store → g.B.Blocks.follows start l.store;
  costs : Costs 0 0 (g.B.Blocks.account l.fn.store) (g.B.Blocks.account l.store);
  same : (s : Stored) → g.B.Blocks.holds l.fn.store s → g.B.Blocks.holds l.store s;
  indices : map (λ p. p.index) l.plan.items ≡ range_with_len l.first (l.index - l.first);
  olds : All (λ p. FitsAt 0 p.old) l.plan.items;
  new : AreNew l.rec.units l.plan.items;
  plans : (s : Stored) → g.B.Blocks.holds l.fn.store s → All (IsPlannedFor s l.group l.id l.rec l.edit) l.plan.items;
}
