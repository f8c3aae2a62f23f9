use Rattle.std.proofs.Common.{◌≡◌, ◌*◌, length, take}
use Rattle.zr_store.specs.Causes.{Costs}
use Rattle.zr_store.specs.Store.{Stored}
use Rattle.zr_root.specs.Levels.{ReadsLeaves}
use Rattle.zr_root.proofs.reads.read_leaves.Given as goal

abbrev pub invariant-loop-b : goal.invariant-loop-b
invariant-loop-b g l = record {
  follows : (start : g.row.B.Denot) → g.B.Blocks.follows start l.fn.store → g.B.Blocks.follows start l.store;
  costs : Costs 0 0 (g.B.Blocks.account l.fn.store) (g.B.Blocks.account l.store);
  same : (s : Stored) → g.B.Blocks.holds l.fn.store s → g.B.Blocks.holds l.store s;
  len : length l.all.items ≡ 4096 * l.b-index;
  reads : (s : Stored) → g.B.Blocks.holds l.fn.store s → ReadsLeaves s (take l.b-index l.leaves) l.all.items;
}
