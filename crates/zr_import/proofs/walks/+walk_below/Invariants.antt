use Rattle.std.proofs.Common.{◌≡◌, ◌-◌, ◌+◌, ◌*◌, ◌<◌, ◌≤◌, ◌^◌, ◌++◌, ℕ, take, true}
use Rattle.std.specs.Prelude.{All, ◌≢◌}
use Rattle.std.specs.List.{flat_map}
use Rattle.zr_store.specs.Causes.{Costs}
use Rattle.zr_store.specs.Store.{Stored}
use Rattle.zr_tree.specs.Trees.{reach, leaves_below, slot, IsSoundAt}
use Rattle.zr_import.specs.Shapes.{HasFirst, AddsLeaves, StandBelow}
use Rattle.zr_import.specs.Units.{MarksAll}
use Rattle.zr_import.specs.declared.walks.Kept.TheVariants.{Nothing, Bytes}
use Rattle.zr_import.proofs.walks.+walk_below.Given as goal

abbrev pub decreases-walk_below : goal.decreases-walk_below
decreases-walk_below g l = l.level

abbrev pub invariant-loop-next : goal.invariant-loop-next
invariant-loop-next g l = record {
  follows : (start : g.row.B.Denot) → g.B.Blocks.follows start l.fn.store → g.B.Blocks.follows start l.store;
  costs : Costs 0 0 (g.B.Blocks.account l.fn.store) (g.B.Blocks.account l.store);
  same : (s : Stored) → g.B.Blocks.holds l.fn.store s → g.B.Blocks.holds l.store s;
  bound : l.at ≤ l.index + l.next-index * 1048576;
  at_is : l.at ≡ l.index + l.next-index * 32 ^ (l.level - 1);
  so_far : (s : Stored) → g.B.Blocks.holds l.fn.store s → l.shape.kept ≢ Nothing → l.found.met.items ≡ l.initial.found.met.items ++ flat_map (reach s (l.level - 1)) (take l.next-index l.next-items);
  sound : (s : Stored) → g.B.Blocks.holds l.fn.store s → All (IsSoundAt s (l.level - 1)) (take l.next-index l.next-items);
  marks : (s : Stored) → g.B.Blocks.holds l.fn.store s → MarksAll g.M.Mark.marks l.shape.txg l.initial.marks l.marks (flat_map (reach s (l.level - 1)) (take l.next-index l.next-items));
  bytes : (s : Stored) → g.B.Blocks.holds l.fn.store s → l.shape.kept ≡ Bytes → AddsLeaves s (flat_map (leaves_below s (l.level - 1)) (take l.next-index l.next-items)) l.initial.found.bytes.items l.found.bytes.items;
  stand : (s : Stored) → g.B.Blocks.holds l.fn.store s → (k : ℕ) → k < l.next-index → StandBelow s l.shape (l.level - 1) (l.index + k * 32 ^ (l.level - 1)) (slot l.next-items k);
  first : (s : Stored) → g.B.Blocks.holds l.fn.store s → l.shape.full ≡ true → (k : ℕ) → k < l.next-index → HasFirst s l.shape.leaves l.shape.leaf_units (l.level - 1) (l.index + k * 32 ^ (l.level - 1)) (slot l.next-items k);
}
