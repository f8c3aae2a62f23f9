use Rattle.std.proofs.Common.{◌≡◌, ◌+◌, ◌-◌, ◌*◌, ◌^◌, ◌≤◌, ◌++◌, length, take}
use Rattle.std.specs.Prelude.{All}
use Rattle.std.specs.List.{flat_map}
use Rattle.zr_bptr.specs.declared.Ptr.TheVariants.{At}
use Rattle.zr_bptr.specs.Spelling.{IsPointer}
use Rattle.zr_store.specs.Causes.{Costs}
use Rattle.zr_store.specs.Store.{Stored}
use Rattle.zr_tree.specs.Blocks.{FitsAt}
use Rattle.zr_tree.specs.Trees.{blocks, leaf_at}
use Rattle.zr_lookup.specs.Objects.{block_in}
use Rattle.zr_lookup.specs.Lists.{IsBetween, Fills}
use Rattle.zr_lookup.proofs.walks.+walk_below.Given as goal

abbrev pub decreases-walk_below : goal.decreases-walk_below
decreases-walk_below g l = l.level

abbrev pub invariant-loop-i : goal.invariant-loop-i
invariant-loop-i g l = record {
  follows : (start : g.row.B.Denot) → g.B.Blocks.follows start l.fn.store → g.B.Blocks.follows start l.store;
  costs : Costs 0 0 (g.B.Blocks.account l.fn.store) (g.B.Blocks.account l.store);
  same : (s : Stored) → g.B.Blocks.holds l.fn.store s → g.B.Blocks.holds l.store s;
  between : IsBetween 0 ((32 * l.place + l.i) * 32 ^ (l.level - 1)) l.leaves.items;
  leaves_fit : All (λ leaf. FitsAt 0 (At leaf.1)) l.leaves.items;
  blocks_fit : All IsPointer l.tree.items;
  few : 31 * length l.tree.items + l.i ≤ 31 * length l.initial.tree.items + l.i * 32 ^ (l.level - 1);
  so_far : (s : Stored) → g.B.Blocks.holds l.fn.store s → l.tree.items ≡ l.initial.tree.items ++ flat_map (blocks s (l.level - 1)) (take l.i l.next-items);
  filled : (s : Stored) → g.B.Blocks.holds l.fn.store s → Fills (32 * l.place * 32 ^ (l.level - 1)) ((32 * l.place + l.i) * 32 ^ (l.level - 1)) (λ index. block_in (leaf_at s l.level l.p index)) l.initial.leaves.items l.leaves.items;
}
