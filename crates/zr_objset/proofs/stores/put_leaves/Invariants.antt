use Rattle.std.proofs.Common.{◌≡◌, ◌-◌, ◌/◌, ◌<◌, ◌≤◌, length, map, take, None}
use Rattle.std.specs.Prelude.{All, slice_index_or}
use Rattle.zr_store.specs.Causes.{Costs}
use Rattle.zr_store.specs.Store.{Stored, Now, AreStored}
use Rattle.zr_tree.specs.Trees.{tree_at, tree_reach, AreLeaves, Rises}
use Rattle.zr_objset.specs.Changes.{PutsLeaves}
use Rattle.zr_objset.proofs.stores.put_leaves.Given as goal

abbrev pub invariant-loop-from : goal.invariant-loop-from
invariant-loop-from g l = record {
  within : l.from ≤ length l.changes;
  count : length l.news.items ≤ l.from;
  same_count : length l.olds.items ≡ length l.news.items;
  places : All (λ leaf. leaf.0 < 4096) l.news.items;
  rises : Rises l.news.items;
  before : l.from < length l.changes → All (λ leaf. leaf.0 < (slice_index_or l.changes l.from (0, None)).0 / 16) l.news.items;
  leaves : AreLeaves l.news.items;
  follows : (start : g.row.B.Denot) → g.B.Blocks.follows start l.fn.store → g.B.Blocks.follows start l.store;
  costs : Costs l.from 0 (g.B.Blocks.account l.fn.store) (g.B.Blocks.account l.store);
  olds : (s : Stored) → g.B.Blocks.holds l.fn.store s → AreStored (tree_reach s l.dir) s → l.olds.items ≡ map (λ leaf. tree_at s l.dir leaf.0) l.news.items;
  puts : (s : Stored) → g.B.Blocks.holds l.fn.store s → AreStored (tree_reach s l.dir) s → Now (g.B.Blocks.holds l.store) (λ n. PutsLeaves l.dir (take l.from l.changes) s n l.news.items);
}

abbrev pub decreases-loop-from : goal.decreases-loop-from
decreases-loop-from g l = length l.changes - l.from
