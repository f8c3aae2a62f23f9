use Rattle.std.proofs.Common.{◌≡◌, ◌*◌, ◌≤◌, length, take}
use Rattle.std.specs.Prelude.{vec_capacity}
use Rattle.zr_store.specs.Causes.{Spends}
use Rattle.zr_store.specs.Store.{Stored, Now}
use Rattle.zr_tree.specs.Trees.{AreLeaves}
use Rattle.zr_change.specs.Plans.{PutsPlan, AreChangesFor, puts_of, leaves_of}
use Rattle.zr_change.proofs.stores.put_each.Given as goal

abbrev pub invariant-loop-p : goal.invariant-loop-p
invariant-loop-p g l = record {
  follows : (start : g.row.B.Denot) → g.B.Blocks.follows start l.fn.store → g.B.Blocks.follows start l.store;
  costs : Spends (l.units * puts_of (take l.p-index l.plan)) (puts_of (take l.p-index l.plan)) 0 (g.B.Blocks.account l.fn.store) (g.B.Blocks.account l.store);
  count : length l.changes.items ≡ l.p-index;
  stored : length (leaves_of l.changes.items) ≡ puts_of (take l.p-index l.plan);
  room : length l.plan ≤ vec_capacity l.changes;
  leaves : AreLeaves l.changes.items;
  changes : AreChangesFor (take l.p-index l.plan) l.changes.items;
  puts : (s : Stored) → g.B.Blocks.holds l.fn.store s → Now (g.B.Blocks.holds l.store) (λ n. PutsPlan l.units (take l.p-index l.plan) l.changes.items s n);
}
