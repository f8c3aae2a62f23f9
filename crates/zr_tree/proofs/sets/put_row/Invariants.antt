use Rattle.std.proofs.Common.{◌≡◌, ◌/◌, ◌+◌, ◌-◌, ◌<◌, ◌≤◌, ◌⊎◌, ℕ, suc, length, take, get_or}
use Rattle.std.specs.Prelude.{All}
use Rattle.std.specs.Int.{div_ceil}
use Rattle.zr_bptr.specs.declared.Ptr.{Ptr}
use Rattle.zr_bptr.specs.declared.Ptr.TheVariants.{Hole}
use Rattle.zr_store.specs.Causes.{Costs}
use Rattle.zr_store.specs.Store.{Stored, Now, AreStored}
use Rattle.zr_tree.specs.Trees.{AllAt, AreBelow, AreOfLevel, EndsInUnit, Rises, PutsRow, blocks}
use Rattle.zr_tree.proofs.sets.put_row.Given as goal

abbrev pub invariant-loop-from : goal.invariant-loop-from
invariant-loop-from g l = record {
  within : l.from ≤ length l.changes;
  few : length l.row.items ≤ l.from;
  one : AllAt 1 0 l.changes → (length l.row.items ≡ 0) ⊎ ((l.from ≡ length l.changes) × (length l.row.items ≡ 1));
  some : 0 < l.from → 0 < length l.row.items;
  count : length l.old.items ≤ length l.fn.old.items + length l.row.items;
  none : l.t.root ≡ Hole → length l.old.items ≤ length l.fn.old.items;
  follows : (start : g.row.B.Denot) → g.B.Blocks.follows start l.fn.store → g.B.Blocks.follows start l.store;
  costs : Costs (length l.row.items) 0 (g.B.Blocks.account l.fn.store) (g.B.Blocks.account l.store);
  leaves : AreOfLevel (l.below + 1) l.row.items;
  unit : EndsInUnit l.changes → l.from ≡ length l.changes → EndsInUnit l.row.items;
  room : (level : ℕ) → AllAt (suc level) 0 l.changes → AllAt level 0 l.row.items;
  rises : Rises l.row.items;
  below : (n : ℕ) → AreBelow n l.changes → AreBelow (div_ceil n 32) l.row.items;
  row_below : l.from < length l.changes → All (λ (change : ℕ × Ptr). change.0 < (get_or l.changes l.from (0, Hole)).0 / 32) l.row.items;
  done_below : l.from < length l.changes → All (λ (change : ℕ × Ptr). change.0 / 32 < (get_or l.changes l.from (0, Hole)).0 / 32) (take l.from l.changes);
  puts : (s : Stored) → g.B.Blocks.holds l.fn.store s → AreStored (blocks s (suc l.t.height) l.t.root) s → Now (g.B.Blocks.holds l.store) (λ n. PutsRow (take l.from l.changes) l.row.items s n l.t l.fn.old.items l.old.items);
}

abbrev pub decreases-loop-from : goal.decreases-loop-from
decreases-loop-from g l = length l.changes - l.from
