use Rattle.std.proofs.Common.{◌≡◌, ◌+◌, length, take}
use Rattle.std.specs.Prelude.{All}
use Rattle.zr_store.specs.Causes.{Costs}
use Rattle.zr_store.specs.Store.{Stored, Now}
use Rattle.zr_root.specs.Streams.{IsUnitAt, PutsBlocks}
use Rattle.zr_root.proofs.levels.put_groups.Given as goal

abbrev pub invariant-loop-piece : goal.invariant-loop-piece
invariant-loop-piece g l = record {
  follows : (start : g.row.B.Denot) → g.B.Blocks.follows start l.fn.store → g.B.Blocks.follows start l.store;
  adds : (start : g.row.B.Denot) → g.B.Blocks.adds start l.fn.store → g.B.Blocks.adds start l.store;
  costs : Costs l.piece-index 0 (g.B.Blocks.account l.fn.store) (g.B.Blocks.account l.store);
  count : length l.tops.items ≡ l.piece-index;
  fit : All (IsUnitAt (l.below + 1)) l.tops.items;
  puts : (s : Stored) → g.B.Blocks.holds l.fn.store s → Now (g.B.Blocks.holds l.store) (λ n. PutsBlocks l.below (take l.piece-index l.pieces) s n l.tops.items);
}
