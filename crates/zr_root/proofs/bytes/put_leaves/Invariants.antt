use Rattle.std.proofs.Common.{◌≡◌, length, take}
use Rattle.std.specs.Prelude.{All}
use Rattle.zr_store.specs.Causes.{Costs}
use Rattle.zr_store.specs.Store.{Stored, Now}
use Rattle.zr_root.specs.Streams.{IsUnitAt, PutsLeaves}
use Rattle.zr_root.proofs.bytes.put_leaves.Given as goal

abbrev pub invariant-loop-piece : goal.invariant-loop-piece
invariant-loop-piece g l = record {
  follows : (start : g.row.B.Denot) → g.B.Blocks.follows start l.fn.store → g.B.Blocks.follows start l.store;
  adds : (start : g.row.B.Denot) → g.B.Blocks.adds start l.fn.store → g.B.Blocks.adds start l.store;
  costs : Costs l.piece-index 0 (g.B.Blocks.account l.fn.store) (g.B.Blocks.account l.store);
  count : length l.leaves.items ≡ l.piece-index;
  units : All (IsUnitAt 0) l.leaves.items;
  puts : (s : Stored) → g.B.Blocks.holds l.fn.store s → Now (g.B.Blocks.holds l.store) (λ n. PutsLeaves (take l.piece-index l.pieces) s n l.leaves.items);
}
