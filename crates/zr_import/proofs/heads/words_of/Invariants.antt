use Rattle.std.proofs.Common.{◌≡◌, List, length, take, ℕ}
use Rattle.std.specs.List.{flat_map}
use Rattle.zr_base.specs.Words.{words}
use Rattle.zr_import.proofs.heads.words_of.Given as goal

abbrev pub invariant-loop-piece : goal.invariant-loop-piece
invariant-loop-piece l = record {
  count : length l.ns.items ≡ l.piece-index;
  words : words l.ns.items ≡ flat_map (λ (c : List ℕ). c) (take l.piece-index l.pieces);
}
