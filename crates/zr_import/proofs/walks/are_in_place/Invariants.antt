use Rattle.std.proofs.Common.{◌≡◌, ◌+◌, ◌*◌, ◌<◌, ◌≤◌, ◌^◌, ℕ}
use Rattle.zr_tree.specs.Trees.{slot}
use Rattle.zr_import.specs.Shapes.{MayStand}
use Rattle.zr_import.proofs.walks.are_in_place.Given as goal

abbrev pub invariant-loop-p : goal.invariant-loop-p
invariant-loop-p l = record {
  at_is : l.at ≡ l.index + l.p-index * 32 ^ l.level;
  bound : l.at ≤ l.index + l.p-index * 1048576;
  so_far : (k : ℕ) → k < l.p-index → MayStand l.shape l.level (l.index + k * 32 ^ l.level) (slot l.pointers k);
}
