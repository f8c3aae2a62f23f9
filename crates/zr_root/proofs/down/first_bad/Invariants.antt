use Rattle.std.proofs.Common.{◌≡◌, ◌<◌, ◌≤◌, ℕ}
use Rattle.zr_bptr.specs.declared.Ptr.TheVariants.{Hole}
use Rattle.zr_tree.specs.Trees.{slot}
use Rattle.zr_root.specs.Levels.{IsUnit}
use Rattle.zr_root.proofs.down.first_bad.Given as goal

abbrev pub invariant-loop-i : goal.invariant-loop-i
invariant-loop-i l = record {
  front : (j : ℕ) → j < l.i → j < l.n → IsUnit (slot l.pointers j);
  rest : (j : ℕ) → j < l.i → l.n ≤ j → slot l.pointers j ≡ Hole;
}
