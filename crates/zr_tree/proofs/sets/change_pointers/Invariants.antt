use Rattle.std.proofs.Common.{◌≡◌, ◌%◌, ℕ, suc, length, take, get_or}
use Rattle.std.specs.Prelude.{All}
use Rattle.zr_bptr.specs.declared.Ptr.TheVariants.{Hole}
use Rattle.zr_tree.specs.Blocks.{FitsAt}
use Rattle.zr_tree.specs.Trees.{AllAt, AreOfLevel, SetsPointers, slot}
use Rattle.zr_tree.proofs.sets.change_pointers.Given as goal

abbrev pub invariant-loop-change : goal.invariant-loop-change
invariant-loop-change l = record {
  count : length l.pointers.items ≡ 32;
  fit : (level : ℕ) → All (FitsAt level) l.fn.pointers.items → AreOfLevel level l.changes → All (FitsAt level) l.pointers.items;
  last : (n : ℕ) → l.change-index ≡ suc n → slot l.pointers.items ((get_or l.changes n (0, Hole)).0 % 32) ≡ (get_or l.changes n (0, Hole)).1;
  sets : (place : ℕ) → AllAt 1 place l.changes → SetsPointers place (take l.change-index l.changes) l.fn.pointers.items l.pointers.items;
}
