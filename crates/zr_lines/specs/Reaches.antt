-- Which ranges of an object a line may change.
use Rattle.std.specs.Prelude.{ℕ, ◌+◌, ◌-◌, ◌*◌, ◌/◌, Bool, ◌&&◌, nat_lt}
use Rattle.zr_change.specs.declared.ranges.Edit.{Edit}
use Rattle.zr_model.specs.Objects.{is_within}
use Rattle.zr_lines.specs.declared.range.Reach.{Reach}
use Rattle.zr_lines.specs.declared.range.Reach.TheVariants.{Fill, Write, Punch}

-- the blocks of the first and of the last byte
abbrev pub first_block : ℕ → Edit → ℕ
first_block units e = e.off / (4096 * units)

abbrev pub last_block : ℕ → Edit → ℕ
last_block units e = (e.off + e.len - 1) / (4096 * units)

-- the most blocks that a line may change: a write as many as an object has
abbrev pub most_blocks : Reach → ℕ
most_blocks Fill = 64
most_blocks Write = 33554432
most_blocks Punch = 64

-- the range lies within an object of this block size, and touches no more blocks than the line may change
abbrev pub is_in_reach : Reach → ℕ → Edit → Bool
is_in_reach reach units e = is_within units e.off e.len && nat_lt (last_block units e - first_block units e) (most_blocks reach)
