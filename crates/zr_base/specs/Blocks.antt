-- The sizes of blocks.
use Rattle.std.specs.Prelude.{ℕ, Bool, ◌||◌, ◌==◌}

-- a block has 1, 2, 4, 8, 16 or 32 units
abbrev pub is_block_size : ℕ → Bool
is_block_size units = units == 1 || units == 2 || units == 4 || units == 8 || units == 16 || units == 32
