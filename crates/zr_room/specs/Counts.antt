-- The counts from which the room is computed, with those of a command.
use Rattle.std.specs.Prelude.{ℕ, ◌+◌, ◌*◌}
use Rattle.zr_base.specs.declared.space.Sizes.{Sizes}
use Rattle.zr_rules.specs.Space.{Space}
use Rattle.zr_rules.specs.Columns.{sizes}

-- the counts of the space, with so many changed blocks and objects, and four words more for each piece
abbrev pub sizes_with : Space → ℕ → ℕ → ℕ → Sizes
sizes_with s blocks objects pieces = let counted = sizes s blocks objects in record counted { words = counted.words + 4 * pieces }
