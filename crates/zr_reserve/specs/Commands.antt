-- What a command does to the space: blocks are put and freed.
use Rattle.std.specs.Prelude.{◌≡◌, ℕ, ◌+◌, ◌*◌, ◌≤◌}
use Rattle.zr_base.specs.declared.space.Dva.{Dva}
use Rattle.zr_base.specs.declared.space.Policy.{Policy}
use Rattle.zr_base.specs.declared.space.Sizes.{Sizes}
use Rattle.zr_rules.specs.Columns.{free_units, sizes}
use Rattle.zr_rules.specs.Equation.{devices_in}
use Rattle.zr_rules.specs.Frees.{Allocates, Frees}
use Rattle.zr_rules.specs.Space.{Space, IsLawful}
use Rattle.zr_rules.specs.Steps.{touch}
use Rattle.zr_reckon.specs.Pieces.{IsFreeable}

-- a block of so many units is put, or one is freed that touches so many pieces
pub data Change : Type 0 where
  Put : ℕ → Change
  Freed : ℕ → Change

abbrev pub Changes : Change → Space → Space → Type 0
Changes (Put units) old new = (policy : Policy) × (at : Dva) × Allocates policy units old new at
Changes (Freed pieces) old new = (a : Dva) × (birth : ℕ) × Frees old new a birth × IsFreeable old a × (a.len ≤ 32768) × (touch (devices_in old) a ≡ pieces)

abbrev pub units_put : Change → ℕ
units_put (Put units) = units
units_put _ = 0

-- a block that comes is one piece
abbrev pub pieces_touched : Change → ℕ
pieces_touched (Freed pieces) = pieces
pieces_touched _ = 1

-- blocks of so many units were put, and so many pieces touched
pub record HasChanged (old new : Space) (units pieces : ℕ) : Type 0 where
  pub lawful : IsLawful new
  pub free : free_units old ≤ free_units new + units
  pub words : (sizes new 0 0).words ≤ (sizes old 0 0).words + 4 * pieces
  pub uncopied : (sizes new 0 0).uncopied ≤ (sizes old 0 0).uncopied
  pub others : sizes new 0 0 ≡ record (sizes old 0 0) { words = (sizes new 0 0).words; uncopied = (sizes new 0 0).uncopied }

-- the counts with four words more for each piece
abbrev pub with_pieces : Sizes → ℕ → Sizes
with_pieces s pieces = record s { words = s.words + 4 * pieces }
