-- The obsolete units of a removed device beside its mapping.
use Rattle.std.specs.Prelude.{◌≡◌, ℕ, ◌+◌, ◌*◌, ◌/◌, ◌<◌, ◌≤◌, ◌==◌, true, List, length, slice_index, if◌then◌else◌}
use Rattle.zr_base.specs.declared.space.Extent.{Extent}
use Rattle.zr_base.specs.declared.space.Entry.{Entry}
use Rattle.zr_base.specs.Extents.{has_unit, unit_count}
use Rattle.zr_rules.specs.Mappings.{entry_at, has_source, mapped_units}
use Rattle.zr_rules.specs.Condense.{fresh_units}

-- the fresh units, how many more marks take no memory, and the counts
pub record Marks : Type 0 where
  pub fresh : List Extent
  pub spare : ℕ
  pub counts : List ℕ

-- each fresh unit has an entry
abbrev pub LiesIn : List Extent → List Entry → Type 0
LiesIn fresh entries = (u : ℕ) → has_unit fresh u ≡ true → has_source entries u ≡ true

-- no entry has more obsolete units than units
abbrev pub Fits : List Entry → List ℕ → List Extent → Type 0
Fits entries counts fresh = (i : ℕ) → i < length entries → slice_index counts i + fresh_units fresh (entry_at entries i) ≤ (entry_at entries i).len

-- how many of 100 units of the mapping are fresh, rounded down
abbrev pub percent_of : List Entry → List Extent → ℕ
percent_of entries fresh = if mapped_units entries == 0 then 0 else 100 * unit_count fresh / mapped_units entries
