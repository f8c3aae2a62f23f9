-- What contracts see of a RangeSet.
use Rattle.std.specs.Prelude.{◌≡◌, ℕ, ◌<◌, ◌≤◌, List, length, drop}
use Rattle.zr_base.specs.declared.space.Extent.{Extent}
use Rattle.zr_base.specs.Extents.{IsMaximal, unit_count, extent_at}
use Rattle.zr_ranges.specs.declared.words.Words.{Words}
use Rattle.zr_ranges.specs.Words.{AreSetWords}

-- the maximal extents of the set in order, and how many changes take no memory
pub record Ranges : Type 0 where
  pub extents : List Extent
  pub spare : ℕ

-- the runs from the index on are maximal and in order, and their units and words are counted
pub record IsKept (runs : List Extent) (from units : ℕ) (w : Words) : Type 0 where
  pub within : from ≤ length runs
  pub maximal : IsMaximal (drop from runs)
  pub counted : units ≡ unit_count (drop from runs)
  pub words : AreSetWords w (drop from runs)

-- one of the extents has so many units
pub record HasRunOf (runs : List Extent) (n : ℕ) : Type 0 where
  pub index : ℕ
  pub inside : index < length runs
  pub as_long : (extent_at runs index).len ≡ n
