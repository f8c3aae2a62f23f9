-- A set with the units of one extent more, or without them.
use Rattle.std.specs.Prelude.{◌≡◌, ℕ, not, ◌&&◌, ◌||◌, List}
use Rattle.zr_base.specs.declared.space.Extent.{Extent}
use Rattle.zr_base.specs.Extents.{in_extent, has_unit, IsMaximal}

-- the new set is the old one with the units of the extent, of which it may have had some
pub record IsWith (old new : List Extent) (e : Extent) : Type 0 where
  pub old_maximal : IsMaximal old
  pub new_maximal : IsMaximal new
  pub members : (u : ℕ) → has_unit new u ≡ (has_unit old u || in_extent e u)

-- the new set is the old one without the units of the extent, of which it may have had none
pub record IsWithout (old new : List Extent) (e : Extent) : Type 0 where
  pub old_maximal : IsMaximal old
  pub new_maximal : IsMaximal new
  pub members : (u : ℕ) → has_unit new u ≡ (has_unit old u && not (in_extent e u))
