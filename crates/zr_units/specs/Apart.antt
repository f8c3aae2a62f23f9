-- Sets without a common unit.
use Rattle.std.specs.Prelude.{◌≡◌, ℕ, ◌<◌, Bool, true, false, List}
use Rattle.zr_base.specs.declared.space.Extent.{Extent}
use Rattle.zr_base.specs.Extents.{has_unit, in_extent}

-- no unit of the set passes the test
abbrev pub AreApart : List Extent → (ℕ → Bool) → Type 0
AreApart es test = (u : ℕ) → has_unit es u ≡ true → test u ≡ false

abbrev pub AreSetsApart : List Extent → List Extent → Type 0
AreSetsApart a b = AreApart a (has_unit b)

-- each unit of the set is below this one
abbrev pub IsWithin : List Extent → ℕ → Type 0
IsWithin es units = (u : ℕ) → has_unit es u ≡ true → u < units

-- all units of the extent are in the set, or none, as is told
abbrev pub IsUniform : List Extent → Extent → Bool → Type 0
IsUniform es e inside = (u : ℕ) → in_extent e u ≡ true → has_unit es u ≡ inside
