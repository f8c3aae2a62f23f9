-- A mapping without the entries of which every unit is obsolete.
use Rattle.std.specs.Prelude.{◌≡◌, ℕ, ◌+◌, ◌*◌, ◌≤◌, ◌==◌, Bool, not, ◌&&◌, nat_le, nat_lt, List, map, length, take}
use Rattle.std.specs.List.{filter, zip}
use Rattle.zr_base.specs.declared.space.Extent.{Extent}
use Rattle.zr_base.specs.declared.space.Entry.{Entry}
use Rattle.zr_base.specs.declared.space.DevPart.{DevPart}
use Rattle.zr_base.specs.declared.space.CondPart.{CondPart}
use Rattle.zr_base.specs.Extents.{has_unit, unit_count}
use Rattle.zr_rules.specs.Places.{count_below}
use Rattle.zr_rules.specs.Mappings.{mapped_units}

-- an entry with a unit that is not obsolete
abbrev pub is_used : Entry × ℕ → Bool
is_used e = not (e.1 == e.0.len)

-- the entries with a unit that is not obsolete, in order, with their counts
abbrev pub condensed : List Entry → List ℕ → List (Entry × ℕ)
condensed entries counts = filter is_used (zip entries counts)

-- how many units of the entry are in the set
abbrev pub fresh_units : List Extent → Entry → ℕ
fresh_units fresh e = count_below e.len (λ k. has_unit fresh (e.src + k))

-- each count, and the fresh units of its entry
abbrev pub folded : List Entry → List ℕ → List Extent → List ℕ
folded entries counts fresh = map (λ (e : Entry × ℕ). e.1 + fresh_units fresh e.0) (zip entries counts)

-- a quarter of the mapping is obsolete, and some of it since it was last counted
abbrev pub is_due : DevPart → Bool
is_due p = nat_lt 0 (unit_count p.fresh) && nat_le (25 * mapped_units p.entries) (100 * unit_count p.fresh)

-- what is worked through so far, without the entries that are obsolete
pub record IsWorked (p : DevPart) (c : CondPart) : Type 0 where
  pub within : c.at ≤ length p.entries
  pub kept : zip c.entries c.counts ≡ condensed (take c.at p.entries) (take c.at p.counts)
  pub each : length c.counts ≡ length c.entries
