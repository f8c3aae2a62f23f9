-- What contracts see of an evacuation.
use Rattle.std.specs.Prelude.{◌≡◌, ℕ, ◌+◌, ◌≤◌, ◌<◌, ◌^◌, true, false, not, Bool, ◌&&◌, ◌||◌, ◌==◌, ◌-◌, nat_le, nat_lt, min, List, [], ◌∷◌, length, Option, Some, None, sum_by}
use Rattle.zr_base.specs.declared.space.Extent.{Extent}
use Rattle.zr_base.specs.declared.space.Entry.{Entry}
use Rattle.zr_base.specs.Extents.{has_unit, in_extent, extent_at, unit_count}
use Rattle.zr_rules.specs.Mappings.{has_source}
use Rattle.zr_rules.specs.Places.{one_if}

-- the mapping so far, its marked units, what is left to copy, the two frontiers, and how many changes take no memory
pub record Evacuation : Type 0 where
  pub dev : ℕ
  pub entries : List Entry
  pub marks : List Extent
  pub left : List Extent
  pub synced : ℕ
  pub opened : ℕ
  pub spare : ℕ

-- each entry ends at the unit or below it
abbrev pub EntriesEndBy : ℕ → List Entry → Type 0
EntriesEndBy u [] = Unit {0}
EntriesEndBy u (e ∷ es) = (e.src + e.len ≤ u) × EntriesEndBy u es

-- what was copied lies below the open frontier, and what is left from there on
pub record IsEvacuation (entries : List Entry) (left : List Extent) (synced opened : ℕ) : Type 0 where
  pub copied : EntriesEndBy opened entries
  pub uncopied : (u : ℕ) → u < opened → has_unit left u ≡ false
  pub order : synced ≤ opened
  pub bound : opened ≤ 2 ^ 62

-- the next piece to copy: the front of the lowest extent that is left, 256 units at most
abbrev pub next_of : List Extent → Option Extent
next_of [] = None
next_of (e ∷ es) = Some (record { start = e.start; len = min e.len 256 })

-- the extent is a front of the next piece
pub record IsFront (left : List Extent) (e : Extent) : Type 0 where
  pub some : 0 < length left
  pub start : e.start ≡ (extent_at left 0).start
  pub len : e.len ≤ (extent_at left 0).len
  pub short : e.len ≤ 256

-- each unit of the extent was copied or is left to copy
abbrev pub IsThere : Evacuation → Extent → Type 0
IsThere s e = (u : ℕ) → in_extent e u ≡ true → (has_source s.entries u || has_unit s.left u) ≡ true

-- units are freed: those below the open frontier are marked, and those above are left no more
pub record FreesUnits (old new : Evacuation) (e : Extent) : Type 0 where
  pub marks : (u : ℕ) → has_unit new.marks u ≡ (has_unit old.marks u || (in_extent e u && nat_lt u old.opened))
  pub left : (u : ℕ) → has_unit new.left u ≡ (has_unit old.left u && not (in_extent e u))
  pub count : unit_count new.marks + unit_count old.left ≡ unit_count old.marks + unit_count new.left + e.len
  pub entries : new.entries ≡ old.entries
  pub synced : new.synced ≡ old.synced
  pub opened : new.opened ≡ old.opened
  pub dev : new.dev ≡ old.dev

-- the unit has a copy of one of the first n units of the entry, and that unit is not marked
abbrev pub is_copy_in : List Extent → Entry → ℕ → ℕ → ℕ → Bool
is_copy_in marks e n d u = e.dev == d && (nat_le e.dst u && (nat_lt u (e.dst + n) && not (has_unit marks (e.src + (u - e.dst)))))

-- how many entries have a copy there of a unit that is not marked
abbrev pub copies_at : List Extent → List Entry → ℕ → ℕ → ℕ
copies_at marks es d u = sum_by (λ (e : Entry). one_if (is_copy_in marks e e.len d u)) es

-- the extent of the device has the unit
abbrev pub is_at : ℕ × Extent → ℕ → ℕ → Bool
is_at p d u = p.0 == d && in_extent p.1 u

-- how many of the extents have the unit of the device
abbrev pub hits_at : List (ℕ × Extent) → ℕ → ℕ → ℕ
hits_at [] d u = 0
hits_at (p ∷ ps) d u = one_if (is_at p d u) + hits_at ps d u

-- no extent is empty, and none ends above 2 ^ 62
abbrev pub AreLawful : List (ℕ × Extent) → Type 0
AreLawful [] = Unit {0}
AreLawful (p ∷ ps) = (0 < p.1.len) × (p.1.start + p.1.len ≤ 2 ^ 62) × AreLawful ps
