-- Units that pointers may still lead to, and blocks that are marked one after another.
use Rattle.std.specs.List.{filter}
use Rattle.std.specs.Prelude.{◌≡◌, ◌≢◌, ℕ, ◌≤◌, ◌<◌, nat_lt, ◌&&◌, List, [], ◌∷◌, slice_index_or, map, if◌then◌else◌}
use Rattle.zr_base.specs.declared.space.Dva.{Dva}
use Rattle.zr_bptr.specs.declared.Bptr.{Bptr}
use Rattle.zr_base.specs.declared.space.DevPart.{DevPart}
use Rattle.zr_base.specs.declared.space.DevRow.{DevRow}
use Rattle.zr_base.specs.declared.space.Extent.{Extent}
use Rattle.zr_base.specs.Extents.{HasAll, IsMaximal, RemovesUnits}
use Rattle.zr_rules.specs.Places.{is_on}
use Rattle.zr_ranges.specs.Ranges.{Ranges}

-- the units of the device with this index
abbrev pub units_at : List Ranges → ℕ → List Extent
units_at sets d = (slice_index_or sets d (record { extents = []; spare = 0 })).extents

-- the units of an address
abbrev pub extent_of : Dva → Extent
extent_of at = record { start = at.start; len = at.len }

-- some units, all of which are there
pub record Has (sets : List Ranges) (d : ℕ) (e : Extent) : Type 0 where
  pub some : 0 < e.len
  pub all : HasAll (units_at sets d) e

-- the units of the device are no longer there, and all others are
pub record Takes (old new : List Ranges) (d : ℕ) (e : Extent) : Type 0 where
  pub taken : RemovesUnits (units_at old d) (units_at new d) e
  pub others : (other : ℕ) → other ≢ d → units_at new other ≡ units_at old other

-- the units of the block are there
abbrev pub MayMeet : List Ranges → Bptr → Type 0
MayMeet sets b = Has sets b.at.dev (extent_of b.at)

-- the units of the block were there, and are no longer
pub record Meets (old new : List Ranges) (b : Bptr) : Type 0 where
  pub has : MayMeet old b
  pub takes : Takes old new b.at.dev (extent_of b.at)

-- These blocks were marked in order, each as a mark does it, and none is younger than the group.
abbrev pub MarksAll : {M : Type 0} → (M → M → Bptr → Type 0) → ℕ → M → M → List Bptr → Type 0
MarksAll Marks txg old new [] = new ≡ old
MarksAll {M} Marks txg old new (b ∷ bs) = (b.birth ≤ txg) × ((mid : M) × (Marks old mid b × MarksAll Marks txg mid new bs))

-- the blocks that were born behind a group
abbrev pub young_of : ℕ → List Bptr → List Bptr
young_of since bs = filter (λ (b : Bptr). nat_lt since b.birth) bs

-- each device's held units are maximal extents in order
abbrev pub HasMaximal : DevPart → Type 0
HasMaximal p = IsMaximal p.held

-- all units of a device in service, and none of another
abbrev pub serving_units : DevRow → List Extent
serving_units r = if is_on r.state && nat_lt 0 r.units then record { start = 0; len = r.units } ∷ [] else []

-- These blocks were marked, where at first just the units of devices in service could be.
pub record MarksServing (txg : ℕ) (rows : List DevRow) (blocks : List Bptr) : Type 0 where
  pub start : List Ranges
  pub left : List Ranges
  pub start_is : map (λ (r : Ranges). r.extents) start ≡ map serving_units rows
  pub marks : MarksAll Meets txg start left blocks
