-- What contracts see of what a device has beside its units while it is given up.
use Rattle.std.specs.Prelude.{◌≡◌, ℕ, ◌+◌, ◌*◌, ◌≤◌, ◌<◌, ◌^◌, Bool, true, false, List, [], length, replicate, min}
use Rattle.zr_base.specs.declared.space.Extent.{Extent}
use Rattle.zr_base.specs.declared.space.Entry.{Entry}
use Rattle.zr_base.specs.declared.space.DevState.{DevState}
use Rattle.zr_base.specs.declared.space.DevState.TheVariants as row
use Rattle.zr_base.specs.Extents.{has_unit, in_extent, IsMaximal}
use Rattle.zr_rules.specs.Places.{no_part}
use Rattle.zr_rules.specs.Condense.{is_due}
use Rattle.zr_rules.specs.Owed.{set_words}
use Rattle.zr_rules.specs.Mappings.{IsRising, end_of_last, has_source}
use Rattle.zr_ranges.specs.Ranges.{Ranges}
use Rattle.zr_evac.specs.Evacuations.{Evacuation}
use Rattle.zr_obsolete.specs.Obsolete.{Fits, LiesIn}
use Rattle.zr_units.specs.Apart.{AreSetsApart}

-- The entries of the mapping with the obsolete units that are counted for each, and the obsolete units that are not counted yet: while a device leaves, the units that
-- were copied and then freed. `came` and `went` are what came to these in the open group and what went from them. Of a device that leaves, what is left to copy, and the
-- frontiers below which a root has the entries, and below which all is copied. `spare` is how many changes take no memory.
pub record Mapped : Type 0 where
  pub state : DevState
  pub entries : List Entry
  pub counts : List ℕ
  pub fresh : List Extent
  pub came : List Extent
  pub went : List Extent
  pub left : List Extent
  pub synced : ℕ
  pub opened : ℕ
  pub spare : ℕ

-- a device in service has nothing of it
abbrev pub in_service : Mapped
in_service = record { state = row.On; entries = []; counts = []; fresh = []; came = []; went = []; left = []; synced = 0; opened = 0; spare = 0 }

-- an evacuation, and what was marked in the open group
abbrev pub leaving_of : Evacuation → Ranges → Mapped
leaving_of evac came =
    record {
      state = row.Leaving;
      entries = evac.entries;
      counts = replicate (length evac.entries) 0;
      fresh = evac.marks;
      came = came.extents;
      went = [];
      left = evac.left;
      synced = evac.synced;
      opened = evac.opened;
      spare = min evac.spare came.spare;
    }

-- a mapping, its counts, and the fresh obsolete units with what came to them and what went
abbrev pub gone_of : List Entry → List ℕ → Ranges → Ranges → Ranges → Mapped
gone_of entries counts fresh came went =
    record {
      state = row.Gone;
      entries = entries;
      counts = counts;
      fresh = fresh.extents;
      came = came.extents;
      went = went.extents;
      left = [];
      synced = 0;
      opened = 0;
      spare = min fresh.spare (min came.spare went.spare);
    }

-- each unit of the one set is in the other
abbrev pub IsPart : List Extent → List Extent → Type 0
IsPart part all = (u : ℕ) → has_unit part u ≡ true → has_unit all u ≡ true

-- each unit of the extent has an entry
abbrev pub HasEntries : List Entry → Extent → Type 0
HasEntries entries e = (u : ℕ) → in_extent e u ≡ true → has_source entries u ≡ true

-- the marks are of units that were copied, and what came to them is among them
pub record HasMarks (entries : List Entry) (fresh came : List Extent) (opened : ℕ) : Type 0 where
  pub frontier : opened ≡ end_of_last entries
  pub sources : LiesIn fresh entries
  pub came_is : IsPart came fresh

-- each entry has a count, and no more obsolete units than units
pub record HasCounts (entries : List Entry) (counts : List ℕ) (fresh : List Extent) : Type 0 where
  pub each : length counts ≡ length entries
  pub sources : LiesIn fresh entries
  pub fits : Fits entries counts fresh

-- what came is fresh, and what went is not
pub record IsTurned (fresh came went : List Extent) : Type 0 where
  pub came_is : IsPart came fresh
  pub went_is : AreSetsApart fresh went

-- A device that leaves: what was copied lies below the open frontier, and what is left from there on.
pub record IsLeaving (m : Mapped) : Type 0 where
  pub marks : HasMarks m.entries m.fresh m.came m.opened
  pub counts : m.counts ≡ replicate (length m.entries) 0
  pub rising : IsRising m.entries
  pub uncopied : (u : ℕ) → u < m.opened → has_unit m.left u ≡ false
  pub order : m.synced ≤ m.opened
  pub bound : m.opened ≤ 2 ^ 62
  pub fresh_maximal : IsMaximal m.fresh
  pub came_maximal : IsMaximal m.came
  pub left_maximal : IsMaximal m.left
  pub went_none : m.went ≡ []

-- A device that is gone.
pub record IsGone (m : Mapped) : Type 0 where
  pub counts : HasCounts m.entries m.counts m.fresh
  pub turned : IsTurned m.fresh m.came m.went
  pub rising : IsRising m.entries
  pub fresh_maximal : IsMaximal m.fresh
  pub came_maximal : IsMaximal m.came
  pub went_maximal : IsMaximal m.went
  pub left_none : m.left ≡ []
  pub synced_none : m.synced ≡ 0
  pub opened_none : m.opened ≡ 0

-- a quarter of the mapping is fresh
abbrev pub is_mapping_due : Mapped → Bool
is_mapping_due m = is_due (record no_part { entries = m.entries; fresh = m.fresh })

-- the words of the entries and of the marks or the fresh units, were they written anew
abbrev pub mapped_words : ℕ → Mapped → ℕ
mapped_words version m = 8 * length m.entries + set_words version m.fresh
