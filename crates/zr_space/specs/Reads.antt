-- What is read of a root's sets.
use Rattle.std.specs.Prelude.{◌≡◌, ℕ, ◌+◌, ◌≤◌, ◌<◌, ◌^◌, ◌||◌, ◌&&◌, true, false, nat_le, nat_lt, List, [], length, replicate, All}
use Rattle.zr_base.specs.declared.space.Extent.{Extent}
use Rattle.zr_base.specs.declared.space.Dva.{Dva}
use Rattle.zr_base.specs.declared.space.LateRun.{LateRun}
use Rattle.zr_base.specs.declared.space.DevPart.{DevPart}
use Rattle.zr_base.specs.declared.space.DevRow.{DevRow}
use Rattle.zr_base.specs.declared.space.Entry.{Entry}
use Rattle.zr_base.specs.declared.space.DevState.TheVariants.{On, Leaving}
use Rattle.zr_base.specs.Extents.{has_unit, unit_count, IsMaximal, EndsBy}
use Rattle.zr_rules.specs.Places.{one_if, address_hits, hits_late}
use Rattle.zr_rules.specs.Mappings.{IsRising, end_of_last, has_source}
use Rattle.zr_rules.specs.Space.{IsSet}
use Rattle.zr_units.specs.Apart.{AreSetsApart, IsWithin}
use Rattle.zr_units.specs.Uses.{Uses, Freed, AreMaximal, HasLists, none_freed, use_hits, use_count, freed_count}
use Rattle.zr_units.specs.Changes.{has_freed}
use Rattle.zr_indirect.specs.Mapped.{Mapped, HasCounts}
use Rattle.zr_space.specs.Views.{EndsWithin, IsMoved, late_runs, units_there}

-- the extents are those of a set of so many units, none of which is used already
pub record CanRead (extents used : List Extent) (units : ℕ) : Type 0 where
  pub maximal : IsMaximal extents
  pub within : EndsBy units extents
  pub apart : AreSetsApart extents used

-- their units are used from now on
pub record Marks (extents old new : List Extent) : Type 0 where
  pub members : (u : ℕ) → has_unit new u ≡ (has_unit old u || has_unit extents u)
  pub count : unit_count new ≡ unit_count old + unit_count extents

-- the late set can be read: each of its units is used once
pub record CanReadLate (f : Freed) (used : List Extent) (units : ℕ) : Type 0 where
  pub blocks : CanRead f.blocks used units
  pub meta : CanRead f.meta used units
  pub apart : AreSetsApart f.blocks f.meta

pub record MarksLate (f : Freed) (old new : List Extent) : Type 0 where
  pub members : (u : ℕ) → has_unit new u ≡ (has_unit old u || has_freed f u)
  pub count : unit_count new ≡ unit_count old + freed_count f

-- the runs list this late set: its blocks first
abbrev pub IsListed : List LateRun → Freed → Type 0
IsListed runs f = late_runs f ≡ runs

-- each unit of metadata on the device is one of its units, there once and not used otherwise
abbrev pub CanReadMeta : List Dva → ℕ → List Extent → ℕ → Type 0
CanReadMeta list dev used units = (u : ℕ) → address_hits list dev u + one_if (has_unit used u) ≤ one_if (nat_lt u units)

-- the metadata of a device is read, and its units are used from now on
pub record ReadsMeta (list : List Dva) (dev : ℕ) (old new : Uses) (used_old used_new : List Extent) : Type 0 where
  pub others : new ≡ record old { meta = new.meta; spare = new.spare }
  pub maximal : IsMaximal new.meta
  pub hits : (u : ℕ) → address_hits list dev u ≡ one_if (has_unit new.meta u)
  pub apart : AreSetsApart new.meta used_old
  pub within : IsWithin new.meta old.units
  pub used : Marks new.meta used_old used_new

-- the set has the units of the metadata that lies on the device, each of which is there once
abbrev pub HasMeta : List Dva → ℕ → List Extent → Type 0
HasMeta list dev es = (u : ℕ) → address_hits list dev u ≡ one_if (has_unit es u)

-- the entries rise, and their sources lie within so many units
pub record AreEntries (units : ℕ) (entries : List Entry) : Type 0 where
  pub rising : IsRising entries
  pub within : All (EndsWithin units) entries

-- The mapping of a device goes together: its entries rise within the device, each has its count, and what is obsolete lies in them. A device in service has no
-- entries, and of one that is leaving none is counted.
pub record IsMapped (p : DevPart) : Type 0 where
  pub entries : AreEntries p.row.units p.entries
  pub counts : HasCounts p.entries p.counts p.fresh
  pub service : p.row.state ≡ On → p.entries ≡ []
  pub leaving : p.row.state ≡ Leaving → p.counts ≡ replicate (length p.entries) 0

-- What is read of the mapping is what a root records, with nothing opened. A device that is leaving goes on at the end of its last entry: what it holds from there on is
-- left to copy.
pub record IsReadMapping (p : DevPart) (m : Mapped) : Type 0 where
  pub moved : IsMoved p.row m
  pub entries : m.entries ≡ p.entries
  pub counts : m.counts ≡ p.counts
  pub fresh : m.fresh ≡ p.fresh
  pub came : m.came ≡ []
  pub went : m.went ≡ []
  pub opened : p.row.state ≡ Leaving → m.opened ≡ end_of_last p.entries
  pub synced : p.row.state ≡ Leaving → m.synced ≡ end_of_last p.entries
  pub left : p.row.state ≡ Leaving → (u : ℕ) → has_unit m.left u ≡ (has_unit p.held u && nat_le (end_of_last p.entries) u)

-- each unit that is held below the frontier has an entry, and no mark
abbrev pub AreCopied : List Entry → List Extent → List Extent → ℕ → Type 0
AreCopied entries marks held frontier = (u : ℕ) → has_unit held u ≡ true → u < frontier → (has_source entries u ≡ true) × (has_unit marks u ≡ false)

-- each unit of the one set is in the other
abbrev pub IsAmong : List Extent → List Extent → Type 0
IsAmong es all = (u : ℕ) → has_unit es u ≡ true → has_unit all u ≡ true

-- the extents are those of a set of kept units
pub record CanKeep (extents held : List Extent) (units : ℕ) : Type 0 where
  pub maximal : IsMaximal extents
  pub within : EndsBy units extents
  pub among : IsAmong extents held

-- the runs list the maximal extents of a late set
pub record IsLateSet (runs : List LateRun) : Type 0 where
  pub freed : Freed
  pub listed : IsListed runs freed
  pub maximal : AreMaximal freed

-- The device can be read with the metadata of both roots, if that lies at this index: its mapping goes together, its sets are as a root records them, and no unit has two
-- uses. A device that is gone has no units.
pub record CanReadPart (p : DevPart) (meta saved : List Dva) (dev : ℕ) : Type 0 where
  pub small : p.row.units < 2 ^ 40
  pub mapped : IsMapped p
  pub fresh : IsSet p.row.units p.fresh
  pub held : IsSet (units_there p.row) p.held
  pub kept : CanKeep p.kept p.held (units_there p.row)
  pub late1 : IsLateSet p.late1
  pub late2 : IsLateSet p.late2
  pub once : (u : ℕ) → one_if (has_unit p.held u) + hits_late p.late1 u + hits_late p.late2 u + address_hits meta dev u + address_hits saved dev u ≤ one_if (nat_lt u (units_there p.row))

-- the sets are those that a root records of the device
pub record AreSetsOf (p : DevPart) (x : Uses) : Type 0 where
  pub held : x.held ≡ p.held
  pub kept : x.kept ≡ p.kept
  pub late1 : late_runs x.late1 ≡ p.late1
  pub late2 : late_runs x.late2 ≡ p.late2

-- what is read of a device's units: no unit has two uses, and those that have one are gathered
pub record IsRead (r : DevRow) (x : Uses) (used : List Extent) : Type 0 where
  pub row_units : x.units ≡ units_there r
  pub small : r.units < 2 ^ 40
  pub born : x.born ≡ []
  pub kept : IsMaximal x.kept
  pub among : IsAmong x.kept x.held
  pub came : x.came ≡ []
  pub went : x.went ≡ []
  pub copies : x.copies ≡ []
  pub freed : x.freed ≡ none_freed
  pub once : (u : ℕ) → use_hits x u ≡ one_if (has_unit used u)
  pub within : IsWithin used x.units
  pub count : use_count x ≡ unit_count used
  pub lists : HasLists x
