-- What the units of a device are used for, but for the free ones, which the allocator has.
use Rattle.std.specs.Prelude.{◌≡◌, ℕ, ◌+◌, ◌^◌, ◌<◌, Bool, true, false, nat_lt, List, []}
use Rattle.zr_base.specs.declared.space.Extent.{Extent}
use Rattle.zr_base.specs.Extents.{has_unit, unit_count, IsMaximal}
use Rattle.zr_rules.specs.Places.{one_if}

-- what a group has freed: units of blocks and units of metadata
pub record Freed : Type 0 where
  pub blocks : List Extent
  pub meta : List Extent

-- the same, with how many more changes of the units of blocks take no memory
pub record Waiting : Type 0 where
  pub sets : Freed
  pub spare : ℕ

-- The sets of a device. `born` is the part of `held` that the open group allocated, `kept` the part that only the checkpoint has, and `copies` the part that has
-- copies of a device that is leaving; `came` and `went` are what came to `kept` in the open group and what went from it. `freed` is what the open group has freed of
-- earlier groups' units, `late1` what the last group freed and `late2` what the one before it did. `meta` is metadata of the current root, `saved` that of the
-- saved one. `spare` is how many changes of the sets of blocks take no memory.
pub record Uses : Type 0 where
  pub units : ℕ
  pub held : List Extent
  pub born : List Extent
  pub kept : List Extent
  pub came : List Extent
  pub went : List Extent
  pub copies : List Extent
  pub freed : Freed
  pub late1 : Freed
  pub late2 : Freed
  pub meta : List Extent
  pub saved : List Extent
  pub spare : ℕ

abbrev pub none_freed : Freed
none_freed = record { blocks = []; meta = [] }

-- so many units of which none is used
abbrev pub unused : ℕ → Uses
unused units = record { units = units; held = []; born = []; kept = []; came = []; went = []; copies = []; freed = none_freed; late1 = none_freed; late2 = none_freed; meta = []; saved = []; spare = 0 }

-- all is the same but for the changes that take no memory
abbrev pub IsSameUses : Uses → Uses → Type 0
IsSameUses old new = new ≡ record old { spare = new.spare }

abbrev pub freed_hits : Freed → ℕ → ℕ
freed_hits f u = one_if (has_unit f.blocks u) + one_if (has_unit f.meta u)

abbrev pub freed_count : Freed → ℕ
freed_count f = unit_count f.blocks + unit_count f.meta

-- in how many of the sets that must be apart the unit is
abbrev pub use_hits : Uses → ℕ → ℕ
use_hits x u = one_if (has_unit x.held u) + freed_hits x.freed u + freed_hits x.late1 u + freed_hits x.late2 u + one_if (has_unit x.meta u) + one_if (has_unit x.saved u)

-- how many units are used
abbrev pub use_count : Uses → ℕ
use_count x = unit_count x.held + freed_count x.freed + freed_count x.late1 + freed_count x.late2 + unit_count x.meta + unit_count x.saved

pub record AreMaximal (f : Freed) : Type 0 where
  pub blocks : IsMaximal f.blocks
  pub meta : IsMaximal f.meta

-- each set is kept as its maximal extents
pub record HasLists (x : Uses) : Type 0 where
  pub held : IsMaximal x.held
  pub born : IsMaximal x.born
  pub kept : IsMaximal x.kept
  pub came : IsMaximal x.came
  pub went : IsMaximal x.went
  pub copies : IsMaximal x.copies
  pub freed : AreMaximal x.freed
  pub late1 : AreMaximal x.late1
  pub late2 : AreMaximal x.late2
  pub meta : IsMaximal x.meta
  pub saved : IsMaximal x.saved

-- What is kept is held and was not allocated by the open group. What came to it is kept, and what went from it is freed.
pub record IsKeeping (x : Uses) : Type 0 where
  pub held : (u : ℕ) → has_unit x.kept u ≡ true → has_unit x.held u ≡ true
  pub settled : (u : ℕ) → has_unit x.kept u ≡ true → has_unit x.born u ≡ false
  pub came : (u : ℕ) → has_unit x.came u ≡ true → has_unit x.kept u ≡ true
  pub went : (u : ℕ) → has_unit x.went u ≡ true → has_unit x.freed.blocks u ≡ true

-- copies are held, and not kept
pub record IsCopying (x : Uses) : Type 0 where
  pub held : (u : ℕ) → has_unit x.copies u ≡ true → has_unit x.held u ≡ true
  pub unkept : (u : ℕ) → has_unit x.copies u ≡ true → has_unit x.kept u ≡ false

-- each unit of the device is once free or in one of the sets, and they add up
pub record IsAccount (is_free : ℕ → Bool) (free : ℕ) (x : Uses) : Type 0 where
  pub once : (u : ℕ) → one_if (is_free u) + use_hits x u ≡ one_if (nat_lt u x.units)
  pub born : (u : ℕ) → has_unit x.born u ≡ true → has_unit x.held u ≡ true
  pub keeping : IsKeeping x
  pub copying : IsCopying x
  pub sum : free + use_count x ≡ x.units
  pub small : x.units < 2 ^ 40
  pub lists : HasLists x
