-- What happens to the mapping of a device.
use Rattle.std.specs.Prelude.{◌≡◌, ℕ, ◌+◌, Bool, true, not, ◌&&◌, ◌||◌, nat_le, nat_lt, List, [], ◌∷◌, ◌++◌, length, replicate}
use Rattle.zr_base.specs.declared.space.Extent.{Extent}
use Rattle.zr_base.specs.declared.space.Entry.{Entry}
use Rattle.zr_base.specs.declared.space.Change.{Change}
use Rattle.zr_base.specs.declared.space.DevState.TheVariants as row
use Rattle.zr_base.specs.Extents.{has_unit, in_extent, unit_count, AddsUnits, RemovesUnits}
use Rattle.zr_rules.specs.Mappings.{end_of_last, has_source}
use Rattle.zr_rules.specs.Condense.{folded}
use Rattle.zr_rules.specs.Space.{was_in}
use Rattle.zr_units.specs.Differences.{IsDifference, IsMerged, Replays}
use Rattle.zr_indirect.specs.Mapped.{Mapped}

-- An evacuation goes on at the end of the last entry, where both frontiers then are: what is left is what the device holds from there on.
pub record GoesOn (entries : List Entry) (marks held : List Extent) (m : Mapped) : Type 0 where
  pub all : m ≡ record {
    state = row.Leaving;
    entries = entries;
    counts = replicate (length entries) 0;
    fresh = marks;
    came = [];
    went = [];
    left = m.left;
    synced = end_of_last entries;
    opened = end_of_last entries;
    spare = m.spare;
  }
  pub left_is : (u : ℕ) → has_unit m.left u ≡ (has_unit held u && nat_le (end_of_last entries) u)

-- a front of what is left was copied
pub record CopiesFront (old new : Mapped) (e : Extent) (dev dst : ℕ) : Type 0 where
  pub entries : new.entries ≡ old.entries ++ record { src = e.start; dev = dev; dst = dst; len = e.len } ∷ []
  pub counts : new.counts ≡ old.counts ++ 0 ∷ []
  pub left_is : RemovesUnits old.left new.left e
  pub opened : new.opened ≡ e.start + e.len
  pub others : new ≡ record old { entries = new.entries; counts = new.counts; left = new.left; opened = new.opened; spare = new.spare }

-- each unit of the extent was copied or is left to copy
abbrev pub IsCopiedOrLeft : Mapped → Extent → Type 0
IsCopiedOrLeft m e = (u : ℕ) → in_extent e u ≡ true → (has_source m.entries u || has_unit m.left u) ≡ true

-- units of a device that leaves are freed: those below the open frontier are marked, and those above are left no more
pub record FreesCopied (old new : Mapped) (e : Extent) : Type 0 where
  pub fresh : (u : ℕ) → has_unit new.fresh u ≡ (has_unit old.fresh u || (in_extent e u && nat_lt u old.opened))
  pub came : (u : ℕ) → has_unit new.came u ≡ (has_unit old.came u || (in_extent e u && nat_lt u old.opened))
  pub left_is : (u : ℕ) → has_unit new.left u ≡ (has_unit old.left u && not (in_extent e u))
  pub count : unit_count new.fresh + unit_count old.left ≡ unit_count old.fresh + unit_count new.left + e.len
  pub others : new ≡ record old { fresh = new.fresh; came = new.came; left = new.left; spare = new.spare }

-- units of a device that is gone are passed no more: they become fresh, and come to the log but where they went from it in the same group
pub record MarksUnits (old new : Mapped) (e : Extent) : Type 0 where
  pub fresh : AddsUnits old.fresh new.fresh e
  pub came : (u : ℕ) → has_unit new.came u ≡ (has_unit old.came u || (in_extent e u && not (has_unit old.went u)))
  pub went : (u : ℕ) → has_unit new.went u ≡ (has_unit old.went u && not (in_extent e u))
  pub others : new ≡ record old { fresh = new.fresh; came = new.came; went = new.went; spare = new.spare }

-- the fresh units are counted, and go from the log but where they came to it in the same group
pub record FoldsFresh (old new : Mapped) : Type 0 where
  pub counts : new.counts ≡ folded old.entries old.counts old.fresh
  pub fresh : new.fresh ≡ []
  pub came : new.came ≡ []
  pub went : (u : ℕ) → has_unit new.went u ≡ (has_unit old.went u || (has_unit old.fresh u && not (has_unit old.came u)))
  pub others : new ≡ record old { counts = new.counts; fresh = new.fresh; came = new.came; went = new.went; spare = new.spare }

-- the unit is marked or fresh in the current root
abbrev pub was_fresh_in : Mapped → ℕ → Bool
was_fresh_in m u = was_in (has_unit m.fresh u) (record { came = m.came; went = m.went }) u

-- what the current root has as marked or fresh is the same
abbrev pub KeepsRoot : Mapped → Mapped → Type 0
KeepsRoot old new = (u : ℕ) → was_fresh_in new u ≡ was_fresh_in old u

-- The changes take what came and give back what went. They lead from the set of the current root to the one now.
pub record GainsFresh (m : Mapped) (changes : List Change) : Type 0 where
  pub merged : IsMerged m.came m.went changes
  pub difference : IsDifference (was_fresh_in m) (has_unit m.fresh) changes
  pub replays : Replays (was_fresh_in m) (has_unit m.fresh) changes
