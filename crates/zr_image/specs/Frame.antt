-- The bytes of the disks on which the meaning of a root rests.
use Rattle.std.specs.Prelude.{◌≡◌, ◌⊎◌, ℕ, ◌+◌, ◌<◌, true, false, List, length, slice_index_or, Option, Some, None, Ok}
use Rattle.zr_base.specs.Extents.{has_unit}
use Rattle.zr_base.specs.declared.space.DevPart.{DevPart}
use Rattle.zr_rules.specs.Places.{address_hits, is_leaving, state_of_dev, part_of}
use Rattle.zr_rules.specs.Mappings.{entry_at}
use Rattle.zr_rules.specs.Space.{Space, copy_hits}
use Rattle.zr_rules.specs.Columns.{free_of}
use Rattle.zr_shelf.specs.Disks.{Stand, IsUntouched}
use Rattle.zr_shelf.specs.Protected.{IsSameIn}
use Rattle.zr_label.specs.Geometry.{unit_at}
use Rattle.zr_label.specs.declared.root.Uber.{Uber}
use Rattle.zr_label.specs.declared.root.Seen.{Seen}
use Rattle.zr_model.specs.State.{PoolState, Is}
use Rattle.zr_image.specs.Current.{FindsCurrent, IsGroup, IsInWindow, slots_of}
use Rattle.zr_view.specs.Views.{unit_bytes}
use Rattle.zr_image.specs.Walks.{addresses}
use Rattle.zr_image.specs.Roots.{Root, OpensRoot, has_live}
use Rattle.zr_image.specs.StateOf.{OpensShelf, IsShelf, Means}

-- a unit to which the root's pointers lead, or one of its metadata
abbrev pub HasOwnUnit : Root → ℕ → ℕ → Type 0
HasOwnUnit r d u = (has_live r d u ≡ true) ⊎ (0 < address_hits (addresses r.meta) d u)

-- or one that has an unmarked copy of a unit of the device that is leaving
abbrev pub HasUnit : Root → ℕ → ℕ → Type 0
HasUnit r d u = HasOwnUnit r d u ⊎ (0 < copy_hits r.parts.devs d u)

-- the bytes are a unit of the root on the disk of its device
pub record IsUnitOf (Has : Root → ℕ → ℕ → Type 0) (slots : List (Option ℕ)) (r : Root) (slot at n : ℕ) : Type 0 where
  pub device : ℕ
  pub unit : ℕ
  pub has : Has r device unit
  pub slot_is : slice_index_or slots device None ≡ Some slot
  pub at_is : at ≡ unit_at unit
  pub n_is : n ≡ 4096

-- the bytes are a unit of the root, or of the one that it saved
abbrev pub IsRangeOf : (Root → ℕ → ℕ → Type 0) → List (Option ℕ) → Root → Option Root → ℕ → ℕ → ℕ → Type 0
IsRangeOf Has slots r None slot at n = IsUnitOf Has slots r slot at n
IsRangeOf Has slots r (Some saved) slot at n = IsUnitOf Has slots r slot at n ⊎ IsUnitOf Has slots saved slot at n

-- a root of a group that is kept, with the one that it saved
pub record IsKeptRoot (disks : List (List ℕ)) (seen : List Seen) (r : Root) (saved : Option Root) : Type 0 where
  pub current : Uber
  pub found : FindsCurrent seen (Ok current)
  pub txg : ℕ
  pub in_window : IsInWindow seen current txg
  pub uber : Uber
  pub group : IsGroup seen current txg uber
  pub opens : OpensRoot disks (slots_of uber seen) uber (Ok (r, saved))

-- Protected: the bytes are a unit of a root of a group that is kept, or of one that such a root saved, or a copy of one of these.
pub record IsProtected (disks : List (List ℕ)) (seen : List Seen) (slot at n : ℕ) : Type 0 where
  pub root : Root
  pub saved : Option Root
  pub kept : IsKeptRoot disks seen root saved
  pub range : IsRangeOf HasUnit (slots_of root.uber seen) root saved slot at n

-- The frame law of a root: it opens as before from other disks on which its units have their bytes.
abbrev pub KeepsRoot : List (Option ℕ) → Uber → Root → Option Root → Type 0
KeepsRoot slots u r saved =
    (a b : List (List ℕ)) → OpensRoot a slots u (Ok (r, saved)) → IsSameIn (IsRangeOf HasOwnUnit slots r saved) a b → OpensRoot b slots u (Ok (r, saved))

-- The frame law of a meaning: the roots mean the same pool by other disks on which their units have their bytes.
abbrev pub KeepsMeaning : List (List ℕ) → List (Option ℕ) → Root → Option Root → PoolState → Type 0
KeepsMeaning paths slots r saved p =
    (a b : List (List ℕ)) → OpensRoot a slots r.uber (Ok (r, saved)) → IsSameIn (IsRangeOf HasOwnUnit slots r saved) a b → Means paths a slots r saved p → Means paths b slots r saved p

-- The frame law of a shelf: it shows the same pool by other disks whose slots show the same, and on which the units of its roots have their bytes.
abbrev pub KeepsShelf : List (List ℕ) → List Seen → Root → Option Root → PoolState → Type 0
KeepsShelf paths seen r saved p =
    (a b : List (List ℕ)) → OpensShelf a seen (Ok (r, saved)) → IsSameIn (IsRangeOf HasOwnUnit (slots_of r.uber seen) r saved) a b
    → Means paths a (slots_of r.uber seen) r saved p → IsShelf paths b seen (Is p)

-- the k-th unit of the entry is not marked obsolete
abbrev pub IsUnmarked : DevPart → ℕ → ℕ → Type 0
IsUnmarked p i k = (i < length p.entries) × (k < (entry_at p.entries i).len) × (has_unit p.fresh ((entry_at p.entries i).src + k) ≡ false)

-- Each unmarked copy of a unit of the device that is leaving has the bytes of its source.
pub record HoldsCopies (disks : List (List ℕ)) (slots : List (Option ℕ)) (parts : List DevPart) : Type 0 where
  pub each : (d i k : ℕ) → is_leaving (state_of_dev parts d) ≡ true → IsUnmarked (part_of parts d) i k
      → unit_bytes disks (slice_index_or slots (entry_at (part_of parts d).entries i).dev None) ((entry_at (part_of parts d).entries i).dst + k)
      ≡ unit_bytes disks (slice_index_or slots d None) ((entry_at (part_of parts d).entries i).src + k)

-- No unit of a root or of the one that it saved is free, and no write that waits meets one.
pub record IsSafe (stand : Stand) (space : Space) (slots : List (Option ℕ)) (r : Root) (saved : Option Root) : Type 0 where
  pub taken : (d u : ℕ) → HasUnit r d u → (free_of space).is_free d u ≡ false
  pub saved_taken : (old : Root) (d u : ℕ) → saved ≡ Some old → HasUnit old d u → (free_of space).is_free d u ≡ false
  pub untouched : (slot at n : ℕ) → IsRangeOf HasUnit slots r saved slot at n → IsUntouched stand.writes slot at n
