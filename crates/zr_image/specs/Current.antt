-- Which root of the slots is current, what keeps a pool from being found, and which groups can be gone back to.
use Rattle.std.specs.Prelude.{◌≡◌, ◌≢◌, ◌⊎◌, ℕ, ◌+◌, ◌≤◌, ◌<◌, ◌==◌, Bool, false, not, ◌&&◌, List, [], length, map, find, position, slice_index_or, Contains, if◌then◌else◌, Option, Some, None, is_some}
use Rattle.std.specs.List.{AllZip, range_with_len}
use Rattle.zr_base.specs.declared.space.DevRow.{DevRow}
use Rattle.zr_base.specs.declared.refusal.Refusal.TheVariants.{MissingDevice, NoPoolOnDevices, TwoPools, UnknownVersion}
use Rattle.zr_rules.specs.Places.{is_gone}
use Rattle.zr_label.specs.Blocks.{no_row}
use Rattle.zr_label.specs.declared.root.Label.{Label}
use Rattle.zr_label.specs.declared.root.Uber.{Uber}
use Rattle.zr_label.specs.declared.root.Newer.{Newer}
use Rattle.zr_label.specs.declared.root.Seen.{Seen}
use Rattle.zr_scan.specs.Scan.{Shows, IsRootFor}
use Rattle.zr_image.specs.Checks.{Check, ◌>>=◌, Gives, Finds, Excludes}

-- what all slots show
abbrev pub ShowsAll : List (List ℕ) → List Seen → Type 0
ShowsAll disks seen = AllZip (λ bytes s. Shows (length bytes) bytes s) disks seen

-- a slot that is not there shows nothing
abbrev pub seen_at : List Seen → ℕ → Seen
seen_at seen slot = slice_index_or seen slot (record { label = None; ubers = []; newer = None })

-- the slot shows the root
abbrev pub IsShownAt : List Seen → ℕ → Uber → Type 0
IsShownAt seen slot u = Contains (seen_at seen slot).ubers u

-- some slot shows it
abbrev pub IsShown : List Seen → Uber → Type 0
IsShown seen u = (slot : ℕ) × IsShownAt seen slot u

-- of all roots that are shown, one of the highest group
pub record IsCurrent (seen : List Seen) (u : Uber) : Type 0 where
  pub shown : IsShown seen u
  pub highest : (v : Uber) → IsShown seen v → v.txg ≤ u.txg

-- the slot shows a root of an unknown version, and all roots of its pool are older
pub record IsUnknown (seen : List Seen) (slot : ℕ) (x : Newer) : Type 0 where
  pub label : Label
  pub label_is : (seen_at seen slot).label ≡ Some label
  pub newer_is : (seen_at seen slot).newer ≡ Some x
  pub above : (u : Uber) → IsShown seen u → u.guid ≡ label.guid → u.txg < x.txg

-- the lowest slot that does
pub record IsLowestUnknown (seen : List Seen) (slot : ℕ) (x : Newer) : Type 0 where
  pub here : IsUnknown seen slot x
  pub lowest : (other : ℕ) (y : Newer) → other < slot → ¬ IsUnknown seen other y

-- the slot is in use: it has a label, and a root of the label's pool, known or not
abbrev pub IsInUse : List Seen → ℕ → Type 0
IsInUse seen slot = ((u : Uber) × IsShownAt seen slot u) ⊎ ((x : Newer) × IsUnknown seen slot x)

-- the slots show roots of two pools
pub record AreTwoPools (seen : List Seen) (a b : ℕ) : Type 0 where
  pub one : Uber
  pub other : Uber
  pub in_one : IsShownAt seen a one
  pub in_other : IsShownAt seen b other
  pub differ : one.guid ≢ other.guid

-- the slots show two different roots of the highest group
pub record AreTwoRoots (seen : List Seen) (a b : ℕ) : Type 0 where
  pub one : Uber
  pub other : Uber
  pub in_one : IsShownAt seen a one
  pub in_other : IsShownAt seen b other
  pub one_highest : IsCurrent seen one
  pub other_highest : IsCurrent seen other
  pub differ : one ≢ other

-- the slots have labels of one device, which is in service or leaving
pub record AreTwoCopies (u : Uber) (seen : List Seen) (a b : ℕ) : Type 0 where
  pub one : Label
  pub other : Label
  pub of_one : (seen_at seen a).label ≡ Some one
  pub of_other : (seen_at seen b).label ≡ Some other
  pub one_for : IsRootFor one u
  pub other_for : IsRootFor other u
  pub same : one.index ≡ other.index

-- the first slot of the pair is lower, or its second is
abbrev pub IsBelow : ℕ × ℕ → ℕ × ℕ → Type 0
IsBelow p q = (p.0 < q.0) ⊎ ((p.0 ≡ q.0) × (p.1 < q.1))

-- two different slots, the lower one first, that have this between them
pub record IsPair (Has : ℕ → ℕ → Type 0) (p : ℕ × ℕ) : Type 0 where
  pub order : p.0 < p.1
  pub here : Has p.0 p.1

-- the lowest pair of slots that does
pub record IsLowestPair (Has : ℕ → ℕ → Type 0) (p : ℕ × ℕ) : Type 0 where
  pub pair : IsPair Has p
  pub lowest : (q : ℕ × ℕ) → IsBelow q p → ¬ IsPair Has q

-- the lowest slot that has it
pub record IsLowest (Has : ℕ → Type 0) (slot : ℕ) : Type 0 where
  pub here : Has slot
  pub lowest : (other : ℕ) → other < slot → ¬ Has other

-- no two slots have this between them, or it is refused for the lowest pair that does
abbrev pub ExcludesPair : (ℕ → ℕ → Type 0) → Check (Unit {0})
ExcludesPair Has = Excludes (IsPair Has) (IsLowestPair Has) (λ p. TwoPools p.0 p.1)

-- no slot has this with itself, or the lowest that does is printed twice
abbrev pub ExcludesSlot : (ℕ → ℕ → Type 0) → Check (Unit {0})
ExcludesSlot Has = Excludes (λ slot. Has slot slot) (IsLowest (λ slot. Has slot slot)) (λ slot. TwoPools slot slot)

-- The slots show one pool, with one root of the highest group, and each device once.
abbrev pub IsOnePool : List Seen → Uber → Check (Unit {0})
IsOnePool seen u = do
  pools ← ExcludesPair (AreTwoPools seen)
  roots ← ExcludesPair (AreTwoRoots seen)
  root_twice ← ExcludesSlot (AreTwoRoots seen)
  ExcludesPair (AreTwoCopies u seen)

-- what a root records of a device
abbrev pub row_at : Uber → ℕ → DevRow
row_at u index = slice_index_or u.rows index no_row

-- the label names this device of the root, and its units
abbrev pub is_device : Uber → ℕ → Option Label → Bool
is_device u index None = false
is_device u index (Some l) = l.guid == u.guid && (l.index == index && (l.added == (row_at u index).added && l.units == (row_at u index).units))

-- the slot of a device that is in service or leaving: the lowest whose label names it
abbrev pub slot_of_device : Uber → List Seen → ℕ → Option ℕ
slot_of_device u seen index = if is_gone (row_at u index).state then None else position (λ (s : Seen). is_device u index s.label) seen

-- the slots of the devices by their indices
abbrev pub slots_of : Uber → List Seen → List (Option ℕ)
slots_of u seen = map (slot_of_device u seen) (range_with_len 0 u.count)

-- the device is in service or leaving, and has no slot
abbrev pub is_missing : Uber → List Seen → ℕ → Bool
is_missing u seen index = not (is_gone (row_at u index).state) && not (is_some (slot_of_device u seen index))

-- the lowest device that is missing
abbrev pub missing_device : Uber → List Seen → Option ℕ
missing_device u seen = find (is_missing u seen) (range_with_len 0 u.count)

-- each device in service or leaving has its slot, or it is refused for the lowest that has none
abbrev pub HasDevices : List Seen → Uber → Check (Unit {0})
HasDevices seen u = Excludes (λ index. missing_device u seen ≡ Some index) (λ index. missing_device u seen ≡ Some index) (λ index. MissingDevice index (row_at u index).added)

-- no slot shows a root of an unknown version above all others of its pool, or it is refused for the lowest slot that does
abbrev pub IsKnown : List Seen → Check (Unit {0})
IsKnown seen =
    Excludes (λ (p : ℕ × Newer). IsUnknown seen p.0 p.1) (λ (p : ℕ × Newer). IsLowestUnknown seen p.0 p.1) (λ (p : ℕ × Newer). UnknownVersion p.1.version)

-- What an import looks for before it reads a root: a current root, of one pool, with a slot for each of its devices.
abbrev pub FindsCurrent : List Seen → Check Uber
FindsCurrent seen = do
  known ← IsKnown seen
  u ← Finds (IsCurrent seen) NoPoolOnDevices
  one ← IsOnePool seen u
  there ← HasDevices seen u
  Gives u

-- the group of the last reset at or before the root
abbrev pub reset_of : Uber → ℕ
reset_of u = if u.reset == 0 then u.txg else u.reset

-- the group has one root, the same wherever it stands, with the devices of the current one
pub record IsGroup (seen : List Seen) (current : Uber) (txg : ℕ) (u : Uber) : Type 0 where
  pub shown : IsShown seen u
  pub txg_is : u.txg ≡ txg
  pub devices : u.rows ≡ current.rows
  pub one : (v : Uber) → IsShown seen v → v.txg ≡ txg → v ≡ u

-- The group is kept: it is at most two behind the current one, not before the last reset, and each group from it on has its root.
pub record IsInWindow (seen : List Seen) (current : Uber) (txg : ℕ) : Type 0 where
  pub past : txg ≤ current.txg
  pub near : current.txg ≤ txg + 2
  pub since : reset_of current ≤ txg
  pub each : (g : ℕ) → txg ≤ g → g ≤ current.txg → (u : Uber) × IsGroup seen current g u

-- the oldest group that is kept
pub record IsOldest (seen : List Seen) (current : Uber) (oldest : ℕ) : Type 0 where
  pub in_window : IsInWindow seen current oldest
  pub lowest : (txg : ℕ) → IsInWindow seen current txg → oldest ≤ txg
