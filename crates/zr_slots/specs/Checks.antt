-- What the slots must show before a pool is opened, made or made larger.
use Rattle.std.specs.Prelude.{◌≡◌, ◌≢◌, ◌⊎◌, ℕ, ◌<◌, ◌≤◌, not, List, [], ◌∷◌, length, Contains, slice_index, IsSomeAnd, Option, Some, None}
use Rattle.std.specs.List.{find}
use Rattle.zr_base.specs.declared.refusal.Refusal.TheVariants.{DeviceInUse, DeviceSize, TooMany}
use Rattle.zr_label.specs.Geometry.{is_disk_size}
use Rattle.zr_label.specs.declared.root.Label.{Label}
use Rattle.zr_label.specs.declared.root.Uber.{Uber}
use Rattle.zr_label.specs.declared.root.Seen.{Seen}
use Rattle.zr_scan.specs.Scan.{IsSmallAndLawful}
use Rattle.zr_image.specs.Checks.{Check, ◌>>=◌, Demands, Excludes}
use Rattle.zr_image.specs.Current.{seen_at, IsCurrent, IsInUse, IsLowest}

-- the slot is one of them, and shows what a disk of some size can show
pub record IsSlotOf (seen : List Seen) (slot : ℕ) : Type 0 where
  pub in_list : slot < length seen
  pub size : ℕ
  pub lawful : IsSmallAndLawful size (seen_at seen slot)

-- each slot shows what a disk of some size can show
abbrev pub AreLawful : List Seen → Type 0
AreLawful seen = (slot : ℕ) → slot < length seen → IsSlotOf seen slot

-- the slot is one of them, and the highest group that is shown is this
pub record IsSlotUpTo (seen : List Seen) (txg : ℕ) (slot : ℕ) : Type 0 where
  pub in_list : slot < length seen
  pub top : (u : Uber) × IsCurrent seen u × (u.txg ≡ txg)

-- the slot is one of them, and the root has so many devices as a root can have
pub record IsSlotOfRoot (seen : List Seen) (u : Uber) (slot : ℕ) : Type 0 where
  pub in_list : slot < length seen
  pub few : u.count ≤ 32

-- of two the one whose group is higher, the old one where they are equal
abbrev pub IsHigher : Option Uber → Option Uber → Option Uber → Type 0
IsHigher None new found = found ≡ new
IsHigher (Some a) None found = found ≡ Some a
IsHigher (Some a) (Some b) found = ((a.txg < b.txg) × (found ≡ Some b)) ⊎ ((b.txg ≤ a.txg) × (found ≡ Some a))

-- the same numbers
pub record HasNumbersOf (a b : Uber) : Type 0 where
  pub version : a.version ≡ b.version
  pub txg : a.txg ≡ b.txg
  pub guid : a.guid ≡ b.guid
  pub len : a.len ≡ b.len
  pub count : a.count ≡ b.count
  pub reset : a.reset ≡ b.reset

-- a root of the group that is not this one
pub record IsOther (u v : Uber) : Type 0 where
  pub group : v.txg ≡ u.txg
  pub differs : v ≢ u

-- each of these is one of so many slots
abbrev pub AreNamed : ℕ → List ℕ → Type 0
AreNamed slots named = (k : ℕ) → k < length named → slice_index named k < slots

-- the first of the slots whose disk a pool of the version cannot have
abbrev pub bad_size : List ℕ → ℕ → List ℕ → Option ℕ
bad_size sizes version slots = find (λ slot. not (is_disk_size version (slice_index sizes slot))) slots

-- each disk has a size that a pool of the version can have, or it is refused for the first that has not
abbrev pub HaveSizes : List ℕ → ℕ → List ℕ → Check (Unit {0})
HaveSizes sizes version slots = Excludes (λ slot. bad_size sizes version slots ≡ Some slot) (λ slot. bad_size sizes version slots ≡ Some slot) (λ slot. DeviceSize (slice_index sizes slot))

-- the slot is in use, or has a label of the new pool's identity and is not to be taken
abbrev pub IsInTheWay : List Seen → ℕ → List ℕ → ℕ → Type 0
IsInTheWay seen guid named slot = IsInUse seen slot ⊎ (IsSomeAnd (seen_at seen slot).label (λ l. l.guid ≡ guid) × ¬ Contains named slot)

-- A pool can be made on these slots.
abbrev pub MayCreateOn : List ℕ → List Seen → ℕ → ℕ → List ℕ → Check (Unit {0})
MayCreateOn sizes seen version guid named = do
  sized ← HaveSizes sizes version named
  Excludes (IsInTheWay seen guid named) (IsLowest (IsInTheWay seen guid named)) DeviceInUse

-- it is this slot, which is a device of the pool or in use by another
abbrev pub IsTakenBy : List Seen → List (Option ℕ) → ℕ → ℕ → ℕ → Type 0
IsTakenBy seen mine guid slot this = (this ≡ slot) × (Contains mine (Some slot) ⊎ (IsInUse seen slot × IsSomeAnd (seen_at seen slot).label (λ l. l.guid ≢ guid)))

-- a label of this pool, index and group of adding
pub record IsIdentity (guid index added : ℕ) (l : Label) : Type 0 where
  pub guid_is : l.guid ≡ guid
  pub index_is : l.index ≡ index
  pub added_is : l.added ≡ added

-- another slot than the new device's has a label of its identity
abbrev pub HasItsLabelAt : List Seen → (Label → Type 0) → ℕ → ℕ → Type 0
HasItsLabelAt seen IsIts slot other = (other ≢ slot) × IsSomeAnd (seen_at seen other).label IsIts

-- The slot can become the device of the pool with this index and group of adding.
abbrev pub MayAddOn : List ℕ → List Seen → ℕ → ℕ → List (Option ℕ) → ℕ → ℕ → ℕ → Check (Unit {0})
MayAddOn sizes seen version slot mine guid index added = do
  sized ← HaveSizes sizes version (slot ∷ [])
  unused ← Excludes (IsTakenBy seen mine guid slot) (IsTakenBy seen mine guid slot) DeviceInUse
  alone ← Excludes (HasItsLabelAt seen (IsIdentity guid index added) slot) (IsLowest (HasItsLabelAt seen (IsIdentity guid index added) slot)) DeviceInUse
  Demands (index < 32) (TooMany 32)
