-- What one ring of 32 blocks adds to what was seen.
use Rattle.std.specs.Prelude.{◌≡◌, ◌⊎◌, ◌<◌, ◌≤◌, ℕ, ◌+◌, ◌*◌, List, [], ◌∷◌, ◌++◌, Option, Some, None, IfSome, IsSomeAnd, length, Contains}
use Rattle.zr_shelf.specs.Disks.{part}
use Rattle.zr_shelf.specs.declared.desk.DeskErr.{DeskErr}
use Rattle.zr_shelf.specs.declared.desk.DeskErr.TheVariants as is_desk
use Rattle.zr_label.specs.Blocks.{SpellsLabel, SpellsUber, SpellsNewer}
use Rattle.zr_label.specs.Geometry.{slot_of}
use Rattle.zr_label.specs.declared.root.Label.{Label}
use Rattle.zr_label.specs.declared.root.Uber.{Uber}
use Rattle.zr_label.specs.declared.root.Newer.{Newer}
use Rattle.zr_scan.specs.Scan.{IsRootFor}
use Rattle.zr_scan.specs.declared.error.ScanErr.{ScanErr}
use Rattle.zr_scan.specs.declared.error.ScanErr.TheVariants as is_scan

abbrev pub error_of : DeskErr → ScanErr
error_of is_desk.Failed = is_scan.Failed
error_of is_desk.NoMemory = is_scan.NoMemory

-- block k of a ring
abbrev pub in_ring : List ℕ → ℕ → List ℕ
in_ring ring k = part ring (4096 * k) 4096

-- a block in slot k of a ring is a root for the label
pub record IsRootAt (block : List ℕ) (k : ℕ) (l : Label) (u : Uber) : Type 0 where
  pub spelled : SpellsUber block u
  pub place : slot_of u.txg ≡ k
  pub suits : IsRootFor l u

-- the block spells a label that names so many units
pub record IsLabelWith (block : List ℕ) (units : ℕ) (l : Label) : Type 0 where
  pub spelled : SpellsLabel block l
  pub named : l.units ≡ units

-- with a root more, if there is one
abbrev pub with_root : List Uber → Option Uber → List Uber
with_root us None = us
with_root us (Some u) = us ++ u ∷ []

-- the roots of the first n blocks of a ring are added
pub record AddsRoots (ring : List ℕ) (n : ℕ) (l : Label) (old new : List Uber) : Type 0 where
  pub few : length new ≤ length old + n
  pub kept : (u : Uber) → Contains old u → Contains new u
  pub each : (u : Uber) → Contains new u → Contains old u ⊎ IsRootAt (in_ring ring (slot_of u.txg)) (slot_of u.txg) l u
  pub all : (u : Uber) → slot_of u.txg < n → IsRootAt (in_ring ring (slot_of u.txg)) (slot_of u.txg) l u → Contains new u

-- a block in slot k of a ring is a root of an unknown version
pub record IsNewerAt (block : List ℕ) (k guid : ℕ) (x : Newer) : Type 0 where
  pub spelled : SpellsNewer block guid x.version x.txg
  pub place : slot_of x.txg ≡ k

-- the one seen before, or a newer one
pub record IsNewerOf (ring : List ℕ) (n guid : ℕ) (old new : Option Newer) : Type 0 where
  pub old_or_new : (new ≡ old) ⊎ ((x : Newer) × (new ≡ Some x) × IsNewerAt (in_ring ring (slot_of x.txg)) (slot_of x.txg) guid x × IfSome old (λ o. o.txg < x.txg))
  pub highest : (x : Newer) → slot_of x.txg < n → IsNewerAt (in_ring ring (slot_of x.txg)) (slot_of x.txg) guid x → IsSomeAnd new (λ y. x.txg ≤ y.txg)

-- of two the one whose group is higher, the old one where they are equal
abbrev pub IsLater : Option Newer → Option Newer → Option Newer → Type 0
IsLater None found new = new ≡ found
IsLater (Some o) None new = new ≡ Some o
IsLater (Some o) (Some x) new = ((o.txg < x.txg) × (new ≡ Some x)) ⊎ ((x.txg ≤ o.txg) × (new ≡ Some o))
