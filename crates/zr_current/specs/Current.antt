-- Which root the slots show as the current one.
use Rattle.std.specs.Prelude.{◌≡◌, ℕ, List, Option, Some, Ok}
use Rattle.zr_image.specs.Current.{FindsCurrent, ShowsAll, slots_of}
use Rattle.zr_label.specs.declared.root.Seen.{Seen}
use Rattle.zr_label.specs.declared.root.Uber.{Uber}
use Rattle.zr_sync.specs.declared.open.OpenPool.{OpenPool}
use Rattle.zr_view.specs.Views.{slot_of}

-- the devices have the same slots
abbrev pub HasSlots : List (Option ℕ) → List (Option ℕ) → Type 0
HasSlots these slots = (d : ℕ) → slot_of slots d ≡ slot_of these d

-- the pool goes on from this root, with its identity and its devices
pub record GoesOnFrom (u : Uber) (pool : OpenPool) : Type 0 where
  pub last : pool.last ≡ Some u
  pub guid : pool.guid ≡ u.guid
  pub count : pool.table.count ≡ u.count
  pub rows : pool.table.rows ≡ u.rows

-- Whatever is seen of the slots, they show this root and no other as the current one, and each device of the pool where the pool has it.
pub record IsCurrentOn (disks : List (List ℕ)) (u : Uber) (pool : OpenPool) : Type 0 where
  pub current : (seen : List Seen) → ShowsAll disks seen → FindsCurrent seen (Ok u)
  pub alone : (seen : List Seen) → ShowsAll disks seen → (v : Uber) → FindsCurrent seen (Ok v) → v ≡ u
  pub slots : (seen : List Seen) → ShowsAll disks seen → HasSlots (slots_of u seen) pool.table.slots

-- the slots show the root as the current one, and each device of the pool where the pool has it
pub record IsShownFor (disks : List (List ℕ)) (u : Uber) (pool : OpenPool) : Type 0 where
  pub seen : List Seen
  pub shown : ShowsAll disks seen
  pub current : FindsCurrent seen (Ok u)
  pub slots : HasSlots (slots_of u seen) pool.table.slots
