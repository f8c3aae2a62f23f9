-- A pool as it is opened, and why a root is not.
use Rattle.std.specs.Prelude.{◌≡◌, ◌≢◌, ◌⊎◌, ℕ, ◌+◌, ◌≤◌, List, [], Option, Some}
use Rattle.zr_base.specs.declared.refusal.Refusal.{Refusal}
use Rattle.zr_base.specs.declared.refusal.Refusal.TheVariants.{BadRoot, Damaged, MissingDevice, NoPoolOnDevices, TwoPools, UnknownVersion}
use Rattle.zr_base.specs.declared.space.Dva.{Dva}
use Rattle.zr_label.specs.declared.root.Uber.{Uber}
use Rattle.zr_cache.specs.Entries.{entries}
use Rattle.zr_image.specs.Reading.{bare_devices, store_of}
use Rattle.zr_image.specs.Roots.{head_tree, rows_of}
use Rattle.zr_import.specs.declared.errors.ImportErr.{ImportErr}
use Rattle.zr_import.specs.declared.roots.Root.{Root}
use Rattle.zr_roots.specs.Causes.{IsRootRule}
use Rattle.zr_roots.specs.Devices.{HasRows}
use Rattle.zr_sync.specs.Heads.{cond_at}
use Rattle.zr_import.specs.declared.errors.ImportErr.TheVariants as error
use Rattle.zr_meta.specs.Heads.{IsHead, head_bytes}
use Rattle.zr_meta.specs.declared.Head.{Head}
use Rattle.zr_rules.specs.Columns.{free_units, sizes}
use Rattle.zr_rules.specs.Owed.{owed}
use Rattle.zr_root.specs.Streams.{HasBytes}
use Rattle.zr_rules.specs.Space.{Space, IsLawful}
use Rattle.zr_sync.specs.declared.fault.Fault.{Fault}
use Rattle.zr_sync.specs.declared.fault.Fault.TheVariants.{No, Stops}
use Rattle.zr_sync.specs.declared.open.OpenPool.{OpenPool}
use Rattle.zr_sync.specs.declared.stop.Stop.TheVariants as stop

-- a lawful space of the devices of the root
pub record IsSpaceOf (u : Uber) (s : Space) : Type 0 where
  pub version : s.parts.version ≡ u.version
  pub rows : HasRows u s.parts.devs
  pub lawful : IsLawful s

-- the head stands in the tree of the root
pub record IsHeadOn (disks : List (List ℕ)) (slots : List (Option ℕ)) (u : Uber) (h : Head) : Type 0 where
  pub lawful : IsHead (rows_of u) h
  pub stands : HasBytes (store_of (record { disks = disks; slots = slots; devices = bare_devices u })) (head_tree u) (head_bytes h)

-- what the root records of the checkpoint and of the condensing is what its head tells
pub record IsAsTold (r : Root) : Type 0 where
  pub ckpt : r.parts.ckpt ≡ r.head.ckpt
  pub cond : cond_at r.parts.cond ≡ r.head.cond

-- the head that stands there has this block of a saved root
abbrev pub HasBlock : Type 0 → List (List ℕ) → List (Option ℕ) → Uber → List ℕ → Type 0
HasBlock tells disks slots u block = (h : Head) × (tells → IsHeadOn disks slots u h) × (h.saved ≡ Some block)

-- the free units cover what is owed
abbrev pub CoversOwed : Space → Type 0
CoversOwed s = owed (sizes s 0 0) ≤ free_units s

-- the pool is that of the root, and nothing has changed since
pub record IsFresh (u : Uber) (pool : OpenPool) : Type 0 where
  pub last : pool.last ≡ Some u
  pub name : pool.name ≡ u.name
  pub guid : pool.guid ≡ u.guid
  pub version : pool.version ≡ u.version
  pub count : pool.table.count ≡ u.count
  pub rows : pool.table.rows ≡ u.rows
  pub txg : pool.group.txg ≡ u.txg + 1
  pub empty : pool.group.objects ≡ []
  pub cache : entries pool.cache ≡ []
  pub head : pool.head ≡ head_tree u

-- a root is refused for a rule that it breaks, or for a block whose bytes have another sum than its pointer says
abbrev pub IsRefusedRoot : Refusal → Type 0
IsRefusedRoot r = ((n : ℕ) × IsRootRule n × (r ≡ BadRoot n)) ⊎ ((at : Dva) × (expected : List ℕ) × (found : List ℕ) × (expected ≢ found) × (r ≡ Damaged at expected found))

-- a root beside this metadata of a saved one is refused for itself, or where there is such metadata, for the saved one
abbrev pub MayRefuse : List Dva → Refusal → Type 0
MayRefuse saved r = IsRefusedRoot r ⊎ ((r ≡ BadRoot 8) × (saved ≢ []))

-- a root that holds a checkpoint is refused for the root that it saved
abbrev pub IsRefusedSaved : Type 0 → List (List ℕ) → List (Option ℕ) → Uber → Refusal → Type 0
IsRefusedSaved tells disks slots u r = (r ≡ BadRoot 8) × ((block : List ℕ) × HasBlock tells disks slots u block)

-- what an import may be refused for: the slots show no pool, two, one of an unknown version or one without a device, or its root is not in order
abbrev pub IsImportRefusal : Refusal → Type 0
IsImportRefusal NoPoolOnDevices = Unit {0}
IsImportRefusal (TwoPools first second) = Unit {0}
IsImportRefusal (MissingDevice index added) = Unit {0}
IsImportRefusal (UnknownVersion version) = Unit {0}
IsImportRefusal (BadRoot rule) = (1 ≤ rule) × (rule ≤ 9)
IsImportRefusal (Damaged at expected found) = expected ≢ found
IsImportRefusal r = ⊥

-- what is wrong with a saved root by itself is one rule of the root that saved it, but a damaged block is told as it is
abbrev pub as_saved : Fault → Fault
as_saved (No (BadRoot n)) = No (BadRoot 8)
as_saved other = other

-- what a root that is not read means for an import
abbrev pub fault_of : ImportErr → Fault
fault_of (error.Rule n) = No (BadRoot n)
fault_of (error.Damaged at expected found) = No (Damaged at expected found)
fault_of error.Failed = Stops stop.DiskFault
fault_of error.NoMemory = Stops stop.NoMemory
