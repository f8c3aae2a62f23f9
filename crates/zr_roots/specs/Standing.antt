-- What the disks have of a root.
use Rattle.std.specs.Prelude.{◌≡◌, ℕ, List, [], map, Option}
use Rattle.zr_base.specs.declared.space.CkptPart.TheVariants.{Held}
use Rattle.zr_bptr.specs.declared.Bptr.{Bptr}
use Rattle.zr_image.specs.Reading.{bare_devices, store_of}
use Rattle.zr_import.specs.Directories.{IsInPlace}
use Rattle.zr_import.specs.Spending.{HasOlder, MarksHeld}
use Rattle.zr_import.specs.Words.{ReadsMeta, meta_reach}
use Rattle.zr_import.specs.declared.metadata.Meta.{Meta}
use Rattle.zr_import.specs.declared.roots.Root.{Root}
use Rattle.zr_label.specs.declared.root.Uber.{Uber}
use Rattle.zr_objset.specs.Records.{all_reach}
use Rattle.zr_roots.specs.Devices.{HasRows}
use Rattle.zr_rules.specs.Devices.{devices_of}
use Rattle.zr_rules.specs.Space.{Space}
use Rattle.zr_space.specs.Opens.{IsOpened}
use Rattle.zr_store.specs.Store.{Stored}

-- the disks as a store of blocks, by the devices of a root before any mapping is known, as its metadata is read
abbrev pub image_of : List (List ℕ) → List (Option ℕ) → Uber → Stored
image_of disks slots u = store_of (record { disks = disks; slots = slots; devices = bare_devices u })

-- the disks as a store of blocks, by the devices that a root records, with their mappings
abbrev pub blocks_of : List (List ℕ) → List (Option ℕ) → Root → Stored
blocks_of disks slots r = store_of (record { disks = disks; slots = slots; devices = devices_of r.parts.devs })

-- the metadata stands on the disks: its head, what the words of its streams record, and the addresses of its blocks
pub record StandsMeta (disks : List (List ℕ)) (slots : List (Option ℕ)) (u : Uber) (m : Meta) : Type 0 where
  pub reads : ReadsMeta (image_of disks slots u) u m.head m.parts
  pub at : m.at ≡ map (λ (b : Bptr). b.at) (meta_reach (image_of disks slots u) u m.head)

-- the space that the metadata of a root tells
pub record IsBase (u : Uber) (m : Meta) (s : Space) : Type 0 where
  pub version : m.parts.version ≡ u.version
  pub rows : HasRows u m.parts.devs
  pub opened : IsOpened m.parts m.at [] s

-- The blocks of the directory and its objects are just what is held, by the mappings that the root records, and their leaves stand where they may.
pub record StandBlocks (disks : List (List ℕ)) (slots : List (Option ℕ)) (txg : ℕ) (r : Root) : Type 0 where
  pub held : MarksHeld txg r.parts r.meta (all_reach (blocks_of disks slots r) r.head.dir)
  pub place : IsInPlace (blocks_of disks slots r) r.head.dir
  pub older : (since : ℕ) → r.parts.ckpt ≡ Held since → HasOlder txg since r.parts r.meta (all_reach (blocks_of disks slots r) r.head.dir) r.older

-- the root has this metadata
abbrev pub IsRootOf : Meta → Root → Type 0
IsRootOf m r = r ≡ record { head = m.head; parts = m.parts; meta = m.at; older = r.older }

-- What stands in the trees of the root: its head, what the words of its streams record, and the addresses of these blocks, on the bare devices. By the mappings that these record, the blocks of the
-- directory and its objects are just what is held, and their leaves stand where they may.
pub record Stands (disks : List (List ℕ)) (slots : List (Option ℕ)) (u : Uber) (r : Root) : Type 0 where
  pub reads : ReadsMeta (image_of disks slots u) u r.head r.parts
  pub meta : r.meta ≡ map (λ (b : Bptr). b.at) (meta_reach (image_of disks slots u) u r.head)
  pub held : MarksHeld u.txg r.parts r.meta (all_reach (blocks_of disks slots r) r.head.dir)
  pub place : IsInPlace (blocks_of disks slots r) r.head.dir
  pub older : (since : ℕ) → r.parts.ckpt ≡ Held since → HasOlder u.txg since r.parts r.meta (all_reach (blocks_of disks slots r) r.head.dir) r.older
