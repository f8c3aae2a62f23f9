-- What the disks have of a root, and the pool that is opened from it.
use Rattle.std.specs.Prelude.{◌≡◌, ℕ, List, [], All, take, Option, Some, None, is_some}
use Rattle.zr_base.specs.declared.space.CkptPart.TheVariants.{Clear}
use Rattle.zr_base.specs.declared.space.Dva.{Dva}
use Rattle.zr_image.specs.Roots as image
use Rattle.zr_image.specs.Roots.{rows_of, head_tree, IsSavedUber}
use Rattle.zr_image.specs.StateOf.{AreObjects}
use Rattle.zr_label.specs.Blocks.{IsUber}
use Rattle.zr_meta.specs.Heads.{IsHead}
use Rattle.zr_model.specs.Objects.{Objects}
use Rattle.zr_open.specs.Opened.{CoversOwed}
use Rattle.zr_open.specs.Streams.{HasStreams}
use Rattle.zr_open.specs.declared.saved.SavedRoot.{SavedRoot}
use Rattle.zr_rules.specs.Space.{Space}
use Rattle.zr_label.specs.declared.root.Uber.{Uber}
use Rattle.zr_import.specs.Spending.{HaveHeld}
use Rattle.zr_import.specs.declared.roots.Root.{Root}
use Rattle.zr_judge.specs.Parts.{HasMapping}
use Rattle.zr_roots.specs.Standing.{Stands, blocks_of}
use Rattle.zr_space.specs.Opens.{IsOpened}
use Rattle.zr_sync.specs.Heads.{cond_at}
use Rattle.zr_sync.specs.declared.open.Checkpoint.{Checkpoint}
use Rattle.zr_sync.specs.declared.open.OpenPool.{OpenPool}

-- the metadata of the root that is saved, if there is one
abbrev pub meta_of : Option SavedRoot → List Dva
meta_of None = []
meta_of (Some saved) = saved.root.meta

-- the pool has the directory, the streams, the condensing and the space that the root records, beside this metadata of the saved one, and nothing is opened
pub record HasParts (r : Root) (saved : List Dva) (pool : OpenPool) : Type 0 where
  pub dir : pool.dir ≡ r.head.dir
  pub streams : HasStreams (take pool.table.count pool.table.rows) r.head pool.streams.items pool.cond
  pub cond : cond_at pool.space.parts.cond ≡ r.head.cond
  pub space : IsOpened r.parts r.meta saved pool.space

-- where the metadata of a saved root lies: its head, and the streams of its devices
pub record HasTrees (s : SavedRoot) (c : Checkpoint) : Type 0 where
  pub head : c.head ≡ head_tree s.uber
  pub streams : HasStreams (rows_of s.uber) s.root.head c.streams.items c.cond

-- what an open pool keeps of the root that is saved, if there is one
abbrev pub IsKept : Option SavedRoot → Option Checkpoint → Type 0
IsKept None None = Unit {0}
IsKept None (Some c) = ⊥
IsKept (Some s) None = ⊥
IsKept (Some s) (Some c) = HasTrees s c

-- a root is saved exactly where there is a block of it
abbrev pub HasSaved : Option (List ℕ) → Option SavedRoot → Type 0
HasSaved block saved = is_some block ≡ is_some saved

-- a saved root, with a head under its devices
pub record IsLawfulSaved (s : SavedRoot) : Type 0 where
  pub uber : IsUber s.uber
  pub head : IsHead (rows_of s.uber) s.root.head

-- the root as its head and its parts tell it
abbrev pub told_root : Uber → Root → image.Root
told_root u r = record { uber = u; head = r.head; parts = r.parts; meta = []; live = [] }

-- The root in the block of a held checkpoint, as it stands on the disks. It is an older root of the pool, whose devices are still there; by itself it could be opened,
-- and its disks mean some objects. It holds no checkpoint, and has just the held units that no block of the current root has which was born later.
pub record IsSavedRoot (tells : Type 0) (disks : List (List ℕ)) (slots : List (Option ℕ)) (u : Uber) (r : Root) (block : List ℕ) (saved : SavedRoot) : Type 0 where
  pub is_saved : IsSavedUber (told_root u r) block saved.uber
  pub head : IsHead (rows_of saved.uber) saved.root.head
  pub mapped : All HasMapping saved.root.parts.devs
  pub stands : tells → Stands disks slots saved.uber saved.root
  pub objects : tells → (os : Objects) × AreObjects (blocks_of disks slots saved.root) saved.root.head.dir os
  pub space : (s : Space) × IsOpened saved.root.parts saved.root.meta [] s × CoversOwed s
  pub clear : saved.root.parts.ckpt ≡ Clear
  pub fits : HaveHeld r.older saved.root.parts.devs

-- what there is beside a root: none where its head has no block of a saved root, and else the one in that block
abbrev pub IsBeside : Type 0 → List (List ℕ) → List (Option ℕ) → Uber → Root → Option SavedRoot → Type 0
IsBeside tells disks slots u r None = r.head.saved ≡ None
IsBeside tells disks slots u r (Some saved) = (block : List ℕ) × (r.head.saved ≡ Some block) × IsSavedRoot tells disks slots u r block saved

-- the pool is that of its last root, as it stands on the disks where these are told
pub record IsOfRoot (tells : Type 0) (disks : List (List ℕ)) (slots : List (Option ℕ)) (u : Uber) (pool : OpenPool) : Type 0 where
  pub last : pool.last ≡ Some u
  pub root : Root
  pub head : IsHead (rows_of u) root.head
  pub stands : tells → Stands disks slots u root
  pub saved : Option SavedRoot
  pub beside : IsBeside tells disks slots u root saved
  pub parts : HasParts root (meta_of saved) pool
  pub kept : IsKept saved pool.saved
