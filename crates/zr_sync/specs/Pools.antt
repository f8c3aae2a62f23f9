-- An open pool, as each call needs it and leaves it.
use Rattle.std.specs.Prelude.{◌≡◌, ℕ, false, replicate, ◌+◌, ◌≤◌, ◌<◌, ◌⊎◌, List, All, length, take, drop, slice_index, slice_index_or, IsTrue, Option, Some, None, IfSome}
use Rattle.std.specs.List.{list_all, list_any}
use Rattle.zr_bptr.specs.declared.Tree.{Tree}
use Rattle.zr_bptr.specs.Spelling.{IsTree}
use Rattle.zr_base.specs.declared.space.DevRow.{DevRow}
use Rattle.zr_label.specs.Blocks.{IsName, IsUber, is_row, is_no_row, no_row}
use Rattle.zr_label.specs.Geometry.{units_of_size}
use Rattle.zr_label.specs.declared.root.Uber.{Uber}
use Rattle.zr_lookup.specs.Groups.{IsLawfulGroup}
use Rattle.zr_meta.specs.Heads.{IsStream, IsRootOf, IsSaved}
use Rattle.zr_rules.specs.Equation.{devices_in}
use Rattle.zr_rules.specs.Places.{is_on, part_of}
use Rattle.zr_rules.specs.Space.{IsLawful}
use Rattle.zr_txg.specs.Changes.{Changes, block_count}
use Rattle.zr_view.specs.Views.{slot_of}
use Rattle.zr_vdev.specs.Mounts.{AreMounted}
use Rattle.zr_sync.specs.declared.open.Checkpoint.{Checkpoint}
use Rattle.zr_sync.specs.declared.open.CondStreams.{CondStreams}
use Rattle.zr_sync.specs.declared.open.DeviceStreams.{DeviceStreams}
use Rattle.zr_sync.specs.declared.open.OpenPool.{OpenPool}
use Rattle.zr_sync.specs.declared.open.Turned.{Turned}

pub record AreStreams (s : DeviceStreams) : Type 0 where
  pub held : IsStream s.held
  pub kept : IsStream s.kept
  pub entries : IsStream s.entries
  pub counts : IsStream s.counts
  pub fresh : IsStream s.fresh
  pub late1 : IsStream s.late1
  pub late2 : IsStream s.late2

pub record AreCondStreams (s : CondStreams) : Type 0 where
  pub entries : IsStream s.entries
  pub counts : IsStream s.counts

-- the trees of the metadata of the root that a checkpoint holds are lawful
pub record IsCheckpoint (c : Checkpoint) : Type 0 where
  pub head : IsTree c.head
  pub streams : All AreStreams c.streams.items
  pub cond : AreCondStreams c.cond

-- the block of that root
abbrev pub saved_block : Option Checkpoint → Option (List ℕ)
saved_block None = None
saved_block (Some c) = Some c.block

-- the group follows that of the root that was committed last, or is the first
abbrev pub IsAfter : Option Uber → ℕ → Type 0
IsAfter None txg = txg ≡ 1
IsAfter (Some u) txg = IsUber u × (txg ≡ u.txg + 1)

-- the tree of a directory, whose leaves have one unit
pub record IsDirectory (t : Tree) : Type 0 where
  pub tree : IsTree t
  pub low : t.height ≤ 3
  pub unit : IsRootOf t.height t.root

-- The rows of so many devices, of which one at least is in service if there is any, and then rows of zeros: what a root of this version and group may have as its table.
pub record AreRows (version txg count : ℕ) (rows : List DevRow) : Type 0 where
  pub size : length rows ≡ 32
  pub devices : IsTrue (list_all (is_row version txg) (take count rows))
  pub on : 1 ≤ count → IsTrue (list_any (λ r. is_on r.state) (take count rows))
  pub rest : IsTrue (list_all is_no_row (drop count rows))

-- the open group has at most 64 changed blocks and 64 changed objects
pub record IsInLimits (g : Changes) : Type 0 where
  pub blocks : block_count g.objects ≤ 64
  pub objects : length g.objects ≤ 64

-- mappings that changed at their end alone
abbrev pub none_turned : List Turned
none_turned = replicate 32 (record { entries = false; counts = false })

-- A pool of so many devices at least and of 32 at most, whose disks have these sizes. Each device that is there has a disk of its own with all its units, so none lies in a label; one that is gone may have one or none. A root is saved exactly while a checkpoint is held.
pub record IsPool (least : ℕ) (sizes : List ℕ) (pool : OpenPool) : Type 0 where
  pub version : (pool.version ≡ 1) ⊎ (pool.version ≡ 2)
  pub guid : 0 < pool.guid
  pub name : IsName pool.name
  pub some : least ≤ pool.table.count
  pub few : pool.table.count ≤ 32
  pub table : AreRows pool.version pool.group.txg pool.table.count pool.table.rows
  pub slots : length pool.table.slots ≡ 32
  pub first : 1 ≤ pool.group.txg
  pub after : IsAfter pool.last pool.group.txg
  pub group : IsLawfulGroup pool.group
  pub limits : IsInLimits pool.group
  pub dir : IsDirectory pool.dir
  pub head : IsTree pool.head
  pub streams : All AreStreams pool.streams.items
  pub count : length pool.streams.items ≡ pool.table.count
  pub cond : AreCondStreams pool.cond
  pub turned : length pool.turned ≡ 32
  pub saved : IsSaved pool.space.parts.ckpt (saved_block pool.saved)
  pub checkpoint : IfSome pool.saved IsCheckpoint
  pub spelled : pool.space.parts.version ≡ pool.version
  pub devices : length pool.space.parts.devs ≡ pool.table.count
  pub rows : (d : ℕ) → d < pool.table.count → (part_of pool.space.parts.devs d).row ≡ slice_index_or pool.table.rows d no_row
  pub lawful : IsLawful pool.space
  pub mounted : AreMounted sizes pool.table.slots (devices_in pool.space)
  pub disks : (d slot : ℕ) → d < pool.table.count → slot_of pool.table.slots d ≡ Some slot → units_of_size (slice_index sizes slot) 2 ≡ Some (slice_index_or pool.table.rows d no_row).units

-- a pool that is open on disks of these sizes
abbrev pub IsOpen : List ℕ → OpenPool → Type 0
IsOpen sizes pool = IsPool 1 sizes pool

-- the two pools have the same name, identity and devices
pub record IsSameIdentity (old new : OpenPool) : Type 0 where
  pub name : new.name ≡ old.name
  pub guid : new.guid ≡ old.guid
  pub version : new.version ≡ old.version
  pub table : new.table ≡ old.table

-- they have the same name, identity and devices, and their checkpoint stands as it did
pub record IsSamePool (old new : OpenPool) : Type 0 where
  pub name : new.name ≡ old.name
  pub guid : new.guid ≡ old.guid
  pub version : new.version ≡ old.version
  pub table : new.table ≡ old.table
  pub ckpt : new.space.parts.ckpt ≡ old.space.parts.ckpt
