-- What a walk over an open pool meets.
use Rattle.std.specs.Prelude.{◌≡◌, ℕ, ◌+◌, List, [], ◌∷◌, ◌++◌, Option, Some, None}
use Rattle.std.specs.List.{flat_map}
use Rattle.zr_base.specs.declared.space.Dva.{Dva}
use Rattle.zr_bptr.specs.declared.Bptr.{Bptr}
use Rattle.zr_bptr.specs.declared.Tree.{Tree}
use Rattle.zr_bptr.specs.declared.ObjRec.{ObjRec}
use Rattle.zr_lookup.specs.Objects.{record_now, AreObjectBlocks}
use Rattle.zr_store.specs.Store.{Stored}
use Rattle.zr_sync.specs.declared.open.Checkpoint.{Checkpoint}
use Rattle.zr_sync.specs.declared.open.CondStreams.{CondStreams}
use Rattle.zr_sync.specs.declared.open.DeviceStreams.{DeviceStreams}
use Rattle.zr_tree.specs.Trees.{tree_reach}
use Rattle.zr_txg.specs.Changes.{Changes}
use Rattle.zr_vdev.specs.Stores.{addresses_of}

-- the blocks of an object that has this record, and none where it is not there
abbrev pub AreBlocksOf : Stored → Changes → ℕ → Option ObjRec → List Bptr → Type 0
AreBlocksOf s g id None blocks = blocks ≡ []
AreBlocksOf s g id (Some r) blocks = AreObjectBlocks s g id r blocks

-- the blocks of an object as the group has it
abbrev pub AreBlocksNow : Stored → Tree → Changes → ℕ → List Bptr → Type 0
AreBlocksNow s dir g id blocks = AreBlocksOf s g id (record_now s dir g id) blocks

-- the blocks of the objects below an ID, by rising ID
pub data AreBlocksBelow (s : Stored) (dir : Tree) (g : Changes) : ℕ → List Bptr → Type 0 where
  none_below : AreBlocksBelow s dir g 0 []
  one_more : (id : ℕ) (blocks own : List Bptr) → AreBlocksBelow s dir g id blocks → AreBlocksNow s dir g id own → AreBlocksBelow s dir g (id + 1) (blocks ++ own)

-- these are the addresses of the blocks of the directory, and then of those of the objects below an ID
pub record AreMetBelow (s : Stored) (dir : Tree) (g : Changes) (id : ℕ) (met : List Dva) : Type 0 where
  pub blocks : List Bptr
  pub of_objects : AreBlocksBelow s dir g id blocks
  pub all : met ≡ addresses_of (tree_reach s dir ++ blocks)

-- The addresses of the live pointers: of the blocks of the directory, and then of the blocks of all objects.
pub record AreLiveAddresses (s : Stored) (dir : Tree) (g : Changes) (live : List Dva) : Type 0 where
  pub blocks : List Bptr
  pub of_objects : AreBlocksBelow s dir g 65536 blocks
  pub all : live ≡ addresses_of (tree_reach s dir ++ blocks)

-- the trees of a device's streams, in the order of the head: a stream that the device has not is empty
abbrev pub trees_of : DeviceStreams → List Tree
trees_of d = d.held.tree ∷ d.kept.tree ∷ d.entries.tree ∷ d.counts.tree ∷ d.fresh.tree ∷ d.late1.tree ∷ d.late2.tree ∷ []

-- and those of a condensing
abbrev pub cond_trees : CondStreams → List Tree
cond_trees c = c.entries.tree ∷ c.counts.tree ∷ []

-- the blocks of a device's streams
abbrev pub streams_reach : Stored → DeviceStreams → List Bptr
streams_reach s d = flat_map (tree_reach s) (trees_of d)

-- the blocks of a root's metadata: of the head, of each device's streams, and of the streams of the condensing
abbrev pub metadata_reach : Stored → Tree → List DeviceStreams → CondStreams → List Bptr
metadata_reach s head streams cond = tree_reach s head ++ flat_map (streams_reach s) streams ++ flat_map (tree_reach s) (cond_trees cond)

-- the blocks of the metadata of the root that a checkpoint holds, if there is one
abbrev pub saved_reach : Stored → Option Checkpoint → List Bptr
saved_reach s None = []
saved_reach s (Some c) = metadata_reach s c.head c.streams.items c.cond
