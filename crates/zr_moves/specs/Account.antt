-- What an open pool holds beside its disks.
use Rattle.std.specs.Prelude.{◌≡◌, ◌↔◌, ◌≢◌, ℕ, ◌+◌, ◌*◌, ◌≤◌, ◌<◌, true, List, [], ◌++◌, length, map, replicate, Contains, slice_index_or, Option, Some, None, unwrap_or, option_map, Ok}
use Rattle.std.specs.List.{flat_map, range_with_len}
use Rattle.std.specs.FinMap as map
use Rattle.std.specs.FinSet as set
use Rattle.zr_base.specs.declared.space.DevPart.{DevPart}
use Rattle.zr_bptr.specs.declared.Bptr.{Bptr}
use Rattle.zr_bptr.specs.declared.Ptr.{Ptr}
use Rattle.zr_bptr.specs.declared.Ptr.TheVariants.{Hole, At}
use Rattle.zr_bptr.specs.declared.Tree.{Tree}
use Rattle.zr_bptr.specs.declared.ObjRec.{ObjRec}
use Rattle.zr_label.specs.Blocks.{name_of}
use Rattle.zr_label.specs.declared.root.Seen.{Seen}
use Rattle.zr_rules.specs.Places.{is_leaving, part_of, state_of_dev}
use Rattle.zr_rules.specs.Mappings.{end_of_last}
use Rattle.zr_rules.specs.Space.{Space}
use Rattle.zr_rules.specs.Columns.{free_units, sizes}
use Rattle.zr_rules.specs.Equation.{devices_in}
use Rattle.zr_rules.specs.Owed.{owed}
use Rattle.zr_store.specs.Store.{Stored}
use Rattle.zr_tree.specs.Trees.{tree_at, tree_blocks, tree_reach}
use Rattle.zr_objset.specs.Records.{record_of, bytes_of}
use Rattle.zr_txg.specs.Changes.{Changes, object_in, change_in, block_count}
use Rattle.zr_model.specs.Objects.{Object, bytes_at}
use Rattle.zr_model.specs.State.{PoolState}
use Rattle.zr_model.specs.Runs.{Shelf}
use Rattle.zr_image.specs.Current.{ShowsAll, slots_of}
use Rattle.zr_view.specs.Views.{View}
use Rattle.zr_image.specs.Reading.{store_of}
use Rattle.zr_image.specs.Walks.{addresses}
use Rattle.zr_image.specs.Rules.{IsBalanced}
use Rattle.zr_image.specs.Roots.{Root, rows_of, saved_root, meta_of}
use Rattle.zr_image.specs.StateOf.{OpensShelf, IsLost, IsSaved, devices_at, is_discarding}

-- The account of an open pool: its space, the directory of its current root, and what the open group has changed.
pub record Account : Type 0 where
  pub space : Space
  pub dir : Tree
  pub changes : Changes

-- how many objects and blocks the open group has changed
abbrev pub changed_objects : Account → ℕ
changed_objects a = length a.changes.objects

abbrev pub changed_blocks : Account → ℕ
changed_blocks a = block_count a.changes.objects

-- the record of an object as it is now
abbrev pub record_now : Stored → Account → ℕ → Option ObjRec
record_now s a id = unwrap_or (object_in a.changes id) (record_of s a.dir id)

-- the leaf of an object that a record has
abbrev pub leaf_in : Stored → Option ObjRec → ℕ → Ptr
leaf_in s None i = Hole
leaf_in s (Some r) i = tree_at s r.tree i

-- the leaf of an object as it is now
abbrev pub leaf_now : Stored → Account → ℕ → ℕ → Ptr
leaf_now s a id i = unwrap_or (change_in a.changes id i) (leaf_in s (record_now s a id) i)

-- the tree blocks of an object, which a commit alone changes
abbrev pub tree_now : Stored → Option ObjRec → List Bptr
tree_now s None = []
tree_now s (Some r) = tree_blocks s r.tree

-- The live pointers: the blocks of the directory, the tree blocks of the objects that are there, and each leaf as it is now, once.
pub record AreLive (s : Stored) (a : Account) (live : List Bptr) : Type 0 where
  pub leaves : List ((ℕ × ℕ) × Bptr)
  pub each : (id i : ℕ) (b : Bptr) → Contains leaves ((id, i), b) ↔ (leaf_now s a id i ≡ At b)
  pub once : (j k : ℕ) (x : (ℕ × ℕ) × Bptr) → j < length leaves → k < length leaves → slice_index_or leaves j x ≡ slice_index_or leaves k x → j ≡ k
  pub all : live ≡ tree_reach s a.dir ++ (flat_map (λ id. tree_now s (record_now s a id)) (range_with_len 0 65536) ++ map (λ (l : (ℕ × ℕ) × Bptr). l.1) leaves)

-- the object that is there now: its bytes are those of its leaves, and zeros where one is lost
pub record IsObjectNow (s : Stored) (a : Account) (id : ℕ) (r : ObjRec) (o : Object) : Type 0 where
  pub units : o.units ≡ r.units
  pub lost_are : (i : ℕ) → (set.contains o.lost i ≡ true) ↔ IsLost s (leaf_now s a id i)
  pub blocks : (i : ℕ) → ¬ IsLost s (leaf_now s a id i) → bytes_at o.bytes (4096 * r.units * i) (4096 * r.units) ≡ bytes_of s r.units (leaf_now s a id i)
  pub lost : (i : ℕ) → IsLost s (leaf_now s a id i) → bytes_at o.bytes (4096 * r.units * i) (4096 * r.units) ≡ replicate (4096 * r.units) 0
  pub nonzero : (at : ℕ) → map.get o.bytes at ≢ Some 0

abbrev pub IsObjectAt : Stored → Account → ℕ → Option ObjRec → Option Object → Type 0
IsObjectAt s a id None found = found ≡ None
IsObjectAt s a id (Some r) None = ⊥
IsObjectAt s a id (Some r) (Some o) = IsObjectNow s a id r o

-- the roots that the shelf has: the current one, and the one that it saved
pub record HasRoots (shelf : Shelf) (seen : List Seen) (r : Root) (saved : Option Root) : Type 0 where
  pub shows : ShowsAll shelf.disks seen
  pub opens : OpensShelf shelf.disks seen (Ok (r, saved))

-- the disks as the account sees them, through its own mappings
abbrev pub view_now : Shelf → List Seen → Root → Account → View
view_now shelf seen r a = record { disks = shelf.disks; slots = slots_of r.uber seen; devices = devices_in a.space }

abbrev pub store_now : Shelf → List Seen → Root → Account → Stored
store_now shelf seen r a = store_of (view_now shelf seen r a)

-- The account goes on from the root that the shelf has: the same devices, metadata and directory, and the next group.
pub record GoesOn (a : Account) (r : Root) (saved : Option Root) : Type 0 where
  pub dir : a.dir ≡ r.head.dir
  pub group : a.changes.txg ≡ r.uber.txg + 1
  pub version : a.space.parts.version ≡ r.uber.version
  pub rows : map (λ (p : DevPart). p.row) a.space.parts.devs ≡ rows_of r.uber
  pub meta : a.space.meta ≡ addresses r.meta
  pub saved_meta : a.space.saved_meta ≡ addresses (meta_of saved)
  pub synced : (d : ℕ) → is_leaving (state_of_dev r.parts.devs d) ≡ true → a.space.synced ≡ end_of_last (part_of r.parts.devs d).entries

-- The account stands for the state over the shelf as it reads: what its pointers read are the objects, each unit has one use, and there is room for what is owed.
pub record StandsFor (shelf : Shelf) (a : Account) (p : PoolState) : Type 0 where
  pub seen : List Seen
  pub root : Root
  pub saved : Option Root
  pub roots : HasRoots shelf seen root saved
  pub goes_on : GoesOn a root saved
  pub live : List Bptr
  pub are_live : AreLive (store_now shelf seen root a) a live
  pub objects : (id : ℕ) → IsObjectAt (store_now shelf seen root a) a id (record_now (store_now shelf seen root a) a id) (map.get p.objects id)
  pub guid : p.guid ≡ root.uber.guid
  pub name : p.name ≡ name_of root.uber.name
  pub devs : p.devs ≡ devices_at shelf.paths (slots_of root.uber seen) root.uber
  pub saved_is : IsSaved shelf.paths shelf.disks (slots_of root.uber seen) saved p.saved
  pub discarding : p.discarding ≡ is_discarding a.space.parts.ckpt
  pub balanced : IsBalanced a.space (addresses live) (option_map saved_root saved)
  pub room : owed (sizes a.space (changed_blocks a) (changed_objects a)) ≤ free_units a.space
