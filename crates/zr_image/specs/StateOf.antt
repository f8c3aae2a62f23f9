-- The pool that an image of the disks shows.
use Rattle.std.specs.Prelude.{◌≡◌, ◌≢◌, ◌↔◌, ℕ, ◌*◌, Bool, true, false, List, [], map, replicate, slice_index_or, Option, Some, None, Result, Ok, Err}
use Rattle.std.specs.List.{enumerate_from}
use Rattle.std.specs.FinMap as map
use Rattle.std.specs.FinSet as set
use Rattle.sha2.specs.Sha256.{sha256}
use Rattle.zr_base.specs.declared.space.DevRow.{DevRow}
use Rattle.zr_base.specs.declared.space.DevState.{DevState}
use Rattle.zr_base.specs.declared.space.DevState.TheVariants as row
use Rattle.zr_base.specs.declared.space.CkptPart.{CkptPart}
use Rattle.zr_base.specs.declared.space.CkptPart.TheVariants as ckpt
use Rattle.zr_base.specs.declared.refusal.Refusal.{Refusal}
use Rattle.zr_base.specs.declared.refusal.Refusal.TheVariants.{NoPoolOnDevices}
use Rattle.zr_bptr.specs.declared.Ptr.{Ptr}
use Rattle.zr_bptr.specs.declared.Ptr.TheVariants.{Hole, At}
use Rattle.zr_bptr.specs.declared.Tree.{Tree}
use Rattle.zr_bptr.specs.declared.ObjRec.{ObjRec}
use Rattle.zr_label.specs.Blocks.{name_of}
use Rattle.zr_label.specs.declared.root.Uber.{Uber}
use Rattle.zr_label.specs.declared.root.Seen.{Seen}
use Rattle.zr_store.specs.Store.{Stored}
use Rattle.zr_tree.specs.Trees.{tree_at}
use Rattle.zr_objset.specs.Records.{record_of, block_of}
use Rattle.zr_model.specs.Objects.{Object, Objects, bytes_at}
use Rattle.zr_model.specs.State.{Device, InService, Leaving, Removed, Saved, PoolState, ShelfPart, Empty, Refused, Is}
use Rattle.zr_image.specs.Checks.{Check, ◌>>=◌}
use Rattle.zr_image.specs.Current.{ShowsAll, FindsCurrent, IsGroup, IsInWindow, slots_of}
use Rattle.zr_image.specs.Reading.{store_of}
use Rattle.zr_image.specs.Roots.{Root, view_of, rows_of, OpensRoot}

-- a leaf is lost where its bytes have another sum than its pointer
abbrev pub IsLost : Stored → Ptr → Type 0
IsLost s Hole = ⊥
IsLost s (At b) = sha256 (s.bytes b) ≢ b.sum

-- The object of a record: its bytes are those of its blocks, and zeros where a block is lost.
pub record IsObject (s : Stored) (r : ObjRec) (o : Object) : Type 0 where
  pub units : o.units ≡ r.units
  pub lost_are : (i : ℕ) → (set.contains o.lost i ≡ true) ↔ IsLost s (tree_at s r.tree i)
  pub blocks : (i : ℕ) → ¬ IsLost s (tree_at s r.tree i) → bytes_at o.bytes (4096 * r.units * i) (4096 * r.units) ≡ block_of s r i
  pub lost : (i : ℕ) → IsLost s (tree_at s r.tree i) → bytes_at o.bytes (4096 * r.units * i) (4096 * r.units) ≡ replicate (4096 * r.units) 0
  pub nonzero : (at : ℕ) → map.get o.bytes at ≢ Some 0

-- there is an object where there is a record, and it is the record's
abbrev pub IsObjectOf : Stored → Option ObjRec → Option Object → Type 0
IsObjectOf s None found = found ≡ None
IsObjectOf s (Some r) None = ⊥
IsObjectOf s (Some r) (Some o) = IsObject s r o

-- the objects of a directory
abbrev pub AreObjects : Stored → Tree → Objects → Type 0
AreObjects s dir objects = (id : ℕ) → IsObjectOf s (record_of s dir id) (map.get objects id)

-- the disks as a root sees them, as a store of its blocks
abbrev pub store_at : List (List ℕ) → List (Option ℕ) → Root → Stored
store_at disks slots r = store_of (view_of disks slots r)

-- a device, with the path of its slot
abbrev pub device_at : List (List ℕ) → DevState → Option ℕ → Device
device_at paths state None = Removed
device_at paths row.On (Some slot) = InService (slice_index_or paths slot [])
device_at paths row.Leaving (Some slot) = Leaving (slice_index_or paths slot [])
device_at paths row.Gone (Some slot) = Removed

-- the devices of a root by index, with the paths of their slots
abbrev pub devices_at : List (List ℕ) → List (Option ℕ) → Uber → List Device
devices_at paths slots u = map (λ (p : ℕ × DevRow). device_at paths p.1.state (slice_index_or slots p.0 None)) (enumerate_from 0 (rows_of u))

abbrev pub is_discarding : CkptPart → Bool
is_discarding ckpt.Discarding = true
is_discarding _ = false

-- what is saved: the objects of the saved root through its own mappings, and its devices
abbrev pub IsSaved : List (List ℕ) → List (List ℕ) → List (Option ℕ) → Option Root → Option Saved → Type 0
IsSaved paths disks slots None saved = saved ≡ None
IsSaved paths disks slots (Some r) None = ⊥
IsSaved paths disks slots (Some r) (Some saved) = AreObjects (store_at disks slots r) r.head.dir saved.objects × (saved.devs ≡ devices_at paths slots r.uber)

-- A root and the one that it saved mean this pool.
pub record Means (paths disks : List (List ℕ)) (slots : List (Option ℕ)) (r : Root) (saved : Option Root) (p : PoolState) : Type 0 where
  pub guid : p.guid ≡ r.uber.guid
  pub name : p.name ≡ name_of r.uber.name
  pub objects : AreObjects (store_at disks slots r) r.head.dir p.objects
  pub saved_is : IsSaved paths disks slots saved p.saved
  pub devs : p.devs ≡ devices_at paths slots r.uber
  pub discarding : p.discarding ≡ is_discarding r.parts.ckpt

-- What an import comes to: the current root with the one that it saved, or the first refusal.
abbrev pub OpensShelf : List (List ℕ) → List Seen → Check (Root × Option Root)
OpensShelf disks seen = do
  u ← FindsCurrent seen
  OpensRoot disks (slots_of u seen) u

-- What the shelf has by that: the pool of the roots, nothing where no slot shows a root, or a pool that cannot be opened.
abbrev pub IsPart : List (List ℕ) → List (List ℕ) → List Seen → Result (Root × Option Root) Refusal → ShelfPart → Type 0
IsPart paths disks seen (Ok roots) Empty = ⊥
IsPart paths disks seen (Ok roots) (Refused r) = ⊥
IsPart paths disks seen (Ok roots) (Is p) = Means paths disks (slots_of roots.0.uber seen) roots.0 roots.1 p
IsPart paths disks seen (Err NoPoolOnDevices) part = part ≡ Empty
IsPart paths disks seen (Err r) part = part ≡ Refused r

-- what the disks mean, by what their slots show
pub record IsShelf (paths disks : List (List ℕ)) (seen : List Seen) (part : ShelfPart) : Type 0 where
  pub outcome : Result (Root × Option Root) Refusal
  pub opens : OpensShelf disks seen outcome
  pub part_is : IsPart paths disks seen outcome part

-- What the disks mean.
pub record StateOf (paths disks : List (List ℕ)) (part : ShelfPart) : Type 0 where
  pub seen : List Seen
  pub shows : ShowsAll disks seen
  pub shelf : IsShelf paths disks seen part

-- What the disks mean by the root of a group that is kept.
pub record StateAt (paths disks : List (List ℕ)) (txg : ℕ) (part : ShelfPart) : Type 0 where
  pub seen : List Seen
  pub shows : ShowsAll disks seen
  pub current : Uber
  pub found : FindsCurrent seen (Ok current)
  pub in_window : IsInWindow seen current txg
  pub uber : Uber
  pub group : IsGroup seen current txg uber
  pub outcome : Result (Root × Option Root) Refusal
  pub opens : OpensRoot disks (slots_of uber seen) uber outcome
  pub part_is : IsPart paths disks seen outcome part
