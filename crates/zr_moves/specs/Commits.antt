-- What a commit does to the account of an open pool, and to the roots of its disks.
use Rattle.std.specs.Prelude.{◌≡◌, ◌↔◌, ◌⊎◌, ℕ, zero, suc, ◌+◌, ◌/◌, ◌==◌, Bool, true, false, not, List, [], ◌∷◌, ◌++◌, map, filter, replicate, Contains, if◌then◌else◌, Option, Some, None, Err}
use Rattle.std.specs.List.{All, flat_map, range_with_len, zip}
use Rattle.zr_base.specs.declared.space.Dva.{Dva}
use Rattle.zr_base.specs.declared.space.DevRow.{DevRow}
use Rattle.zr_base.specs.declared.space.DevState.{DevState}
use Rattle.zr_base.specs.declared.space.DevState.TheVariants as row
use Rattle.zr_base.specs.declared.space.CkptPart.{CkptPart}
use Rattle.zr_base.specs.declared.space.CkptPart.TheVariants as ckpt
use Rattle.zr_base.specs.declared.space.Policy.{Policy}
use Rattle.zr_base.specs.declared.refusal.Refusal.TheVariants.{NoPoolOnDevices}
use Rattle.zr_bptr.specs.declared.Bptr.{Bptr}
use Rattle.zr_bptr.specs.declared.Ptr.{Ptr}
use Rattle.zr_bptr.specs.declared.Ptr.TheVariants.{Hole, At}
use Rattle.zr_bptr.specs.declared.Tree.{Tree}
use Rattle.zr_bptr.specs.declared.ObjRec.{ObjRec}
use Rattle.zr_label.specs.declared.root.Seen.{Seen}
use Rattle.zr_meta.specs.declared.Stream.{Stream}
use Rattle.zr_rules.specs.Places.{part_of, is_fresh}
use Rattle.zr_rules.specs.Space.{Space, role_at}
use Rattle.zr_rules.specs.Frees.{Allocates, AllocatesMeta, DropsMeta, Frees, Chain}
use Rattle.zr_rules.specs.Steps as steps
use Rattle.zr_store.specs.Store.{Stored}
use Rattle.zr_tree.specs.Trees.{kids, slot, digit, tree_at, tree_reach, IsHeightFor}
use Rattle.zr_objset.specs.Records.{record_of}
use Rattle.zr_txg.specs.Changes.{ObjectChange}
use Rattle.zr_model.specs.Runs.{Shelf}
use Rattle.zr_image.specs.Current.{ShowsAll, FindsCurrent, slots_of, reset_of}
use Rattle.zr_image.specs.Walks.{addresses}
use Rattle.zr_image.specs.Roots.{Root, rows_of, head_tree, meta_of, space_with}
use Rattle.zr_image.specs.StateOf.{store_at}
use Rattle.zr_moves.specs.Streams.{KeepsStreams}
use Rattle.zr_moves.specs.Account.{Account, record_now, leaf_now, tree_now, HasRoots, store_now, GoesOn}

-- what a commit goes on from: the group of the current root, that of the last reset, the metadata, the checkpoint, and the block of the saved root
pub record Last : Type 0 where
  pub txg : ℕ
  pub reset : ℕ
  pub meta : List Bptr
  pub ckpt : CkptPart
  pub saved : Option (List ℕ)

-- a shelf with a pool goes on from its roots, and one without from nothing
pub data IsLast (shelf : Shelf) : Last → Type 0 where
  of_root : (seen : List Seen) (r : Root) (saved : Option Root) → HasRoots shelf seen r saved
      → IsLast shelf (record { txg = r.uber.txg; reset = reset_of r.uber; meta = r.meta ++ meta_of saved; ckpt = r.parts.ckpt; saved = r.head.saved })
  of_none : (seen : List Seen) → ShowsAll shelf.disks seen → FindsCurrent seen (Err NoPoolOnDevices) → IsLast shelf (record { txg = 0; reset = 0; meta = []; ckpt = ckpt.Clear; saved = None })

-- an allocation for each address, one after another
abbrev pub AllocatesAll : Policy → ℕ → List Dva → Space → Space → Type 0
AllocatesAll policy want ats old new = Chain (λ at (s t : Space). Allocates policy want s t at) ats old new

-- the same of blocks of metadata
abbrev pub AllocatesAllMeta : Policy → List Dva → Space → Space → Type 0
AllocatesAllMeta policy ats old new = Chain (λ at (s t : Space). AllocatesMeta policy 1 s t at) ats old new

-- a free of each block, by its own birth
abbrev pub FreesAll : List Bptr → Space → Space → Type 0
FreesAll bs old new = Chain (λ (b : Bptr) (s t : Space). Frees s t b.at b.birth) bs old new

-- the stored order: by rising level, and within a level by index
abbrev pub by_level : List Bptr → List Bptr
by_level bs = flat_map (λ l. filter (λ (b : Bptr). b.level == l) bs) (range_with_len 0 6)

-- the blocks that a group wrote
abbrev pub born_in : ℕ → List Bptr → List Bptr
born_in txg bs = filter (λ (b : Bptr). b.birth == txg) bs

-- the tree blocks on the way to a leaf
abbrev pub way_to : Stored → ℕ → Ptr → ℕ → List Bptr
way_to s zero p index = []
way_to s (suc below) Hole index = []
way_to s (suc below) (At b) index = b ∷ way_to s below (slot (kids s below b) (digit below index)) index

-- A tree is written: its new blocks are placed in the stored order, and then those are freed that it has no more.
pub record WritesTree (policy : Policy) (txg : ℕ) (had has : List Bptr) (old new : Space) : Type 0 where
  pub gone : List Bptr
  pub each_gone : (b : Bptr) → Contains gone b ↔ (Contains had b × (Contains has b → ⊥))
  pub mid : Space
  pub placed : AllocatesAll policy 1 (addresses (by_level (born_in txg has))) old mid
  pub freed : FreesAll gone mid new

-- the ways to these leaves are written anew
abbrev pub AreAnew : Stored → ℕ → Tree → List ℕ → Type 0
AreAnew s txg t indices = All (λ i. All (λ (b : Bptr). b.birth ≡ txg) (way_to s t.height t.root i)) indices

-- the ways to the changed blocks of an object that is there are written anew
abbrev pub AreWaysAnew : Stored → ℕ → Option ObjRec → List ℕ → Type 0
AreWaysAnew s txg None indices = Unit {0}
AreWaysAnew s txg (Some r) indices = AreAnew s txg r.tree indices

-- An object that is there has the least height for its changes, from that of its tree on.
abbrev pub HasGrown : Option ObjRec → Option ObjRec → List (ℕ × Ptr) → Type 0
HasGrown None after changes = Unit {0}
HasGrown (Some r) None changes = Unit {0}
HasGrown (Some r) (Some q) changes = IsHeightFor r.tree.height changes q.tree.height

-- a changed object is written, from its tree of the last commit to that of the new root
pub record WritesObject (policy : Policy) (s : Stored) (old : Account) (dir : Tree) (change : ℕ × ObjectChange) (before after : Space) : Type 0 where
  pub tree : WritesTree policy old.changes.txg (tree_now s (record_now s old change.0)) (tree_now s (record_of s dir change.0)) before after
  pub anew : AreWaysAnew s old.changes.txg (record_of s dir change.0) (map (λ (b : ℕ × Ptr). b.0) change.1.blocks)
  pub height : HasGrown (record_now s old change.0) (record_of s dir change.0) change.1.blocks

-- the leaves of the directory that have changed objects
abbrev pub changed_leaves : Account → List ℕ
changed_leaves a = map (λ (c : ℕ × ObjectChange). c.0 / 16) a.changes.objects

-- a hole, or a leaf that the group wrote
abbrev pub IsLeafAnew : ℕ → Ptr → Type 0
IsLeafAnew txg Hole = Unit {0}
IsLeafAnew txg (At b) = b.birth ≡ txg

-- which streams of a device are late
abbrev pub late_streams : ℕ → DevState → List Bool
late_streams form row.On = if form == 1 then replicate 2 false else replicate 2 false ++ replicate 2 true
late_streams form row.Leaving = if form == 1 then replicate 5 false else replicate 5 false ++ replicate 2 true
late_streams form row.Gone = replicate 3 false

-- which streams of a root are late; those of what is condensed are not
abbrev pub are_late : Root → List Bool
are_late r = flat_map (λ (d : DevRow). late_streams r.head.form d.state) (rows_of r.uber) ++ replicate 2 false

-- the streams of a root that are late, or that are not
abbrev pub streams_where : Bool → Root → List Stream
streams_where late r = map (λ (p : Stream × Bool). p.0) (filter (λ (p : Stream × Bool). if late then p.1 else not p.1) (zip r.head.streams (are_late r)))

-- the blocks of metadata in the stored order: streams in the order of the head, then the late ones, then the head
abbrev pub stored_meta : Stored → Root → List Bptr
stored_meta s r =
    flat_map (λ (t : Stream). by_level (tree_reach s t.tree)) (streams_where false r ++ streams_where true r) ++ by_level (tree_reach s (head_tree r.uber))

-- the space of a root that was just read: the same roles and marks, and the same mappings
pub record IsSpaceOf (s : Space) (r : Root) (saved : Option Root) : Type 0 where
  pub roles : (d u : ℕ) → role_at s d u ≡ role_at (space_with r (meta_of saved)) d u
  pub fresh : (d u : ℕ) → is_fresh s.parts.devs d u ≡ is_fresh r.parts.devs d u
  pub entries : (d : ℕ) → (part_of s.parts.devs d).entries ≡ (part_of r.parts.devs d).entries
  pub counts : (d : ℕ) → (part_of s.parts.devs d).counts ≡ (part_of r.parts.devs d).counts
  pub cond : s.parts.cond ≡ r.parts.cond
  pub ckpt : s.parts.ckpt ≡ r.parts.ckpt

-- the account of a pool that was just opened or committed: the roots of the shelf, and nothing open
pub record IsOpened (shelf : Shelf) (seen : List Seen) (r : Root) (saved : Option Root) (a : Account) : Type 0 where
  pub roots : HasRoots shelf seen r saved
  pub space : IsSpaceOf a.space r saved
  pub goes_on : GoesOn a r saved
  pub none : a.changes.objects ≡ []

-- each block of metadata is written anew
abbrev pub IsAllAnew : Root → Type 0
IsAllAnew r = All (λ (b : Bptr). b.birth ≡ r.uber.txg) r.meta

-- A commit: the trees of the changed objects are written by rising ID and then the directory, the metadata is placed and the old metadata given back, and the
-- group ends. The new current root has the next group, and the account is what the disks then have.
pub record Commits (policy : Policy) (is_reset : Bool) (before after : Shelf) (old new : Account) : Type 0 where
  pub last : Last
  pub was : IsLast before last
  pub seen : List Seen
  pub root : Root
  pub saved : Option Root
  pub opened : IsOpened after seen root saved new
  pub txg : root.uber.txg ≡ last.txg + 1
  pub reset : root.uber.reset ≡ (if is_reset then last.txg + 1 else last.reset)
  pub kept_root : root.parts.ckpt ≡ last.ckpt → root.head.saved ≡ last.saved
  pub store : Stored
  pub store_is : store ≡ store_now after seen root new
  pub objects : Space
  pub trees : Space
  pub full : Space
  pub dropped : Space
  pub written : Chain (WritesObject policy store old root.head.dir) old.changes.objects old.space objects
  pub directory : WritesTree policy old.changes.txg (tree_reach store old.dir) (tree_reach store root.head.dir) objects trees
  pub ways : AreAnew store old.changes.txg root.head.dir (changed_leaves old)
  pub leaves : All (λ i. IsLeafAnew old.changes.txg (tree_at store root.head.dir i)) (changed_leaves old)
  pub height : IsHeightFor old.dir.height (map (λ i. (i, tree_at store root.head.dir i)) (changed_leaves old)) root.head.dir.height
  pub pointers : (id i : ℕ) → leaf_now store new id i ≡ leaf_now store old id i
  pub streams : (seen_before : List Seen) (r : Root) (saved_before : Option Root) → HasRoots before seen_before r saved_before → IsAllAnew root ⊎ KeepsStreams r root (store_at before.disks (slots_of r.uber seen_before) r) store
  pub meta : AllocatesAllMeta policy (addresses (born_in root.uber.txg (stored_meta store root))) trees full
  pub gone : List Bptr
  pub each_gone : (b : Bptr) → Contains gone b ↔ (Contains last.meta b × (Contains (root.meta ++ meta_of saved) b → ⊥))
  pub drops : DropsMeta full dropped (addresses gone)
  pub ends : steps.Commits is_reset dropped new.space

-- nothing commits: the disks have the same roots as before
pub record KeepsRoots (before after : Shelf) : Type 0 where
  pub last : Last
  pub was : IsLast before last
  pub is_still : IsLast after last
