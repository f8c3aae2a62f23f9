-- The head of an open pool, as it stands on the disks.
use Rattle.std.specs.Prelude.{◌≡◌, ℕ, true, List, [], ◌∷◌, ◌++◌, All, length, take, Option, Some, None}
use Rattle.zr_base.specs.declared.space.CondPart.{CondPart}
use Rattle.zr_base.specs.declared.space.DevRow.{DevRow}
use Rattle.zr_base.specs.declared.space.DevState.{DevState}
use Rattle.zr_base.specs.declared.space.DevState.TheVariants.{On, Leaving, Gone}
use Rattle.zr_base.specs.declared.space.Dva.{Dva}
use Rattle.zr_bptr.specs.declared.Bptr.{Bptr}
use Rattle.zr_bptr.specs.declared.Ptr.{Ptr}
use Rattle.zr_bptr.specs.declared.Tree.{Tree}
use Rattle.zr_meta.specs.declared.CondAt.{CondAt}
use Rattle.zr_meta.specs.declared.Head.{Head}
use Rattle.zr_meta.specs.declared.Stream.{Stream}
use Rattle.zr_meta.specs.Heads.{IsHead, head_bytes, stream_count}
use Rattle.zr_root.specs.Streams.{HasBytes, IsTreeFor}
use Rattle.zr_image.specs.Reading.{store_of}
use Rattle.zr_rules.specs.Equation.{devices_in}
use Rattle.zr_rules.specs.Resolve.{leads_to}
use Rattle.zr_rules.specs.Roles.{is_meta_role}
use Rattle.zr_rules.specs.Space.{Space, role_at}
use Rattle.zr_tree.specs.Trees.{tree_reach}
use Rattle.zr_view.specs.Views.{View}
use Rattle.zr_vdev.specs.Caches.{AreRead}
use Rattle.zr_vdev.specs.Runs.{view_of}
use Rattle.zr_sync.specs.Pools.{saved_block}
use Rattle.zr_sync.specs.declared.open.CondStreams.{CondStreams}
use Rattle.zr_sync.specs.declared.open.DeviceStreams.{DeviceStreams}
use Rattle.zr_sync.specs.declared.open.OpenPool.{OpenPool}

-- the streams that a device of this state has, in the order of the head
abbrev pub streams_in : DevState → DeviceStreams → List Stream
streams_in On d = d.held ∷ d.kept ∷ d.late1 ∷ d.late2 ∷ []
streams_in Leaving d = d.held ∷ d.kept ∷ d.entries ∷ d.counts ∷ d.fresh ∷ d.late1 ∷ d.late2 ∷ []
streams_in Gone d = d.entries ∷ d.counts ∷ d.fresh ∷ []

-- those of all devices, which have these rows
abbrev pub streams_of : List DevRow → List DeviceStreams → List Stream
streams_of [] devices = []
streams_of (r ∷ rows) [] = []
streams_of (r ∷ rows) (d ∷ devices) = streams_in r.state d ++ streams_of rows devices

-- the streams of a device that a head of this form has: in the first form those of its late sets, which come last, are not among them
abbrev pub told_in : ℕ → DevState → DeviceStreams → List Stream
told_in form state d = take (stream_count form state) (streams_in state d)

-- those of all devices, which have these rows
abbrev pub told_of : ℕ → List DevRow → List DeviceStreams → List Stream
told_of form [] devices = []
told_of form (r ∷ rows) [] = []
told_of form (r ∷ rows) (d ∷ devices) = told_in form r.state d ++ told_of form rows devices

-- the condensing that goes on, as the head tells it, and the streams that it has
abbrev pub cond_at : Option CondPart → Option CondAt
cond_at None = None
cond_at (Some c) = Some (record { dev = c.dev; at = c.at })

abbrev pub cond_streams : Option CondAt → CondStreams → List Stream
cond_streams None s = []
cond_streams (Some c) s = s.entries ∷ s.counts ∷ []

-- the head of an open pool: its directory, its streams, its checkpoint and its condensing
abbrev pub head_of : OpenPool → Head
head_of pool = record { form = 2; dir = pool.dir; saved = saved_block pool.saved; ckpt = pool.space.parts.ckpt; cond = cond_at pool.space.parts.cond; streams = streams_of (take pool.table.count pool.table.rows) pool.streams.items ++ cond_streams (cond_at pool.space.parts.cond) pool.cond }

-- what the disks have is told as they read, and what is cached is what stands there
pub record IsSeen (tells : Type 0) (disks : List (List ℕ)) (pool : OpenPool) : Type 0 where
  pub told : tells
  pub read : AreRead disks pool.table.slots pool.space pool.cache

-- The head is one under this table, has so many bytes, and stands in the tree of that length with this root.
pub record StandsHead (table : List DevRow) (view : View) (h : Head) (root : Ptr) (len : ℕ) : Type 0 where
  pub lawful : IsHead table h
  pub length_is : length (head_bytes h) ≡ len
  pub stands : (t : Tree) → IsTreeFor len root t → HasBytes (store_of view) t (head_bytes h)

-- the disks have the pool's head at this root
abbrev pub HasHead : List (List ℕ) → OpenPool → Ptr → ℕ → Type 0
HasHead disks pool root len = StandsHead (take pool.table.count pool.table.rows) (view_of disks pool.table.slots pool.space) (head_of pool) root len

-- The disks have a head with the pool's directory at this root, under the pool's table. It need not be the one that the pool would write: a head of the first form tells of no late sets.
pub record HasDirectory (disks : List (List ℕ)) (pool : OpenPool) (root : Ptr) (len : ℕ) : Type 0 where
  pub head : Head
  pub lawful : IsHead (take pool.table.count pool.table.rows) head
  pub same : head.dir ≡ pool.dir
  pub stands : (t : Tree) → IsTreeFor len root t → HasBytes (store_of (view_of disks pool.table.slots pool.space)) t (head_bytes head)

-- each unit to which the address leads has metadata
abbrev pub IsInMetadata : Space → Dva → Type 0
IsInMetadata s a = (d u : ℕ) → leads_to (devices_in s) a d u ≡ true → is_meta_role (role_at s d u) ≡ true

-- the blocks of the tree of that length with this root lie in units of metadata
abbrev pub LiesInMetadata : Space → View → Ptr → ℕ → Type 0
LiesInMetadata space view root len = (t : Tree) → IsTreeFor len root t → All (λ (b : Bptr). IsInMetadata space b.at) (tree_reach (store_of view) t)

-- The blocks of the pool's head at this root lie in units of metadata. So none of these units is free, or the open group's own.
abbrev pub HasSafeHead : List (List ℕ) → OpenPool → Ptr → ℕ → Type 0
HasSafeHead disks pool root len = LiesInMetadata pool.space (view_of disks pool.table.slots pool.space) root len
