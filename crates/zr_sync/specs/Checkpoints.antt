-- A checkpoint that is taken, and one that is given up.
use Rattle.std.specs.Prelude.{◌≡◌, ℕ, ◌+◌, ◌⊎◌, Bool, true, false, List, [], Some, None, IfSome, All, length, map}
use Rattle.zr_base.specs.declared.space.CkptPart.TheVariants.{Discarding}
use Rattle.zr_label.specs.Blocks.{SpellsUber}
use Rattle.zr_label.specs.declared.root.Uber.{Uber}
use Rattle.zr_rules.specs.Roles.Role.{DeferredMeta, SavedMeta}
use Rattle.zr_rules.specs.Space.{Space, role_at}
use Rattle.zr_rules.specs.Steps.{HoldsCheckpoint, with_ckpt}
use Rattle.zr_model.specs.Objects.{Objects}
use Rattle.zr_shelf.specs.Moments.{IsStill, World}
use Rattle.zr_vdev.specs.Stores.{KeepsOthers}
use Rattle.zr_vdev.specs.declared.kind.Kind.TheVariants.{Meta}
use Rattle.zr_sync.specs.Empty.{no_cond, no_stream, no_streams}
use Rattle.zr_sync.specs.Commits.{EndsGroup, IsNextRoot, IsShownFrom}
use Rattle.zr_sync.specs.Ends.{EndsCommitted}
use Rattle.zr_sync.specs.Leads.{CommitsObjects}
use Rattle.zr_sync.specs.Pools.{IsOpen}
use Rattle.zr_sync.specs.Trees.{HasLastTrees}
use Rattle.zr_sync.specs.Writes.{WritesIntoFree}
use Rattle.zr_sync.specs.declared.open.DeviceStreams.{DeviceStreams}
use Rattle.zr_sync.specs.declared.open.OpenPool.{OpenPool}

-- metadata of the saved root is given back, and nothing else is changed: where there is none, nothing at all
pub record GivesSavedMeta (old new : Space) : Type 0 where
  pub roles : (d u : ℕ) → (role_at new d u ≡ role_at old d u) ⊎ ((role_at old d u ≡ SavedMeta) × (role_at new d u ≡ DeferredMeta))
  pub others : KeepsOthers Meta old new
  pub nothing : old.saved_meta ≡ [] → new ≡ old

-- The last root is saved: its block is kept, with where its metadata stands, and all of that is the saved root's from here on. So the pool has no streams and no head until it is committed.
pub record SavesRoot (old new : OpenPool) : Type 0 where
  pub root : Uber
  pub last : old.last ≡ Some root
  pub block : List ℕ
  pub spelled : SpellsUber block root
  pub saved : new.saved ≡ Some (record { block = block; head = old.head; streams = old.streams; cond = old.cond })
  pub given : Space
  pub gives : GivesSavedMeta old.space given
  pub holds : HoldsCheckpoint given new.space root.txg
  pub streams : All (λ (s : DeviceStreams). s ≡ no_streams) new.streams.items
  pub count : length new.streams.items ≡ length old.streams.items
  pub cond : new.cond ≡ no_cond
  pub head : new.head ≡ no_stream.tree
  pub rest : new ≡ record old { space = new.space; saved = new.saved; head = new.head; streams = new.streams; cond = new.cond }

-- No root is saved any more: its metadata is given back, and what is kept waits to be.
pub record DropsRoot (old new : OpenPool) : Type 0 where
  pub none : new.saved ≡ None
  pub gives : GivesSavedMeta (with_ckpt old.space Discarding) new.space
  pub nothing : new.space.saved_meta ≡ []
  pub rest : new ≡ record old { space = new.space; saved = None }

-- A checkpoint is taken: the open group ends, the root that it leaves is saved, and a root behind that tells so.
pub record TakesCheckpoint (sizes : List ℕ) (told : Type 0) (now : World) (old new : OpenPool) : Type 0 where
  pub ended : OpenPool
  pub mid : World
  pub root : IfSome ended.last (IsNextRoot old false)
  pub ends : EndsGroup false old.space ended.space
  pub shown : told → IfSome ended.last (λ u. (before : World) × IsShownFrom sizes old u before mid)
  pub held : OpenPool
  pub saves : SavesRoot ended held
  pub next : IfSome new.last (IsNextRoot held true)
  pub resets : EndsGroup true held.space new.space
  pub next_shown : told → IfSome new.last (λ u. (before : World) × IsShownFrom sizes held u before now)
  pub saved : new.saved ≡ held.saved

-- A checkpoint is given up: no root is saved any more, and the open group ends with a reset that tells so.
pub record GivesUpCheckpoint (sizes : List ℕ) (told : Type 0) (now : World) (old new : OpenPool) : Type 0 where
  pub dropped : OpenPool
  pub drops : DropsRoot old dropped
  pub root : IfSome new.last (IsNextRoot dropped true)
  pub resets : EndsGroup true dropped.space new.space
  pub shown : told → IfSome new.last (λ u. (before : World) × IsShownFrom sizes dropped u before now)
  pub saved : new.saved ≡ None

-- ---- on the disks

-- Between the two moments a pool was committed: units were written, and then its next root was published.
pub record CommitsOn (sizes : List ℕ) (reset : Bool) (before now : World) (old new : OpenPool) : Type 0 where
  pub ready : IsOpen sizes old
  pub later : IsOpen sizes new
  pub sized : map length before.now.seen ≡ sizes
  pub txg : new.group.txg ≡ old.group.txg + 1
  pub root : IfSome new.last (IsNextRoot old reset)
  pub wrote : IfSome new.last (λ u. (mid : World) × WritesIntoFree old before mid × IsShownFrom sizes old u mid now)
  pub guid : new.guid ≡ old.guid
  pub table : new.table ≡ old.table

-- so it was twice, and in between the root was saved
pub record CommitsTwice (sizes : List ℕ) (before now : World) (old new : OpenPool) : Type 0 where
  pub ended : OpenPool
  pub mid : World
  pub first : CommitsOn sizes false before mid old ended
  pub held : OpenPool
  pub saves : SavesRoot ended held
  pub second : CommitsOn sizes true mid now held new

-- so it was once, when no root was saved any more
pub record CommitsWithout (sizes : List ℕ) (before now : World) (old new : OpenPool) : Type 0 where
  pub dropped : OpenPool
  pub drops : DropsRoot old dropped
  pub commits : CommitsOn sizes true before now dropped new

-- A checkpoint is given up, wherever that stops: nothing was done, or the pool without a saved root was being committed with these objects, by a reset.
abbrev pub GivesUpInPart : List ℕ → Objects → OpenPool → World → World → Type 0
GivesUpInPart sizes objects old before now = IsStill before now ⊎ ((dropped : OpenPool) × IsOpen sizes dropped × DropsRoot old dropped × CommitsObjects ⊥ sizes dropped true objects before now)

-- The group was committed with these objects, and the pool that saves the root of that was being committed with them.
pub record TakesBehind (sizes : List ℕ) (objects : Objects) (old : OpenPool) (before now : World) : Type 0 where
  pub ended : OpenPool
  pub mid : World
  pub first : EndsCommitted sizes false old ended objects before mid
  pub held : OpenPool
  pub ready : IsOpen sizes held
  pub saves : SavesRoot ended held
  pub second : CommitsObjects (HasLastTrees before.now.seen old) sizes held true objects mid now

-- Wherever the taking of a checkpoint stops: in the first commit, or in the second one.
abbrev pub TakesInPart : List ℕ → Objects → OpenPool → World → World → Type 0
TakesInPart sizes objects old before now = CommitsObjects (HasLastTrees before.now.seen old) sizes old false objects before now ⊎ TakesBehind sizes objects old before now
