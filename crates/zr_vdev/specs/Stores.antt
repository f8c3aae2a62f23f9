-- What a store of blocks on a shelf holds, and what its calls leave alone.
use Rattle.std.specs.Prelude.{◌≡◌, ℕ, ◌≤◌, ◌<◌, Bool, true, false, ◌||◌, ◌⊎◌, List, [], Option, Some, None, All, length, map}
use Rattle.zr_base.specs.declared.space.Dva.{Dva}
use Rattle.zr_bptr.specs.declared.Bptr.{Bptr}
use Rattle.zr_shelf.specs.Counts.{Counts, NoneFell}
use Rattle.zr_shelf.specs.Disks.{PendingWrite}
use Rattle.zr_shelf.specs.Moments.{World, IsStill}
use Rattle.zr_shelf.specs.Doings.{WritesOnly}
use Rattle.zr_chain.specs.declared.visit.Visited.{Visited}
use Rattle.zr_chain.specs.declared.visit.Visited.TheVariants.{Piece}
use Rattle.zr_rules.specs.Places.{Place, is_on, is_fresh, in_address, part_of, state_of_dev}
use Rattle.zr_rules.specs.Devices.{Devices}
use Rattle.zr_rules.specs.Roles.{Role, is_live_role, is_copy_role, is_meta_role, is_free_role, is_held_role, is_deferred_role}
use Rattle.zr_rules.specs.Roles.Role.{Free, FreshLive, FreshCopy, Meta as CurrentMeta}
use Rattle.zr_rules.specs.Space.{Space, role_at, IsLawful}
use Rattle.zr_rules.specs.Equation.{devices_in, live_hits, Spends}
use Rattle.zr_rules.specs.Resolve.{is_resolved, leads_to}
use Rattle.zr_rules.specs.Frees.{IsSamePart, IsSameRoot, MarksNothing}
use Rattle.zr_space.specs.Freeing.{is_shared}
use Rattle.zr_store.specs.Store.{Stored, IsOnce, hits}
use Rattle.zr_view.specs.Views.{address_bytes}
use Rattle.zr_cache.specs.declared.table.Cache.{Cache}
use Rattle.zr_cache.specs.Entries.{capacity}
use Rattle.zr_vdev.specs.declared.kind.Kind.{Kind}
use Rattle.zr_vdev.specs.declared.kind.Kind.TheVariants.{Block, Meta}
use Rattle.zr_vdev.specs.Runs.{view_of}
use Rattle.zr_vdev.specs.Puts.{IsWriteOf, GivesBack}
pub use Rattle.zr_vdev.specs.Events.{IsInUse}
use Rattle.zr_vdev.specs.Events.{Happen}
use Rattle.zr_vdev.specs.Caches.{AreRead}
use Rattle.zr_vdev.specs.Alike.{CopiesStand, IsCopyAt}

-- ---- what is held

-- The addresses may be given back one after another: no block passes an obsolete unit, and no entry on the way has more obsolete and passed units than units. Metadata
-- passes nothing.
abbrev pub MayGoBack : Kind → Space → List Dva → Type 0
MayGoBack Block s list = Spends s list
MayGoBack Meta s list = Unit {0}

-- the address leads to none of the other's units, if there is one
abbrev pub IsApart : Devices → Option Dva → Dva → Type 0
IsApart ds None a = Unit {0}
IsApart ds (Some lost) a = (d u : ℕ) → leads_to ds a d u ≡ true → in_address lost d u ≡ false

-- the address is in use, and what stands where it leads was put there: no unit is one that a put took and could not write
pub record IsStoredAt (kind : Kind) (s : Space) (lost : Option Dva) (a : Dva) : Type 0 where
  pub used : IsInUse kind s a
  pub whole : IsApart (devices_in s) lost a

-- what a put took is in use, on a device in service
pub record IsTaken (kind : Kind) (s : Space) (a : Dva) : Type 0 where
  pub used : IsInUse kind s a
  pub serves : is_on (state_of_dev s.parts.devs a.dev) ≡ true

-- the part is there, and has a unit of the address
abbrev pub shares : Dva → Visited → Bool
shares a v = is_shared (Piece 0 a.dev (record { start = a.start; len = a.len })) v

-- units that a put took for nothing are given back, where they are still in use
abbrev pub GivesBackLost : Kind → Space → Space → Option Dva → ℕ → Type 0
GivesBackLost kind old new None txg = new ≡ old
GivesBackLost kind old new (Some at) txg = (IsInUse kind old at × GivesBack kind old new at txg) ⊎ (¬ IsInUse kind old at × (new ≡ old))

abbrev pub addresses_of : List Bptr → List Dva
addresses_of pointers = map (λ (b : Bptr). b.at) pointers

-- Each unit in use by blocks is one to which some pointer leads, and each copy is one of a unit in use.
pub record LeadsToAll (s : Space) (list : List Dva) : Type 0 where
  pub used : (d u : ℕ) → is_live_role (role_at s d u) ≡ true → 0 < live_hits (devices_in s) list d u
  pub copied : (d u : ℕ) (p : Place) → IsCopyAt s d u p → is_live_role (role_at s d u) ≡ true

-- the unit has metadata of the current root
abbrev pub is_current : Role → Bool
is_current CurrentMeta = true
is_current _ = false

-- The addresses lead to each unit of the current root's metadata, and to no other.
pub record LeadsToMeta (s : Space) (list : List Dva) : Type 0 where
  pub used : (d u : ℕ) → is_current (role_at s d u) ≡ true → 0 < live_hits (devices_in s) list d u
  pub current : (d u : ℕ) → 0 < live_hits (devices_in s) list d u → is_current (role_at s d u) ≡ true

abbrev pub IsAll : Kind → Space → List Dva → Type 0
IsAll Block s list = LeadsToAll s list
IsAll Meta s list = LeadsToMeta s list

-- The pointers are those of blocks that are stored, no two of which lead to one unit, so no address comes twice. Each leads to units, and all may be given back one after another. They are
-- all: units in use to which none leads there are not, so none that a put took for nothing. A pointer has the bytes of its address, and none where no block is stored: what stands in free units is nothing.
pub record HoldsBlocks (kind : Kind) (slots : List (Option ℕ)) (tells : Type 0) (disks : List (List ℕ)) (space : Space) (lost : Option Dva) (cache : Cache) (s : Stored) : Type 0 where
  pub told : tells
  pub settled : lost ≡ None
  pub read : AreRead disks slots space cache
  pub stored : All (λ (b : Bptr). IsStoredAt kind space lost b.at) s.pointers
  pub once : (d u : ℕ) → live_hits (devices_in space) (addresses_of s.pointers) d u ≤ 1
  pub all : IsAll kind space (addresses_of s.pointers)
  pub back : MayGoBack kind space (addresses_of s.pointers)
  pub alone : IsOnce s
  pub resolves : (at : Dva) → 0 < hits s.pointers at → is_resolved (devices_in space) at ≡ true
  pub there : (b : Bptr) → IsStoredAt kind space lost b.at → s.bytes b ≡ address_bytes (view_of disks slots space) b.at
  pub nothing : (b : Bptr) → ¬ IsStoredAt kind space lost b.at → s.bytes b ≡ []

-- A store that is only read: these blocks are there, no address twice, each leads to units, and each pointer has the bytes of its address.
pub record HoldsRead (slots : List (Option ℕ)) (tells : Type 0) (disks : List (List ℕ)) (space : Space) (cache : Cache) (s : Stored) : Type 0 where
  pub told : tells
  pub read : AreRead disks slots space cache
  pub alone : IsOnce s
  pub resolves : (at : Dva) → 0 < hits s.pointers at → is_resolved (devices_in space) at ≡ true
  pub bytes : (b : Bptr) → s.bytes b ≡ address_bytes (view_of disks slots space) b.at

-- ---- what is left alone

-- free, or allocated by the open group
abbrev pub is_open_role : Role → Bool
is_open_role Free = true
is_open_role FreshLive = true
is_open_role FreshCopy = true
is_open_role _ = false

-- Units that a store may write. A block that the open group allocated is free as soon as it is given back.
abbrev pub may_write : Kind → Role → Bool
may_write Block r = is_open_role r
may_write Meta r = is_free_role r

-- roles that a store changes
abbrev pub may_change : Kind → Role → Bool
may_change Block r = is_free_role r || (is_live_role r || is_copy_role r)
may_change Meta r = is_free_role r || is_meta_role r

-- the write has units that the store might write
pub record IsWriteInto (kind : Kind) (slots : List (Option ℕ)) (s : Space) (w : PendingWrite) : Type 0 where
  pub at : Dva
  pub is : IsWriteOf slots at w
  pub some : 0 < at.len
  pub open_units : (u : ℕ) → in_address at at.dev u ≡ true → may_write kind (role_at s at.dev u) ≡ true

-- The version, the checkpoint, the condensing, the frontier and each device's row, mapping and late sets are the same, and what was lawful stays so.
pub record KeepsRows (old new : Space) : Type 0 where
  pub version : new.parts.version ≡ old.parts.version
  pub cond : new.parts.cond ≡ old.parts.cond
  pub ckpt : new.parts.ckpt ≡ old.parts.ckpt
  pub synced : new.synced ≡ old.synced
  pub devices : length new.parts.devs ≡ length old.parts.devs
  pub each : (d : ℕ) → IsSamePart (part_of old.parts.devs d) (part_of new.parts.devs d)
  pub lawful : IsLawful old → IsLawful new

-- What reads did since some start: no size changed and no count fell, the shelf is told still and nothing was written. What is cached stays the bytes of its
-- address.
pub record GoesOnReading (slots : List (Option ℕ)) (space : Space) (sizes_old sizes_new : List ℕ) (counts_old counts_new : Counts) (told_old told_new : Type 0) (before now : World) (cache_old cache_new : Cache) : Type 0 where
  pub sizes : sizes_new ≡ sizes_old
  pub none_fell : NoneFell counts_old counts_new
  pub told : told_old → told_new
  pub still : told_old → IsStill before now
  pub read : told_old → AreRead before.now.seen slots space cache_old → AreRead now.now.seen slots space cache_new
  pub room : capacity cache_new ≡ capacity cache_old

-- what is obsolete stays so, and for metadata nothing else becomes so
abbrev pub KeepsMarks : Kind → Space → Space → Type 0
KeepsMarks Block old new = (d u : ℕ) → is_fresh old.parts.devs d u ≡ true → is_fresh new.parts.devs d u ≡ true
KeepsMarks Meta old new = MarksNothing old new

-- for metadata the same units are held by blocks
abbrev pub KeepsHeld : Kind → Space → Space → Type 0
KeepsHeld Block old new = Unit {0}
KeepsHeld Meta old new = (d u : ℕ) → is_held_role (role_at new d u) ≡ is_held_role (role_at old d u)

-- Units were taken where a policy places them, or were given back, one after another. Roles that are none of the store's stay, and what the current root has. What it may write now it might write before, so
-- what was written lies there.
pub record KeepsOthers (kind : Kind) (old new : Space) : Type 0 where
  pub happened : Happen kind old new
  pub rows : KeepsRows old new
  pub root : IsSameRoot old new
  pub marks : KeepsMarks kind old new
  pub held : KeepsHeld kind old new
  pub stays : (d u : ℕ) → may_change kind (role_at old d u) ≡ false → role_at new d u ≡ role_at old d u
  pub writable : (d u : ℕ) → may_write kind (role_at new d u) ≡ true → may_write kind (role_at old d u) ≡ true

-- no more units wait to be free: none was given back
abbrev pub WaitsStill : Space → Space → Type 0
WaitsStill old new = (d u : ℕ) → is_deferred_role (role_at new d u) ≡ true → is_deferred_role (role_at old d u) ≡ true

-- Where nothing was lost at the start nothing is lost now, and nothing was given back.
abbrev pub GivesNothing : Option Dva → Option Dva → Space → Space → Type 0
GivesNothing lost_old lost_new old new = lost_old ≡ None → (lost_new ≡ None) × WaitsStill old new

-- What calls did since some start: no size changed and no count fell, the shelf is told still, and nothing was written but units that might be written at the
-- start. What is cached stays the bytes of its address, and copies the bytes of their units.
pub record Continues (kind : Kind) (slots : List (Option ℕ)) (sizes_old sizes_new : List ℕ) (counts_old counts_new : Counts) (told_old told_new : Type 0) (before now : World) (old new : Space) (cache_old cache_new : Cache) : Type 0 where
  pub sizes : sizes_new ≡ sizes_old
  pub none_fell : NoneFell counts_old counts_new
  pub told : told_old → told_new
  pub space : KeepsOthers kind old new
  pub written : told_old → WritesOnly (IsWriteInto kind slots old) before now
  pub read : told_old → AreRead before.now.seen slots old cache_old → AreRead now.now.seen slots new cache_new
  pub copies : told_old → CopiesStand before.now.seen slots old → CopiesStand now.now.seen slots new
  pub room : capacity cache_new ≡ capacity cache_old
