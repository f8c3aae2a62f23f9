-- The pool on the devices of the words.
use Rattle.std.specs.Prelude.{◌≡◌, ◌⊎◌, ℕ, Bool, true, false, ◌≤◌, List, [], length, map, Option, Some, None, IfSome}
use Rattle.std.specs.List.{list_any}
use Rattle.zr_base.specs.declared.space.DevPart.{DevPart}
use Rattle.zr_command.specs.Meanings.{Disks}
use Rattle.zr_current.specs.Current.{GoesOnFrom, IsShownFor}
use Rattle.zr_held.specs.Held.{AreAllOf}
use Rattle.zr_image.specs.StateOf.{is_discarding}
use Rattle.zr_label.specs.declared.root.Uber.{Uber}
use Rattle.zr_last.specs.Last.{ShowsLast}
use Rattle.zr_model.specs.Objects.{Objects}
use Rattle.zr_model.specs.State.{State, PoolState, ShelfPart, Empty, Refused, Is, Work, no_pool}
use Rattle.zr_open.specs.Left.{LeavesObjects}
use Rattle.zr_recorded.specs.Found.{StandsFound}
use Rattle.zr_recorded.specs.Service.{IsWhole}
use Rattle.zr_rules.specs.Equation.{devices_in, live_hits}
use Rattle.zr_rules.specs.Places.{is_leaving, one_if}
use Rattle.zr_rules.specs.Roles.{is_live_role}
use Rattle.zr_rules.specs.Space.{Space, role_at}
use Rattle.zr_rules.specs.Steps.{has_condensing}
use Rattle.zr_shelf.specs.Disks.{Stand}
use Rattle.zr_stops.specs.Behind.{StandsBehind}
use Rattle.zr_store.specs.Store.{Stored}
use Rattle.zr_sync.specs.Copies.{HasCopies}
use Rattle.zr_sync.specs.Heads.{HasHead}
use Rattle.zr_sync.specs.Holds.{HasBlocks}
use Rattle.zr_sync.specs.Moves.{TellsMoves}
use Rattle.zr_sync.specs.Objects.{HoldsObjects, account_of}
use Rattle.zr_sync.specs.Pools.{IsOpen}
use Rattle.zr_sync.specs.States.{HoldsState}
use Rattle.zr_sync.specs.Trees.{HasTrees}
use Rattle.zr_sync.specs.Trees.Stage.{Had}
use Rattle.zr_sync.specs.declared.open.OpenPool.{OpenPool}
use Rattle.zr_vdev.specs.Stores.{addresses_of}

-- a device is leaving
abbrev pub is_evacuating : Space → Bool
is_evacuating s = list_any (λ (p : DevPart). is_leaving p.row.state) s.parts.devs

-- which actors have work on a pool of this space
abbrev pub work_of : Space → Work
work_of s = record { evac = is_evacuating s; discard = is_discarding s.parts.ckpt; condense = has_condensing s }

-- what is told of an open pool: its disks hold these objects, or nothing
abbrev pub IsPartOf : List (List ℕ) → OpenPool → ShelfPart → Type 0
IsPartOf disks pool (Is p) = HoldsState (Unit {0}) disks pool p
IsPartOf disks pool Empty = Unit {0}
IsPartOf disks pool (Refused r) = ⊥

-- An open pool stands for a state whose objects, where they are told, its disks hold, and in which its actors have the work that they have.
pub record IsStateOf (disks : List (List ℕ)) (pool : OpenPool) (state : State) : Type 0 where
  pub is_open : state.is_open ≡ true
  pub part : IsPartOf disks pool state.shelf
  pub work : state.work ≡ work_of pool.space

-- The blocks that the disks hold are those of the open pool's directory and of its objects, and no others. To each live unit just one of them leads, and none to any other unit.
pub record HasLiveUnits (disks : List (List ℕ)) (pool : OpenPool) : Type 0 where
  pub stored : Stored
  pub held : HasBlocks (Unit {0}) disks pool stored
  pub all : AreAllOf stored (account_of pool)
  pub once : (d u : ℕ) → live_hits (devices_in pool.space) (addresses_of stored.pointers) d u ≡ one_if (is_live_role (role_at pool.space d u))

-- what the pool, if one is open, and the disks stand for
abbrev pub StandsFor : Option OpenPool → List (List ℕ) → State → Type 0
StandsFor None disks state = state.is_open ≡ false
StandsFor (Some pool) disks state = IsStateOf disks pool state

-- the shelf has a slot for each path, at most 32, and the pool that is open is one of disks of these sizes
pub record IsOnShelf (paths : List (List ℕ)) (pool : Option OpenPool) (sizes : List ℕ) : Type 0 where
  pub slots : length sizes ≡ length paths
  pub few : length paths ≤ 32
  pub is_open : IfSome pool (IsOpen sizes)

-- Nothing has changed since the last root of an open pool, whose head stands on the disks, and they hold the objects of this pool.
pub record IsAtRest (disks : List (List ℕ)) (pool : OpenPool) (p : PoolState) : Type 0 where
  pub empty : pool.group.objects ≡ []
  pub head : IfSome pool.last (λ u. HasHead disks pool u.root u.len)
  pub holds : HoldsObjects (Unit {0}) disks pool p.objects

-- A pool has left these objects on the disks: they show its last root, behind which nothing has changed. Where the trees of its streams are told to stand, they tell there where the units of removed devices have moved.
pub record AreLeft (disks : List (List ℕ)) (objects : Objects) (trees : Bool) : Type 0 where
  pub pool : OpenPool
  pub lawful : IsOpen (map length disks) pool
  pub leaves : LeavesObjects disks pool objects
  pub moves : trees ≡ true → TellsMoves disks pool leaves.last.root.root leaves.last.root.len

-- The disks show the last root of the pool that is open, or have what was left of the one that is closed, where its objects are told, and so the trees of its streams, if they are.
abbrev pub AreShown : Option OpenPool → List (List ℕ) → ShelfPart → Bool → Type 0
AreShown (Some pool) disks part trees = ShowsLast disks pool
AreShown None disks (Is p) trees = AreLeft disks p.objects trees
AreShown None disks part trees = Unit {0}

-- the trees of the streams of the pool that is open stand on the disks, as its last root has them
abbrev pub AreStanding : Option OpenPool → List (List ℕ) → Type 0
AreStanding pool disks = IfSome pool (HasTrees Had (Unit {0}) disks)

-- the disks as they stand, whatever the input and the output are
abbrev pub stand_of : Disks → Stand
stand_of disks = record { paths = []; makes = []; durable = disks.durable; writes = disks.writes; seen = disks.seen; left = []; sent = [] }

-- A pool was closed behind a commit of these objects, and nothing is pending.
pub record IsClosedBehind (disks : Disks) (objects : Objects) : Type 0 where
  pub pool : OpenPool
  pub behind : StandsBehind (map length disks.seen) objects pool (stand_of disks)
  pub durable : disks.durable ≡ disks.seen
  pub writes : disks.writes ≡ []

-- The pool that is open is in the group behind a commit of these objects, or one was closed behind it.
abbrev pub IsBehind : Option OpenPool → Disks → Objects → Type 0
IsBehind (Some pool) disks objects = StandsBehind (map length disks.seen) objects pool (stand_of disks)
IsBehind None disks objects = IsClosedBehind disks objects

-- the slots show the root from which the open pool goes on as the current one
abbrev pub AreCurrent : Option OpenPool → List (List ℕ) → Type 0
AreCurrent pool disks = IfSome pool (λ x. (u : Uber) × GoesOnFrom u x × IsShownFor disks u x)

-- each copy of a unit of a device that is leaving, of the pool that is open, has the bytes of its unit
abbrev pub AreCopied : Option OpenPool → List (List ℕ) → Type 0
AreCopied pool disks = IfSome pool (HasCopies disks)

-- where each device of the open pool is in service and no root is saved, an import finds the commit of these objects
abbrev pub IsFoundBehind : Option OpenPool → Disks → Objects → Type 0
IsFoundBehind None disks objects = Unit {0}
IsFoundBehind (Some x) disks objects = IsWhole x → x.saved ≡ None → StandsFound (map length disks.seen) objects x (stand_of disks)

-- the disks as they stand behind a flush
abbrev pub settled : Disks → Disks
settled disks = record { durable = disks.seen; writes = []; seen = disks.seen }

-- nothing was written since the disks stood so, but all may have been made durable
abbrev pub IsUnwritten : Disks → Disks → Type 0
IsUnwritten first disks = (disks ≡ first) ⊎ (disks ≡ settled first)

-- no pool is open, and nothing was written since
abbrev pub IsAsBegun : Option OpenPool → Disks → Disks → Type 0
IsAsBegun pool disks first = (pool ≡ None) × IsUnwritten first disks

-- What is told of a pool on devices between two commands: its objects, as far as these are told, what it holds beside its disks while it is open, whether the disks show it, whether they have the trees
-- of its streams, and which objects were committed last, as far as that is told; how the disks stood when the run began, while nothing was written since; and whether the slots show its root as the current one,
-- and an import finds what was committed last; and whether copies of units of a device that is leaving have the bytes of their units.
pub record DeviceState : Type 0 where
  pub told : State
  pub account : Option OpenPool
  pub shown : Bool
  pub trees : Bool
  pub behind : Option Objects
  pub begun : Option Disks
  pub current : Bool
  pub found : Bool
  pub copies : Bool

-- no pool yet
abbrev pub no_device_state : Disks → DeviceState
no_device_state disks = record { told = no_pool; account = None; shown = false; trees = false; behind = None; begun = Some disks; current = false; found = false; copies = true }

-- what is told of the pool and its disks is so, and the account is the pool's own
pub record Stands (pool : Option OpenPool) (disks : Disks) (state : DeviceState) : Type 0 where
  pub told : StandsFor pool disks.seen state.told
  pub account : state.account ≡ pool
  pub shown : state.shown ≡ true → AreShown pool disks.seen state.told.shelf state.trees
  pub trees : state.trees ≡ true → AreStanding pool disks.seen
  pub behind : IfSome state.behind (IsBehind pool disks)
  pub begun : IfSome state.begun (IsAsBegun pool disks)
  pub current : state.current ≡ true → AreCurrent pool disks.seen
  pub found : state.found ≡ true → IfSome state.behind (IsFoundBehind pool disks)
  pub copies : state.copies ≡ true → AreCopied pool disks.seen
