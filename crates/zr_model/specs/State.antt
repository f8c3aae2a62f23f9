-- A pool without blocks: its objects, its checkpoint and its devices.
use Rattle.std.specs.Prelude.{◌≡◌, ℕ, Bool, true, false, List, map, Option, None}
use Rattle.std.specs.FinMap as map
use Rattle.zr_base.specs.declared.refusal.Refusal.{Refusal}
use Rattle.zr_model.specs.Objects.{Objects}

-- a device: in service or leaving, with the path of its slot, or removed
pub data Device : Type 0 where
  InService : List ℕ → Device
  Leaving : List ℕ → Device
  Removed : Device

-- what a checkpoint holds
pub record Saved : Type 0 where
  pub objects : Objects
  pub devs : List Device

-- a pool: its identity and name, its objects, its checkpoint, its devices by index, and whether a checkpoint is being discarded
pub record PoolState : Type 0 where
  pub guid : ℕ
  pub name : List ℕ
  pub objects : Objects
  pub saved : Option Saved
  pub devs : List Device
  pub discarding : Bool

-- what the shelf has: no pool, one that cannot be opened, or a pool
pub data ShelfPart : Type 0 where
  Empty : ShelfPart
  Refused : Refusal → ShelfPart
  Is : PoolState → ShelfPart

-- which actors have work on the devices of an open pool, of which its objects tell nothing
pub record Work : Type 0 where
  pub evac : Bool
  pub discard : Bool
  pub condense : Bool

abbrev pub no_work : Work
no_work = record { evac = false; discard = false; condense = false }

-- what the shelf has, whether it is open, and what work is left then
pub record State : Type 0 where
  pub is_open : Bool
  pub shelf : ShelfPart
  pub work : Work

-- no pool at all
abbrev pub no_pool : State
no_pool = record { is_open = false; shelf = Empty; work = no_work }

abbrev pub opened : PoolState → State
opened p = record { is_open = true; shelf = Is p; work = no_work }

-- a pool is open, of whose objects nothing is told
abbrev pub untold : Work → State
untold work = record { is_open = true; shelf = Empty; work = work }

-- a pool is open, and is this one
pub record IsOpened (p : PoolState) (s : State) : Type 0 where
  pub is_open : s.is_open ≡ true
  pub shelf : s.shelf ≡ Is p

abbrev pub with_objects : PoolState → Objects → PoolState
with_objects p objects = record { guid = p.guid; name = p.name; objects = objects; saved = p.saved; devs = p.devs; discarding = p.discarding }

-- a new pool on these devices
abbrev pub created : List ℕ → ℕ → List (List ℕ) → PoolState
created name guid devs = record { guid = guid; name = name; objects = map.empty; saved = None; devs = map InService devs; discarding = false }
