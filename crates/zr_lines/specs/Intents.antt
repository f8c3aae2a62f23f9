-- What a line means to do to its object, and on which pool.
use Rattle.std.specs.Prelude.{◌≡◌, ℕ, ◌+◌, ◌-◌, ◌^◌, ◌<◌, ◌≤◌, ◌⊎◌, true, false, IsTrue, List, [], All, map, Option, Some}
use Rattle.std.specs.List.{range_with_len}
use Rattle.zr_base.specs.Blocks.{is_block_size}
use Rattle.zr_bptr.specs.Spelling.{IsObject}
use Rattle.zr_bptr.specs.declared.ObjRec.{ObjRec}
use Rattle.zr_bptr.specs.declared.Tree.{Tree}
use Rattle.zr_change.specs.Changes.{new_in}
use Rattle.zr_change.specs.Edits.{touched}
use Rattle.zr_change.specs.Plans.{AreNew, IsPlannedFor}
use Rattle.zr_change.specs.declared.ranges.Edit.{Edit}
use Rattle.zr_held.specs.Held.{HasObjects}
use Rattle.zr_lines.specs.Sought.{CanTake}
use Rattle.zr_model.specs.Objects.{Objects}
use Rattle.zr_sync.specs.Holds.{HasBlocks}
use Rattle.zr_lookup.specs.Objects.{record_now}
use Rattle.zr_tree.specs.Blocks.{FitsAt}
use Rattle.zr_lines.specs.Counts.{new_object}
use Rattle.zr_store.specs.Store.{Stored}
use Rattle.zr_sync.specs.Objects.{account_of}
use Rattle.zr_sync.specs.Pools.{IsSamePool}
use Rattle.zr_sync.specs.declared.open.OpenPool.{OpenPool}
use Rattle.zr_txg.specs.Changes.{Changes, object_in}
use Rattle.zr_lines.specs.Reaches.{is_in_reach}
use Rattle.zr_lines.specs.declared.intent.Intent.{Intent}
use Rattle.zr_lines.specs.declared.range.Reach.{Reach}

-- the group can take a change of the blocks with these indices
abbrev pub HasPlace : Changes → ℕ → List ℕ → Type 0
HasPlace g id indices = CanTake (new_in g id indices) (new_object g id) g

-- What is meant may be done to an object of the group: its record is the one that the group has, if it has one, and the
-- blocks come in a row, for which the group has a place. The old ones are lawful.
pub record IsIntent (g : Changes) (id : ℕ) (i : Intent) : Type 0 where
  pub low : id < 65536
  pub object : IsObject i.rec
  pub known : (r : Option ObjRec) → object_in g id ≡ Some r → r ≡ Some i.rec
  pub order : i.first ≤ i.last
  pub top : i.last < 2 ^ 25
  pub row : map (λ p. p.index) i.plan.items ≡ range_with_len i.first (i.last + 1 - i.first)
  pub new : AreNew i.rec.units i.plan.items
  pub olds : All (λ p. FitsAt 0 p.old) i.plan.items
  pub place : HasPlace g id (map (λ p. p.index) i.plan.items)

-- the blocks are those that the edit touches, which are in the line's reach
pub record IsFor (reach : Reach) (e : Edit) (i : Intent) : Type 0 where
  pub within : is_in_reach reach i.rec.units e ≡ true
  pub touched : map (λ p. p.index) i.plan.items ≡ touched i.rec.units e

-- the object is there, and each block is planned as the edit makes it
pub record IsPlanned (s : Stored) (dir : Tree) (g : Changes) (id : ℕ) (e : Edit) (i : Intent) : Type 0 where
  pub found : record_now s dir g id ≡ Some i.rec
  pub plans : All (IsPlannedFor s g id i.rec e) i.plan.items

-- the object is there, and the range is not in the line's reach
pub record IsOutside (s : Stored) (dir : Tree) (g : Changes) (id : ℕ) (reach : Reach) (e : Edit) : Type 0 where
  pub object : ObjRec
  pub found : record_now s dir g id ≡ Some object
  pub outside : is_in_reach reach object.units e ≡ false

-- the group has no place for the blocks that the edit touches of an object whose blocks have some number of units
pub record IsFull (reach : Reach) (g : Changes) (id : ℕ) (e : Edit) : Type 0 where
  pub units : ℕ
  pub size : IsTrue (is_block_size units)
  pub within : is_in_reach reach units e ≡ true
  pub full : ¬ HasPlace g id (touched units e)

-- an open pool, and the bytes of its disks at that time
pub record Found : Type 0 where
  pub pool : OpenPool
  pub disks : List (List ℕ)

-- the pool is as it is behind a commit, for which the group was too full
pub record IsBehindCommit (reach : Reach) (id : ℕ) (e : Edit) (old new : OpenPool) : Type 0 where
  pub due : IsFull reach old.group id e
  pub same : IsSamePool old new
  pub empty : new.group.objects ≡ []
  pub txg : new.group.txg ≡ old.group.txg + 1

-- The pool on which a line works: the one that was open, or what a commit of its group left, where that had no place.
abbrev pub IsFound : Reach → ℕ → Edit → OpenPool → List (List ℕ) → Found → Type 0
IsFound reach id e old disks f = ((f.pool ≡ old) × (f.disks ≡ disks)) ⊎ IsBehindCommit reach id e old f.pool

-- what a line means to do, by what the disks hold of the pool that it finds
pub record Means (told : Type 0) (reach : Reach) (id : ℕ) (e : Edit) (old : OpenPool) (disks : List (List ℕ)) (i : Intent) : Type 0 where
  pub found : Found
  pub is_found : IsFound reach id e old disks found
  pub intent : IsIntent found.pool.group id i
  pub fits : IsFor reach e i
  pub planned : (s : Stored) → HasBlocks told found.disks found.pool s → IsPlanned s found.pool.dir found.pool.group id e i

-- The disks hold all blocks of the pool, their bytes are these objects, and what is meant is planned by what they hold.
pub record IsReadyFor (tells : Type 0) (disks : List (List ℕ)) (pool : OpenPool) (id : ℕ) (e : Edit) (objects : Objects) (i : Intent) : Type 0 where
  pub stored : Stored
  pub held : HasBlocks tells disks pool stored
  pub has : HasObjects stored (account_of pool) objects
  pub planned : IsPlanned stored pool.dir pool.group id e i
