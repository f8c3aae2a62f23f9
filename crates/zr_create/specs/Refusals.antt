-- Why a pool is not made or made larger, as the slots show it.
use Rattle.std.specs.Prelude.{◌≡◌, ℕ, ◌+◌, List, length, Result}
use Rattle.zr_base.specs.declared.refusal.Refusal.{Refusal}
use Rattle.zr_label.specs.declared.root.Seen.{Seen}
use Rattle.zr_image.specs.Current.{ShowsAll}
use Rattle.zr_slots.specs.Checks.{AreLawful, MayCreateOn, MayAddOn}
use Rattle.zr_sync.specs.declared.open.OpenPool.{OpenPool}

-- What each slot shows, where the disks are told.
pub record IsSeenOn (sizes : List ℕ) (tells : Type 0) (disks : List (List ℕ)) (seen : List Seen) : Type 0 where
  pub count : length seen ≡ length sizes
  pub lawful : AreLawful seen
  pub shows : tells → ShowsAll disks seen

-- the outcome of the checks on a new pool
pub record ChecksNew (sizes : List ℕ) (tells : Type 0) (disks : List (List ℕ)) (version guid : ℕ) (named : List ℕ) (outcome : Result (Unit {0}) Refusal) : Type 0 where
  pub seen : List Seen
  pub shown : IsSeenOn sizes tells disks seen
  pub checks : MayCreateOn sizes seen version guid named outcome

-- the outcome of the checks on a new device of the pool, which the group after the open one adds
pub record ChecksNext (sizes : List ℕ) (tells : Type 0) (disks : List (List ℕ)) (pool : OpenPool) (slot : ℕ) (outcome : Result (Unit {0}) Refusal) : Type 0 where
  pub seen : List Seen
  pub shown : IsSeenOn sizes tells disks seen
  pub checks : MayAddOn sizes seen pool.version slot pool.table.slots pool.guid pool.table.count (pool.group.txg + 1) outcome
