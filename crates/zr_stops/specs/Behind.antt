-- How the disks stand within a group, and behind which commit. Between two lines the input and the output change too, so this is said of the disks alone.
use Rattle.std.specs.Prelude.{◌≡◌, ℕ, List, true}
use Rattle.std.specs.List.{AllByRecursion}
use Rattle.zr_current.specs.Current.{GoesOnFrom}
use Rattle.zr_image.specs.Honest.{IsLeft}
use Rattle.zr_label.specs.declared.root.Uber.{Uber}
use Rattle.zr_last.specs.Last.{KeepsDevices}
use Rattle.zr_model.specs.Objects.{Objects}
use Rattle.zr_model.specs.State.{PoolState}
use Rattle.zr_open.specs.Shown.{Shows}
use Rattle.zr_rules.specs.Space.{role_at}
use Rattle.zr_shelf.specs.Disks.{IsSameOutside, Stand}
use Rattle.zr_stops.specs.Last.{IsCommitted}
use Rattle.zr_sync.specs.declared.open.OpenPool.{OpenPool}
use Rattle.zr_vdev.specs.Stores.{IsWriteInto, is_open_role}
use Rattle.zr_vdev.specs.declared.kind.Kind.TheVariants.{Block}

-- The pool is in the group that began with another, on the same devices and behind the same root. The disks are durable as they stood then, and what is pending lies in
-- units that were free then; none else may be written now.
pub record StandsInGroup (first : OpenPool) (begin : Stand) (pool : OpenPool) (now : Stand) : Type 0 where
  pub table : pool.table ≡ first.table
  pub last : pool.last ≡ first.last
  pub guid : pool.guid ≡ first.guid
  pub open_units : (d u : ℕ) → is_open_role (role_at pool.space d u) ≡ true → is_open_role (role_at first.space d u) ≡ true
  pub durable : now.durable ≡ begin.seen
  pub writes : AllByRecursion (IsWriteInto Block first.table.slots first.space) now.writes
  pub seen : IsSameOutside now.writes begin.seen now.seen

-- The pool is what a line makes of one that stands in such a group: each device is where it was, and of them no more has changed than whether one is leaving.
pub record StandsChanged (first : OpenPool) (begin : Stand) (pool : OpenPool) (now : Stand) : Type 0 where
  pub devices : KeepsDevices first pool
  pub open_units : (d u : ℕ) → is_open_role (role_at pool.space d u) ≡ true → is_open_role (role_at first.space d u) ≡ true
  pub durable : now.durable ≡ begin.seen
  pub writes : AllByRecursion (IsWriteInto Block first.table.slots first.space) now.writes
  pub seen : IsSameOutside now.writes begin.seen now.seen

-- The pool is in the group behind a commit of these objects.
pub record StandsBehind (sizes : List ℕ) (objects : Objects) (pool : OpenPool) (now : Stand) : Type 0 where
  pub first : OpenPool
  pub root : Uber
  pub begin : Stand
  pub committed : IsCommitted sizes begin root first objects
  pub from : GoesOnFrom root first
  pub within : StandsInGroup first begin pool now

-- the disks stand the same, whatever the input and the output are
pub record AreSameDisks (a b : Stand) : Type 0 where
  pub durable : b.durable ≡ a.durable
  pub writes : b.writes ≡ a.writes
  pub seen : b.seen ≡ a.seen

-- whatever an honest crash leaves shows these objects, if it shows a pool
abbrev pub ShowsOnly : Objects → Stand → Type 0
ShowsOnly objects stand = (image : List (List ℕ)) → IsLeft stand image → (paths : List (List ℕ)) (p : PoolState) → Shows paths image p → p.objects ≡ objects
