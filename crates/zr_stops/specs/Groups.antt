-- What was done on the disks since a group began.
use Rattle.std.specs.Prelude.{◌≡◌, ℕ, true}
use Rattle.zr_rules.specs.Space.{role_at}
use Rattle.zr_shelf.specs.Moments.{World}
use Rattle.zr_sync.specs.Writes.{WritesIntoFree}
use Rattle.zr_sync.specs.declared.open.OpenPool.{OpenPool}
use Rattle.zr_vdev.specs.Stores.{is_open_role}

-- The pool is in the group that began with another, on the same devices and behind the same root. Nothing was written since but units that were free then, and none
-- else may be written now.
pub record IsInGroup (first : OpenPool) (start : World) (pool : OpenPool) (now : World) : Type 0 where
  pub table : pool.table ≡ first.table
  pub last : pool.last ≡ first.last
  pub guid : pool.guid ≡ first.guid
  pub open_units : (d u : ℕ) → is_open_role (role_at pool.space d u) ≡ true → is_open_role (role_at first.space d u) ≡ true
  pub written : WritesIntoFree first start now
