-- Pools whose devices are all in service.
use Rattle.std.specs.Prelude.{◌≡◌, ℕ, ◌<◌, [], None}
use Rattle.zr_base.specs.declared.space.CkptPart.TheVariants.{Clear}
use Rattle.zr_base.specs.declared.space.DevPart.{DevPart}
use Rattle.zr_base.specs.declared.space.DevState.TheVariants.{On}
use Rattle.zr_label.specs.declared.root.Uber.{Uber}
use Rattle.zr_rules.specs.Places.{part_of}
use Rattle.zr_sync.specs.declared.open.OpenPool.{OpenPool}

-- the device is in service, and has no mapping
pub record ServesWhole (p : DevPart) : Type 0 where
  pub on : p.row.state ≡ On
  pub entries : p.entries ≡ []
  pub counts : p.counts ≡ []
  pub fresh : p.fresh ≡ []

-- Each device of the pool is in service and has no mapping, nothing is condensed, and units are kept for a checkpoint alone. All of this its account says.
pub record IsWhole (pool : OpenPool) : Type 0 where
  pub serve : (d : ℕ) → d < pool.table.count → ServesWhole (part_of pool.space.parts.devs d)
  pub cond : pool.space.parts.cond ≡ None
  pub unkept : pool.space.parts.ckpt ≡ Clear → (d : ℕ) → d < pool.table.count → (part_of pool.space.parts.devs d).kept ≡ []

-- such a pool, of the version of its last root
pub record AreInService (u : Uber) (pool : OpenPool) : Type 0 where
  pub version : pool.version ≡ u.version
  pub whole : IsWhole pool
