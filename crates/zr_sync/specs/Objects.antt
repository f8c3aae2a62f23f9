-- The objects of an open pool, as its disks hold them.
use Rattle.std.specs.Prelude.{ℕ, List}
use Rattle.zr_store.specs.Store.{Stored}
use Rattle.zr_model.specs.Objects.{Objects}
use Rattle.zr_moves.specs.Account.{Account}
use Rattle.zr_held.specs.Held.{HasObjects}
use Rattle.zr_sync.specs.Holds.{HasBlocks}
use Rattle.zr_sync.specs.declared.open.OpenPool.{OpenPool}

-- the account of an open pool
abbrev pub account_of : OpenPool → Account
account_of pool = record { space = pool.space; dir = pool.dir; changes = pool.group }

-- The disks, which are told as they read, hold all blocks of the pool, and their bytes are these objects.
pub record HoldsObjects (tells : Type 0) (disks : List (List ℕ)) (pool : OpenPool) (objects : Objects) : Type 0 where
  pub stored : Stored
  pub held : HasBlocks tells disks pool stored
  pub has : HasObjects stored (account_of pool) objects
