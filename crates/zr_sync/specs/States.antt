-- The state of a pool that its disks hold: its objects, and how its checkpoint stands.
use Rattle.std.specs.Prelude.{◌≡◌, Bool, true, false, ℕ, List, Option, None, is_some}
use Rattle.zr_base.specs.declared.space.CkptPart.{CkptPart}
use Rattle.zr_base.specs.declared.space.CkptPart.TheVariants.{Clear, Held, Discarding}
use Rattle.zr_model.specs.State.{Saved, PoolState}
use Rattle.zr_sync.specs.Objects.{HoldsObjects}
use Rattle.zr_sync.specs.declared.open.OpenPool.{OpenPool}

-- a checkpoint is held where something is saved, and is being discarded where the state says so
abbrev pub HasCheckpoint : CkptPart → Option Saved → Bool → Type 0
HasCheckpoint Clear saved discarding = (saved ≡ None) × (discarding ≡ false)
HasCheckpoint (Held txg) saved discarding = (is_some saved ≡ true) × (discarding ≡ false)
HasCheckpoint Discarding saved discarding = (saved ≡ None) × (discarding ≡ true)

-- the pool's disks hold the objects of this pool, and its checkpoint stands as there
pub record HoldsState (tells : Type 0) (disks : List (List ℕ)) (pool : OpenPool) (p : PoolState) : Type 0 where
  pub objects : HoldsObjects tells disks pool p.objects
  pub checkpoint : HasCheckpoint pool.space.parts.ckpt p.saved p.discarding
