-- Why a line on a checkpoint is refused.
use Rattle.std.specs.Prelude.{◌≡◌, ◌⊎◌, ℕ, ◌+◌, ◌<◌, true, false, length}
use Rattle.zr_base.specs.declared.refusal.Refusal.{Refusal}
use Rattle.zr_base.specs.declared.refusal.Refusal.TheVariants.{CheckpointExists, DiscardingCheckpoint, NoCheckpoint, NoRoom, NothingToDo, RemovalInProgress}
use Rattle.zr_base.specs.declared.space.CkptPart.{CkptPart}
use Rattle.zr_base.specs.declared.space.CkptPart.TheVariants.{Clear, Held, Discarding}
use Rattle.zr_room.specs.Counts.{sizes_with}
use Rattle.zr_rules.specs.Columns.{free_units}
use Rattle.zr_rules.specs.Owed.{metadata_units, owed}
use Rattle.zr_rules.specs.Places.{is_leaving, state_of_dev}
use Rattle.zr_rules.specs.Space.{Space}
use Rattle.zr_sync.specs.declared.open.OpenPool.{OpenPool}
use Rattle.zr_txg.specs.Changes.{block_count}

-- the room that a checkpoint needs: what is owed, and the metadata once more
abbrev pub checkpoint_needs : OpenPool → ℕ
checkpoint_needs pool =
    let counted = sizes_with pool.space (block_count pool.group.objects) (length pool.group.objects) 0 in
    owed counted + metadata_units counted

-- there is less room than a checkpoint needs
pub record IsShort (pool : OpenPool) (r : Refusal) : Type 0 where
  pub less : free_units pool.space < checkpoint_needs pool
  pub is : r ≡ NoRoom (checkpoint_needs pool) (free_units pool.space)

-- no device is leaving
abbrev pub AllStay : Space → Type 0
AllStay s = (d : ℕ) → is_leaving (state_of_dev s.parts.devs d) ≡ false

-- a device is leaving
pub record IsRemovalRefusal (s : Space) (r : Refusal) : Type 0 where
  pub device : ℕ
  pub leaves : is_leaving (state_of_dev s.parts.devs device) ≡ true
  pub is : r ≡ RemovalInProgress

-- none is taken while there is one, or while one is being discarded, or without the room
abbrev pub IsKeptRefusal : OpenPool → CkptPart → Refusal → Type 0
IsKeptRefusal pool (Held txg) r = r ≡ CheckpointExists
IsKeptRefusal pool Discarding r = r ≡ DiscardingCheckpoint
IsKeptRefusal pool Clear r = IsShort pool r

-- a removal comes before all of these
abbrev pub IsTakeRefusal : OpenPool → CkptPart → Refusal → Type 0
IsTakeRefusal pool part r = IsRemovalRefusal pool.space r ⊎ (AllStay pool.space × IsKeptRefusal pool part r)

-- none is given up where there is none, or while it is being discarded, or while a device is leaving
abbrev pub IsGiveRefusal : OpenPool → CkptPart → Refusal → Type 0
IsGiveRefusal pool Clear r = r ≡ NoCheckpoint
IsGiveRefusal pool Discarding r = r ≡ DiscardingCheckpoint
IsGiveRefusal pool (Held txg) r = IsRemovalRefusal pool.space r

-- nothing is given back but while one is being discarded
abbrev pub IsStepRefusal : CkptPart → Refusal → Type 0
IsStepRefusal Discarding r = ⊥
IsStepRefusal part r = r ≡ NothingToDo
