-- Why a line of a removal is refused.
use Rattle.std.specs.Prelude.{◌≡◌, ◌⊎◌, ℕ, ◌+◌, ◌-◌, ◌<◌, true, false, length}
use Rattle.zr_base.specs.declared.refusal.Refusal.{Refusal}
use Rattle.zr_base.specs.declared.refusal.Refusal.TheVariants.{CheckpointExists, DiscardingCheckpoint, NoRemoval, NoRoom, NothingToDo, OnlyDevice, RemovalInProgress}
use Rattle.zr_base.specs.declared.space.CkptPart.{CkptPart}
use Rattle.zr_base.specs.declared.space.CkptPart.TheVariants.{Clear, Held, Discarding}
use Rattle.zr_base.specs.declared.space.Sizes.{Sizes}
use Rattle.zr_base.specs.Extents.{unit_count}
use Rattle.zr_rules.specs.Columns.{columns, free_units, sizes}
use Rattle.zr_rules.specs.Owed.{owed}
use Rattle.zr_rules.specs.Places.{is_leaving, part_of, state_of_dev}
use Rattle.zr_rules.specs.Space.{Space}
use Rattle.zr_rules.specs.Steps.{has_condensing}
use Rattle.zr_space.specs.Metadata.{turning_on}
use Rattle.zr_model.specs.declared.actor.Actor.{Actor}
use Rattle.zr_model.specs.declared.actor.Actor.TheVariants.{Evac, Discard, Condense}
use Rattle.zr_sync.specs.declared.open.OpenPool.{OpenPool}
use Rattle.zr_txg.specs.Changes.{block_count}
use Rattle.zr_removal.specs.Devices.{IsOnlyOne}

-- no device is leaving
abbrev pub HasNoRemoval : Space → Type 0
HasNoRemoval s = (d : ℕ) → is_leaving (state_of_dev s.parts.devs d) ≡ false

-- a device is leaving
abbrev pub HasRemoval : Space → Type 0
HasRemoval s = (d : ℕ) × (is_leaving (state_of_dev s.parts.devs d) ≡ true)

-- none is removed while a root is saved, while what it kept is being discarded, and while another is leaving
abbrev pub IsMayRefusal : Space → CkptPart → Refusal → Type 0
IsMayRefusal s (Held txg) r = r ≡ CheckpointExists
IsMayRefusal s Discarding r = r ≡ DiscardingCheckpoint
IsMayRefusal s Clear r = (r ≡ RemovalInProgress) × HasRemoval s

-- The counts from which the room is computed, were the device leaving: it has three streams more, all that it holds is to be copied, and its metadata makes no room.
abbrev pub leaving_sizes : Space → ℕ → ℕ → ℕ → Sizes
leaving_sizes s d blocks objects =
    let counted = sizes s blocks objects in
    record counted {
      streams = counted.streams + 3;
      uncopied = counted.uncopied + unit_count (part_of s.parts.devs d).held;
      turning = counted.turning - turning_on s d;
    }

-- the room that a removal needs: what is owed then
abbrev pub removal_needs : OpenPool → ℕ → ℕ
removal_needs pool d = owed (leaving_sizes pool.space d (block_count pool.group.objects) (length pool.group.objects))

-- the free units of the other devices
abbrev pub free_beside : Space → ℕ → ℕ
free_beside s d = free_units s - (columns s d).free

-- the others have less room than its removal needs
pub record IsShort (pool : OpenPool) (d : ℕ) (r : Refusal) : Type 0 where
  pub less : free_beside pool.space d < removal_needs pool d
  pub is : r ≡ NoRoom (removal_needs pool d) (free_beside pool.space d)

-- it is the only device in service, or the others have too little room
abbrev pub IsRemoveRefusal : OpenPool → ℕ → Refusal → Type 0
IsRemoveRefusal pool d r = ((r ≡ OnlyDevice) × IsOnlyOne pool.space d) ⊎ IsShort pool d r

-- a removal is given up where there is one
abbrev pub IsCancelRefusal : Space → Refusal → Type 0
IsCancelRefusal s r = (r ≡ NoRemoval) × HasNoRemoval s

-- a step of a removal is made where there is one
abbrev pub IsStepRefusal : Space → Refusal → Type 0
IsStepRefusal s r = (r ≡ NothingToDo) × HasNoRemoval s

-- a mapping is condensed where one is due
abbrev pub IsCondenseRefusal : Space → Refusal → Type 0
IsCondenseRefusal s r = (r ≡ NothingToDo) × (has_condensing s ≡ false)

-- the actor has work: a device is leaving, a checkpoint is being discarded, or a mapping is condensed or due
abbrev pub HasWork : Space → Actor → Type 0
HasWork s Evac = HasRemoval s
HasWork s Discard = s.parts.ckpt ≡ Discarding
HasWork s Condense = has_condensing s ≡ true
