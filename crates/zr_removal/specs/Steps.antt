-- What a step of a removal comes to.
use Rattle.std.specs.Prelude.{◌≡◌, ℕ, true, List}
use Rattle.zr_base.specs.Counts.{HasRisen}
use Rattle.zr_base.specs.declared.space.Policy.{Policy}
use Rattle.zr_rules.specs.Places.{is_leaving, state_of_dev}
use Rattle.zr_shelf.specs.Counts.{Counts}
use Rattle.zr_shelf.specs.Moments.{World}
use Rattle.zr_space.specs.Plans.{IsCopied}
use Rattle.zr_sync.specs.declared.open.OpenPool.{OpenPool}
use Rattle.zr_vdev.specs.Copies.{CopiesUnits}
use Rattle.zr_removal.specs.declared.evacuate.Evacuated.{Evacuated}
use Rattle.zr_removal.specs.declared.evacuate.Evacuated.TheVariants.{Copied, Gone, Cancelled}
use Rattle.zr_removal.specs.Turns.{CancelsRemoval, EndsRemoval}

-- the disks failed in copying, and the removal of the device was given up
pub record GivesUp (sizes : List ℕ) (told : Type 0) (counts_old counts_new : Counts) (now : World) (old new : OpenPool) (d : ℕ) : Type 0 where
  pub leaving : is_leaving (state_of_dev old.space.parts.devs d) ≡ true
  pub failed : HasRisen counts_old.disk counts_new.disk
  pub tried : OpenPool
  pub same : tried ≡ record old { cache = tried.cache }
  pub cancels : CancelsRemoval sizes told now tried new d

-- nothing was left to copy, and the device is gone
pub record GoesAway (sizes : List ℕ) (told : Type 0) (now : World) (old new : OpenPool) (d : ℕ) : Type 0 where
  pub leaving : is_leaving (state_of_dev old.space.parts.devs d) ≡ true
  pub copied : IsCopied old.space
  pub tried : OpenPool
  pub same : tried ≡ record old { cache = tried.cache }
  pub ends : EndsRemoval sizes told now tried new d

-- A step copied units, ended the removal, or gave it up.
abbrev pub StepsOn : Policy → List ℕ → Type 0 → Counts → Counts → World → World → OpenPool → OpenPool → Evacuated → Type 0
StepsOn policy sizes told counts_old counts_new before now old new (Copied n) = CopiesUnits policy old.table.slots told before now old.space new.space n
StepsOn policy sizes told counts_old counts_new before now old new (Gone d) = GoesAway sizes told now old new d
StepsOn policy sizes told counts_old counts_new before now old new (Cancelled d) = GivesUp sizes told counts_old counts_new now old new d
