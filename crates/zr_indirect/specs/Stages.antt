-- How far a device has come on its way out.
use Rattle.std.specs.Prelude.{◌≡◌, []}
use Rattle.zr_base.specs.declared.space.DevState.TheVariants as row
use Rattle.zr_indirect.specs.Mapped.{Mapped, in_service}
use Rattle.zr_indirect.specs.declared.mapping.Stage.{Stage}
use Rattle.zr_indirect.specs.declared.mapping.Stage.TheVariants.{InService, Leaving, Gone}

-- what it has then
abbrev pub mapped_in : Stage → Mapped
mapped_in InService = in_service
mapped_in (Leaving m) = m
mapped_in (Gone m) = m

-- it is gone, and nothing of it is to be copied
pub record IsAway (m : Mapped) : Type 0 where
  pub state : m.state ≡ row.Gone
  pub left_none : m.left ≡ []
  pub synced_none : m.synced ≡ 0
  pub opened_none : m.opened ≡ 0

-- what it has is of that state
abbrev pub IsStage : Stage → Type 0
IsStage InService = Unit {0}
IsStage (Leaving m) = m.state ≡ row.Leaving
IsStage (Gone m) = IsAway m
