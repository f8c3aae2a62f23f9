-- What calls of a store do to the space, one after another.
use Rattle.std.specs.Prelude.{ℕ, List}
use Rattle.zr_base.specs.declared.space.Dva.{Dva}
use Rattle.zr_base.specs.declared.space.Policy.{Policy}
use Rattle.zr_rules.specs.Frees.{Chain}
use Rattle.zr_rules.specs.Space.{Space}
use Rattle.zr_space.specs.Drops.{IsMeta}
use Rattle.zr_space.specs.Live.{IsFreeable}
use Rattle.zr_vdev.specs.declared.kind.Kind.{Kind}
use Rattle.zr_vdev.specs.declared.kind.Kind.TheVariants.{Block, Meta}
use Rattle.zr_vdev.specs.Puts.{Takes, GivesBack}

-- The address may be given back: its units lead to as many units in use by blocks, over removed devices or not, or it has metadata.
abbrev pub IsInUse : Kind → Space → Dva → Type 0
IsInUse Block s a = IsFreeable s a
IsInUse Meta s a = IsMeta s a

-- so many units were taken, where this policy places them; or an address of this birth was given back
pub data Event : Type 0 where
  Taken : Policy → ℕ → Dva → Event
  Given : Dva → ℕ → Event

-- what was in use was given back
pub record GivesUsed (kind : Kind) (old new : Space) (at : Dva) (birth : ℕ) : Type 0 where
  pub used : IsInUse kind old at
  pub gives : GivesBack kind old new at birth

abbrev pub Happens : Kind → Event → Space → Space → Type 0
Happens kind (Taken policy want at) old new = Takes kind policy want old new at
Happens kind (Given at birth) old new = GivesUsed kind old new at birth

-- one such event after another, or none
abbrev pub Happen : Kind → Space → Space → Type 0
Happen kind old new = (events : List Event) × Chain (Happens kind) events old new
