-- Units that are being copied.
use Rattle.std.specs.Prelude.{◌≡◌, ℕ, ◌≤◌, ◌<◌, List}
use Rattle.zr_base.specs.declared.space.Dva.{Dva}
use Rattle.zr_base.specs.declared.space.Policy.{Policy}
use Rattle.zr_rules.specs.Placement.{IsPlacement, HasRunSomewhere}
use Rattle.zr_rules.specs.Space.{Space}
use Rattle.zr_rules.specs.Steps.{half}
use Rattle.zr_metaslab.specs.Devices.{Devices, Takes, free_of, extent_of}
use Rattle.zr_space.specs.Plans.{IsPlan}
use Rattle.zr_space.specs.Views.{Kept, kept_of, space_of, IsSpace}
use Rattle.zr_space.specs.declared.copy.Plan.{Plan}
use Rattle.zr_space.specs.declared.whole.Whole.{Whole}

-- as many units as a number, or as the first of its halves for which there is a place, were taken from the allocator
pub record TakesHalf (policy : Policy) (most : ℕ) (old new : Devices) (at : Dva) : Type 0 where
  pub k : ℕ
  pub half_is : at.len ≡ half k most
  pub some : 1 ≤ at.len
  pub place : IsPlacement (free_of old) policy at.len at
  pub none : (j : ℕ) → j < k → ¬ HasRunSomewhere (free_of old) (half j most)
  pub taken : Takes old new at.dev (extent_of at)

-- the space as it was, the device that is leaving, and the plan for units of it
pub record Underway : Type 0 where
  pub before : Space
  pub dev : ℕ
  pub plan : Plan

-- The place of the plan is taken from the allocator, and nothing else is changed. There is room for the copy and for its entry.
pub record IsUnderway (whole : Whole) (slabs : Devices) (devs : List Kept) (d : ℕ) (p : Plan) : Type 0 where
  pub was : Devices
  pub policy : Policy
  pub space : IsSpace whole was devs
  pub plan : IsPlan (space_of whole devs) d p
  pub place : IsPlacement (free_of was) policy p.to.len p.to
  pub taken : Takes was slabs p.to.dev (extent_of p.to)
  pub units : 0 < (kept_of devs p.to.dev).uses.spare
  pub room : 0 < (kept_of devs d).moves.spare
