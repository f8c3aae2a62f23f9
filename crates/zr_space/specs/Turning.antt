-- What a root records of each device behind a commit.
use Rattle.std.specs.Prelude.{◌≡◌, ℕ, Bool, List, [], if◌then◌else◌}
use Rattle.zr_base.specs.declared.space.LateRun.{LateRun}
use Rattle.zr_rules.specs.Places.{part_of}
use Rattle.zr_rules.specs.Space.{OpenSets, Space, opened_of}
use Rattle.zr_space.specs.Views.{late_runs}

-- what the open group has freed of earlier groups' units, and the metadata that it gave back: blocks first
abbrev pub waiting_runs : OpenSets → List LateRun
waiting_runs o = late_runs (record { blocks = o.deferred; meta = o.dropped })

-- The sets of each device stay. What the open group has freed is the first late set, and what the group before it had is the second; a reset has none.
pub record TurnsParts (reset : Bool) (old new : Space) : Type 0 where
  pub held : (d : ℕ) → (part_of new.parts.devs d).held ≡ (part_of old.parts.devs d).held
  pub kept : (d : ℕ) → (part_of new.parts.devs d).kept ≡ (part_of old.parts.devs d).kept
  pub fresh : (d : ℕ) → (part_of new.parts.devs d).fresh ≡ (part_of old.parts.devs d).fresh
  pub first : (d : ℕ) → (part_of new.parts.devs d).late1 ≡ (if reset then [] else waiting_runs (opened_of old d))
  pub second : (d : ℕ) → (part_of new.parts.devs d).late2 ≡ (if reset then [] else (part_of old.parts.devs d).late1)
