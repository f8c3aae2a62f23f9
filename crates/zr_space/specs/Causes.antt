-- Why an allocation is not done.
use Rattle.std.specs.Prelude.{◌≡◌, ℕ}
use Rattle.zr_rules.specs.Space.{Space}
use Rattle.zr_rules.specs.Columns.{free_of}
use Rattle.zr_rules.specs.Placement.{HasNoPlacement}
use Rattle.zr_space.specs.declared.space.SpaceErr.{SpaceErr}
use Rattle.zr_space.specs.declared.space.SpaceErr.TheVariants.{NoRun, NoMemory}

-- `NoRun` comes only where no device in service has so many units in a row, and tells the longest run
abbrev pub HasCause : Space → ℕ → SpaceErr → Type 0
HasCause s want (NoRun needed longest) = (needed ≡ want) × HasNoPlacement (free_of s) want longest
HasCause s want NoMemory = Unit {0}
