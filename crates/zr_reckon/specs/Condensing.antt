-- A condensing that goes on.
use Rattle.std.specs.Prelude.{◌≡◌, true, Option, Some, None}
use Rattle.zr_base.specs.declared.space.CondPart.{CondPart}
use Rattle.zr_rules.specs.Places.{is_gone, part_of, state_of_dev}
use Rattle.zr_rules.specs.Condense.{IsWorked}
use Rattle.zr_rules.specs.Space.{Space}

-- what is condensed is the mapping of a removed device, and what is worked through so far are the entries of it that stay
abbrev pub IsUnderwayAs : Option CondPart → Space → Type 0
IsUnderwayAs None s = Unit {0}
IsUnderwayAs (Some c) s = (is_gone (state_of_dev s.parts.devs c.dev) ≡ true) × IsWorked (part_of s.parts.devs c.dev) c

abbrev pub IsUnderway : Space → Type 0
IsUnderway s = IsUnderwayAs s.parts.cond s
