-- How far a condensing has come.
use Rattle.std.specs.Prelude.{ℕ, List}
use Rattle.zr_base.specs.declared.space.Entry.{Entry}
use Rattle.zr_base.specs.declared.space.CondPart.{CondPart}
use Rattle.zr_rules.specs.Places.{no_part}
use Rattle.zr_rules.specs.Condense.{IsWorked}

-- of the entries worked through, those that have a unit in use are kept, in order
abbrev pub HasWorked : List Entry → List ℕ → CondPart → Type 0
HasWorked entries counts c = IsWorked (record no_part { entries = entries; counts = counts }) c
