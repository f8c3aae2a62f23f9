-- The rules of a root by the numbers that a refusal prints.
use Rattle.std.specs.Prelude.{ℕ}
use Rattle.zr_base.specs.declared.refusal.Refusal.{Refusal}
use Rattle.zr_base.specs.declared.refusal.Refusal.TheVariants.{BadRoot}

-- what a root is refused for: the form of its blocks, its sets, its mappings, where they lead, what is condensed, what is removed, the use of its units, the
-- root that it saved, and the room that it needs
pub data Rule : Type 0 where
  Form : Rule
  Sets : Rule
  Mappings : Rule
  Destinations : Rule
  Condensing : Rule
  Removal : Rule
  Units : Rule
  SavedRoots : Rule
  Room : Rule

abbrev pub rule_number : Rule → ℕ
rule_number Form = 1
rule_number Sets = 2
rule_number Mappings = 3
rule_number Destinations = 4
rule_number Condensing = 5
rule_number Removal = 6
rule_number Units = 7
rule_number SavedRoots = 8
rule_number Room = 9

-- the refusal of a root that breaks the rule
abbrev pub broken : Rule → Refusal
broken r = BadRoot (rule_number r)
