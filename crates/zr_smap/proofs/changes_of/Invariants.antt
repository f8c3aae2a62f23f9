use Rattle.std.proofs.Common.{◌≡◌, ◌++◌, length}
use Rattle.std.specs.List.{AllByRecursion, flat_map}
use Rattle.zr_rules.specs.Logs.{change_words, IsChange}
use Rattle.zr_smap.specs.Spellings.{SpellsNothing}
use Rattle.zr_smap.proofs.changes_of.Given as goal

abbrev pub invariant-loop-word : goal.invariant-loop-word
invariant-loop-word l = record {
  lawful : AllByRecursion (IsChange l.version) l.changes.items;
  words : flat_map (change_words l.dev) l.changes.items ++ l.rest ≡ l.fn.words;
  only : SpellsNothing l.version l.dev l.rest → SpellsNothing l.version l.dev l.fn.words;
}

abbrev pub decreases-loop-word : goal.decreases-loop-word
decreases-loop-word l = length l.rest
