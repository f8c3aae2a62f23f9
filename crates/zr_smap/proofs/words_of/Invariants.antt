use Rattle.std.proofs.Common.{◌≡◌, ◌++◌, length}
use Rattle.std.specs.List.{AllByRecursion, flat_map}
use Rattle.zr_rules.specs.Logs.{change_words, IsChange}
use Rattle.zr_smap.proofs.words_of.Given as goal

abbrev pub invariant-loop-change : goal.invariant-loop-change
invariant-loop-change l = record {
  lawful : AllByRecursion (IsChange l.version) l.rest;
  words : l.words.items ++ flat_map (change_words l.dev) l.rest ≡ flat_map (change_words l.dev) l.fn.changes;
}

abbrev pub decreases-loop-change : goal.decreases-loop-change
decreases-loop-change l = length l.rest
