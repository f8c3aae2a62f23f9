use Rattle.std.proofs.Common.{◌≡◌, ◌*◌, length, take}
use Rattle.std.specs.List.{AllByRecursion, flat_map}
use Rattle.zr_rules.specs.Logs.{IsStorable, entry_words}
use Rattle.zr_sync.proofs.mappings.words_of_entries.Given as goal

abbrev pub invariant-loop-entry : goal.invariant-loop-entry
invariant-loop-entry l = record {
  count : length l.words.items ≡ 3 * l.entry-index;
  words : AllByRecursion IsStorable l.entries → l.words.items ≡ flat_map entry_words (take l.entry-index l.entries);
}
