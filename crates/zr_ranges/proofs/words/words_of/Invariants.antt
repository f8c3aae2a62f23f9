use Rattle.std.proofs.Common.{◌≡◌, ◌≤◌, take}
use Rattle.zr_base.specs.Extents.{unit_count}
use Rattle.zr_rules.specs.Owed.{set_words}
use Rattle.zr_ranges.proofs.words.words_of.Given as goal

abbrev pub invariant-loop-e : goal.invariant-loop-e
invariant-loop-e l = record {
  so_far : l.words ≡ set_words l.version (take l.e-index l.extents);
  most : l.words ≤ unit_count (take l.e-index l.extents);
}
