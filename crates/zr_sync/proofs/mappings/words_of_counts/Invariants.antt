use Rattle.std.proofs.Common.{◌≡◌, take}
use Rattle.zr_sync.proofs.mappings.words_of_counts.Given as goal

abbrev pub invariant-loop-count : goal.invariant-loop-count
invariant-loop-count l = record { words : l.words.items ≡ take l.count-index l.counts }
