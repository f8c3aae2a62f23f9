use Rattle.std.proofs.Common.{take}
use Rattle.zr_rules.specs.Logs.{SpellsCounts}
use Rattle.zr_meta.proofs.map.counts_of.Given as goal

abbrev pub invariant-loop-word : goal.invariant-loop-word
invariant-loop-word l = SpellsCounts (take l.word-index l.words) l.counts
