use Rattle.std.proofs.Common.{arith}
use Rattle.zr_reckon.proofs.SetWords.{more_words, short_words}
use Rattle.zr_reckon.proofs.sets.an_extent_more_adds_its_words.Goals as goal

pub returns-clause-words : goal.returns-clause-words
returns-clause-words c = more_words

pub returns-clause-short : goal.returns-clause-short
returns-clause-short c = λ version es fs e w le. let a = more_words version es fs e w in let b = short_words version e le in omega (arith, a, b)
