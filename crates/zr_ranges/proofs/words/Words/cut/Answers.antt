use Rattle.std.proofs.Common.{arith}
use Rattle.zr_ranges.proofs.Cuts.{fit_old, takes_words}
use Rattle.zr_ranges.proofs.words.Words.cut.Goals as goal

pub beside_words-requires-clause-starts : goal.beside_words-requires-clause-starts
beside_words-requires-clause-starts c = (fit_old 1 _ _ _ _ c.requires.3).starts

pub beside_words-requires-2-clause-starts : goal.beside_words-requires-2-clause-starts
beside_words-requires-2-clause-starts c = (fit_old 1 _ _ _ _ c.requires.3).starts

pub beside_words-requires-clause-fits : goal.beside_words-requires-clause-fits
beside_words-requires-clause-fits c = (fit_old 1 _ _ _ _ c.requires.3).fits

pub beside_words-requires-2-clause-fits : goal.beside_words-requires-2-clause-fits
beside_words-requires-2-clause-fits c = (fit_old 1 _ _ _ _ c.requires.3).fits

pub overflow_add-result : goal.overflow_add-result
overflow_add-result c = let few = (fit_old 1 _ _ _ _ c.requires.3).few in omega (arith, few, c.requires.2.first, c.beside_words.ensures.few)

pub overflow_add-result-2 : goal.overflow_add-result-2
overflow_add-result-2 c = let few = (fit_old 2 _ _ _ _ c.requires.3).few in omega (arith, few, c.requires.2.second, c.beside_words-2.ensures.few)

pub overflow_sub-result : goal.overflow_sub-result
overflow_sub-result c = rw (c.extent_words.ensures.words, c.beside_words.ensures.words) (takes_words 1 _ _ _ _ _ c.requires.2.first c.requires.3).0

pub overflow_sub-result-2 : goal.overflow_sub-result-2
overflow_sub-result-2 c = rw (c.extent_words-2.ensures.words, c.beside_words-2.ensures.words) (takes_words 2 _ _ _ _ _ c.requires.2.second c.requires.3).0

pub returns : goal.returns
returns c = λ with without are cut. record {
  first = rw (c.extent_words.ensures.words, c.beside_words.ensures.words) (takes_words 1 _ _ _ _ _ are.first cut).1;
  second = rw (c.extent_words-2.ensures.words, c.beside_words-2.ensures.words) (takes_words 2 _ _ _ _ _ are.second cut).1;
}
