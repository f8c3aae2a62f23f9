use Rattle.zr_reckon.proofs.SetWords.{less_words, less_words-one}
use Rattle.zr_reckon.proofs.sets.an_extent_less_adds_two_words.Goals as goal

pub returns-clause-words : goal.returns-clause-words
returns-clause-words c = less_words

pub returns-clause-first_form : goal.returns-clause-first_form
returns-clause-first_form c = less_words-one
