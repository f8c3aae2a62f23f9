use Rattle.zr_reckon.proofs.SetWords.{few_words}
use Rattle.zr_reckon.proofs.sets.a_set_has_no_more_words_than_units.Goals as goal

pub returns : goal.returns
returns c = λ version es m. few_words version 0 es m
