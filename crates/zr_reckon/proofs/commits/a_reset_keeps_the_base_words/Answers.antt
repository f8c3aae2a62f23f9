use Rattle.zr_reckon.proofs.BaseWords.{words_split, reset_base}
use Rattle.zr_reckon.proofs.commits.a_reset_keeps_the_base_words.Goals as goal

pub returns-clause-split : goal.returns-clause-split
returns-clause-split c = words_split

pub returns-clause-reset : goal.returns-clause-reset
returns-clause-reset c = reset_base
