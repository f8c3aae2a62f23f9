use Rattle.zr_meta.proofs.Sizes.{words_are, one_leaving, any_leaving}
use Rattle.zr_meta.proofs.laws.heads_are_short.Goals as goal

pub returns-clause-words : goal.returns-clause-words
returns-clause-words c = words_are

pub returns-clause-one_leaving : goal.returns-clause-one_leaving
returns-clause-one_leaving c = one_leaving

pub returns-clause-any : goal.returns-clause-any
returns-clause-any c = any_leaving
