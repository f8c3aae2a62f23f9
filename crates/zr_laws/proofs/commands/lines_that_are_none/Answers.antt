use Rattle.zr_script.specs.Grammar as grammar
use Rattle.zr_laws.proofs.commands.lines_that_are_none.Goals as goal

pub returns-clause-capitals : goal.returns-clause-capitals
unfolding grammar.keyword_of grammar.pool_keyword_of grammar.step_keyword_of
returns-clause-capitals c = λ command line. line.words

pub returns-clause-empty : goal.returns-clause-empty
unfolding grammar.keyword_of grammar.pool_keyword_of grammar.step_keyword_of
returns-clause-empty c = λ command line. line.words

pub returns-clause-more : goal.returns-clause-more
unfolding grammar.keyword_of grammar.pool_keyword_of grammar.step_keyword_of
returns-clause-more c = λ command line. let is = line.words.0 in absurd (cc)

pub returns-clause-spaces : goal.returns-clause-spaces
unfolding grammar.keyword_of grammar.pool_keyword_of grammar.step_keyword_of
returns-clause-spaces c = λ line. let is = line.words in absurd (cc)
