use Rattle.zr_reckon.proofs.FreeUnit.{unit_words, unit_base, unit_words_there, unit_base_there}
use Rattle.zr_reckon.proofs.frees.a_free_of_a_unit_adds_seven_words.Goals as goal

pub returns-clause-words : goal.returns-clause-words
returns-clause-words c = λ old new a birth blocks objects f l free ranked one. unit_words old new a birth f l free ranked one blocks objects

pub returns-clause-base : goal.returns-clause-base
returns-clause-base c = λ old new a birth blocks objects f l free ranked one. unit_base old new a birth f l free ranked one blocks objects

pub returns-clause-base_there : goal.returns-clause-base_there
returns-clause-base_there c = λ old new a birth blocks objects f l free ranked one none. unit_base_there old new a birth f l free ranked one none blocks objects

pub returns-clause-there : goal.returns-clause-there
returns-clause-there c = λ old new a birth blocks objects f l free ranked one none. unit_words_there old new a birth f l free ranked one none blocks objects
