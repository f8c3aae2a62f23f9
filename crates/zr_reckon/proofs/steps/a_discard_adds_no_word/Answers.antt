use Rattle.zr_reckon.proofs.Discarded.{some_words, some_uncopied, some_room, some_others}
use Rattle.zr_reckon.proofs.steps.a_discard_adds_no_word.Goals as goal

pub returns-clause-words : goal.returns-clause-words
returns-clause-words c = some_words

pub returns-clause-uncopied : goal.returns-clause-uncopied
returns-clause-uncopied c = some_uncopied

pub returns-clause-room : goal.returns-clause-room
returns-clause-room c = some_room

pub returns-clause-others : goal.returns-clause-others
returns-clause-others c = some_others
