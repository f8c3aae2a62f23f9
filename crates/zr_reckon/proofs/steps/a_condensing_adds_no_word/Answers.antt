use Rattle.zr_reckon.proofs.Condensed.{condense_words, condense_room, condense_others}
use Rattle.zr_reckon.proofs.steps.a_condensing_adds_no_word.Goals as goal

pub returns-clause-words : goal.returns-clause-words
returns-clause-words c = λ old new outcome blocks objects s l h k u. condense_words old new outcome s l h k u blocks objects

pub returns-clause-room : goal.returns-clause-room
returns-clause-room c = condense_room

pub returns-clause-others : goal.returns-clause-others
returns-clause-others c = λ old new outcome blocks objects s l u. condense_others old new outcome s l u blocks objects
