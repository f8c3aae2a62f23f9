use Rattle.zr_reckon.proofs.FreeOn.{free_words, free_room, free_others}
use Rattle.zr_reckon.proofs.frees.a_free_in_service_adds_three_words.Goals as goal

pub returns-clause-words : goal.returns-clause-words
returns-clause-words c = λ old new a birth blocks objects f l on w short. free_words old new a birth f l on w short blocks objects

pub returns-clause-room : goal.returns-clause-room
returns-clause-room c = λ old new a birth f l on w. free_room old new a birth f l on w

pub returns-clause-others : goal.returns-clause-others
returns-clause-others c = λ old new a birth blocks objects f l on. free_others old new a birth f l on blocks objects
