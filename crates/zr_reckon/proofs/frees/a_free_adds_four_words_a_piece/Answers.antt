use Rattle.zr_reckon.proofs.FreePieces.{free_words, free_uncopied, free_room, free_others}
use Rattle.zr_reckon.proofs.GroupRoom.{freed_free}
use Rattle.zr_reckon.proofs.MetaTurns.{freed_dropped}
use Rattle.zr_reckon.proofs.frees.a_free_adds_four_words_a_piece.Goals as goal

pub returns-clause-words : goal.returns-clause-words
returns-clause-words c = λ old new a birth blocks objects f l free short. free_words old new a birth f l free short blocks objects

pub returns-clause-uncopied : goal.returns-clause-uncopied
returns-clause-uncopied c = λ old new a birth blocks objects f l. free_uncopied old new a birth f l blocks objects

pub returns-clause-room : goal.returns-clause-room
returns-clause-room c = free_room

pub returns-clause-others : goal.returns-clause-others
returns-clause-others c = λ old new a birth blocks objects f. free_others old new a birth f blocks objects

pub returns-clause-given : goal.returns-clause-given
returns-clause-given c = freed_dropped

pub returns-clause-free : goal.returns-clause-free
returns-clause-free c = freed_free
