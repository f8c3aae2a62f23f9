use Rattle.zr_reckon.proofs.Copying.{copy_words, copy_room, copy_uncopied, copy_others}
use Rattle.zr_reckon.proofs.removals.a_copy_adds_nine_words.Goals as goal

pub returns-clause-words : goal.returns-clause-words
returns-clause-words c = λ policy old new d n blocks objects s l h k. copy_words policy old new d n s l h k blocks objects

pub returns-clause-room : goal.returns-clause-room
returns-clause-room c = copy_room

pub returns-clause-uncopied : goal.returns-clause-uncopied
returns-clause-uncopied c = λ policy old new d n blocks objects s l leaving. copy_uncopied policy old new d n s l leaving

pub returns-clause-others : goal.returns-clause-others
returns-clause-others c = λ policy old new d n blocks objects s l. copy_others policy old new d n s l blocks objects
