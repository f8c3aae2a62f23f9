use Rattle.zr_reckon.proofs.Begun.{begin_words, begin_streams, begin_gone, begin_uncopied, begin_room, begin_past}
use Rattle.zr_reckon.proofs.removals.a_removal_begins_with_all_to_copy.Goals as goal

pub returns-clause-words : goal.returns-clause-words
returns-clause-words c = λ old new d blocks objects s l h k. begin_words old new d s l h k blocks objects

pub returns-clause-streams : goal.returns-clause-streams
returns-clause-streams c = λ old new d blocks objects s known on. begin_streams old new d s on known blocks objects

pub returns-clause-gone : goal.returns-clause-gone
returns-clause-gone c = λ old new d blocks objects s on. begin_gone old new d s on blocks objects

pub returns-clause-uncopied : goal.returns-clause-uncopied
returns-clause-uncopied c = λ old new d blocks objects s l known on. begin_uncopied old new d s on l known blocks objects

pub returns-clause-room : goal.returns-clause-room
returns-clause-room c = λ old new d s known on. begin_room old new d s on known

pub returns-clause-past : goal.returns-clause-past
returns-clause-past c = λ old new d blocks objects s l. begin_past old new d s l blocks objects
