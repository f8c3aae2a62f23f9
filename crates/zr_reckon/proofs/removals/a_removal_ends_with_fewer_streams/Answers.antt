use Rattle.zr_reckon.proofs.Finished.{finish_words, finish_streams, finish_gone, finish_uncopied, finish_room, finish_past}
use Rattle.zr_reckon.proofs.removals.a_removal_ends_with_fewer_streams.Goals as goal

pub returns-clause-words : goal.returns-clause-words
returns-clause-words c = λ old new d txg blocks objects s l h k. finish_words old new d txg s l h k blocks objects

pub returns-clause-streams : goal.returns-clause-streams
returns-clause-streams c = λ old new d txg blocks objects s leaving. finish_streams old new d txg s leaving blocks objects

pub returns-clause-gone : goal.returns-clause-gone
returns-clause-gone c = λ old new d txg blocks objects s leaving. finish_gone old new d txg s leaving blocks objects

pub returns-clause-uncopied : goal.returns-clause-uncopied
returns-clause-uncopied c = λ old new d txg blocks objects s l. finish_uncopied old new d txg s l blocks objects

pub returns-clause-room : goal.returns-clause-room
returns-clause-room c = finish_room

pub returns-clause-past : goal.returns-clause-past
returns-clause-past c = λ old new d txg blocks objects s l. finish_past old new d txg s l blocks objects
