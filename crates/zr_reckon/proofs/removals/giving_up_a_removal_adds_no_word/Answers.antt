use Rattle.zr_reckon.proofs.Cancelled.{cancel_base, cancel_streams, cancel_uncopied, cancel_room, cancel_past}
use Rattle.zr_reckon.proofs.removals.giving_up_a_removal_adds_no_word.Goals as goal

pub returns-clause-words : goal.returns-clause-words
returns-clause-words c = cancel_base

pub returns-clause-streams : goal.returns-clause-streams
returns-clause-streams c = λ old new d blocks objects s l a. cancel_streams old new d s l a blocks objects

pub returns-clause-uncopied : goal.returns-clause-uncopied
returns-clause-uncopied c = λ old new d blocks objects s l a. cancel_uncopied old new d s l a blocks objects

pub returns-clause-room : goal.returns-clause-room
returns-clause-room c = cancel_room

pub returns-clause-past : goal.returns-clause-past
returns-clause-past c = λ old new d blocks objects s l a. cancel_past old new d s l a blocks objects
