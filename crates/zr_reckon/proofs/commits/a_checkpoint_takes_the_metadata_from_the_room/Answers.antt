use Rattle.zr_reckon.proofs.Checkpointed.{hold_words, hold_room, hold_past, hold_others}
use Rattle.zr_reckon.proofs.commits.a_checkpoint_takes_the_metadata_from_the_room.Goals as goal

pub returns-clause-words : goal.returns-clause-words
returns-clause-words c = λ old new txg blocks objects s l. hold_words old new txg s l blocks objects

pub returns-clause-room : goal.returns-clause-room
returns-clause-room c = hold_room

pub returns-clause-past : goal.returns-clause-past
returns-clause-past c = λ old new txg blocks objects s. hold_past old new txg s blocks objects

pub returns-clause-others : goal.returns-clause-others
returns-clause-others c = λ old new txg blocks objects s l. hold_others old new txg s l blocks objects
