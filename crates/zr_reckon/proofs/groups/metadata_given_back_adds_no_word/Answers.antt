use Rattle.zr_reckon.proofs.GroupRoom.{drop_words, drop_base, drop_free, drop_others}
use Rattle.zr_reckon.proofs.MetaTurns.{drop_held, drop_dropped}
use Rattle.zr_reckon.proofs.groups.metadata_given_back_adds_no_word.Goals as goal

pub returns-clause-words : goal.returns-clause-words
returns-clause-words c = λ old new list blocks objects s k. drop_words old new list s k blocks objects

pub returns-clause-base : goal.returns-clause-base
returns-clause-base c = drop_base

pub returns-clause-metadata : goal.returns-clause-metadata
returns-clause-metadata c = drop_held

pub returns-clause-given : goal.returns-clause-given
returns-clause-given c = drop_dropped

pub returns-clause-free : goal.returns-clause-free
returns-clause-free c = drop_free

pub returns-clause-others : goal.returns-clause-others
returns-clause-others c = λ old new list blocks objects s k. drop_others old new list s k blocks objects
