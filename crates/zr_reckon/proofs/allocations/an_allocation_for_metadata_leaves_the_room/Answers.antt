use Rattle.zr_reckon.proofs.MetaPlaced.{meta_words, meta_base, meta_dropped, meta_frees, meta_room, meta_lens, meta_others}
use Rattle.zr_reckon.proofs.allocations.an_allocation_for_metadata_leaves_the_room.Goals as goal

pub returns-clause-words : goal.returns-clause-words
returns-clause-words c = λ policy want old new at blocks objects a l. meta_words policy want old new at a l blocks objects

pub returns-clause-base : goal.returns-clause-base
returns-clause-base c = meta_base

pub returns-clause-given : goal.returns-clause-given
returns-clause-given c = meta_dropped

pub returns-clause-free : goal.returns-clause-free
returns-clause-free c = meta_frees

pub returns-clause-room : goal.returns-clause-room
returns-clause-room c = meta_room

pub returns-clause-metadata : goal.returns-clause-metadata
returns-clause-metadata c = meta_lens

pub returns-clause-others : goal.returns-clause-others
returns-clause-others c = λ policy want old new at blocks objects a l. meta_others policy want old new at a l blocks objects
