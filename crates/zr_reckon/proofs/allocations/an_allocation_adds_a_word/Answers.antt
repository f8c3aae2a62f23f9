use Rattle.zr_reckon.proofs.Placed.{allocation_words, allocation_base, allocation_dropped, allocation_frees, allocation_others}
use Rattle.zr_reckon.proofs.allocations.an_allocation_adds_a_word.Goals as goal

pub returns-clause-words : goal.returns-clause-words
returns-clause-words c = λ policy want old new at blocks objects a l. allocation_words policy want old new at a l blocks objects

pub returns-clause-base : goal.returns-clause-base
returns-clause-base c = allocation_base

pub returns-clause-given : goal.returns-clause-given
returns-clause-given c = allocation_dropped

pub returns-clause-free : goal.returns-clause-free
returns-clause-free c = allocation_frees

pub returns-clause-others : goal.returns-clause-others
returns-clause-others c = λ policy want old new at blocks objects a l. allocation_others policy want old new at a l blocks objects
