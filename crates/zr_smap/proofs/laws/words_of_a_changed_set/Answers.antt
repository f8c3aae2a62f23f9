use Rattle.zr_smap.proofs.SetWords.{words_added, words_of_a_short, words_removed}
use Rattle.zr_smap.proofs.laws.words_of_a_changed_set.Goals as goal

pub returns-clause-added : goal.returns-clause-added
returns-clause-added c = words_added

pub returns-clause-short : goal.returns-clause-short
returns-clause-short c = words_of_a_short

pub returns-clause-removed_1 : goal.returns-clause-removed_1
returns-clause-removed_1 c = words_removed 1

pub returns-clause-removed_2 : goal.returns-clause-removed_2
returns-clause-removed_2 c = words_removed 2
