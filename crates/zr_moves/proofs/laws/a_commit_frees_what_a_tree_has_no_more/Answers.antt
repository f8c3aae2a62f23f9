use Rattle.zr_moves.proofs.laws.a_commit_frees_what_a_tree_has_no_more.Goals as goal

pub returns-clause-kept : goal.returns-clause-kept
returns-clause-kept c = λ policy txg had has old new b w there gone. ((w.each_gone b).0 gone).1 there

pub returns-clause-had : goal.returns-clause-had
returns-clause-had c = λ policy txg had has old new b w gone. ((w.each_gone b).0 gone).0

pub returns-clause-gone : goal.returns-clause-gone
returns-clause-gone c = λ policy txg had has old new b w there not. (w.each_gone b).1 (there, not)
