use Rattle.std.proofs.Common.{◌∙◌, sym, arith}
use Rattle.zr_image.proofs.laws.few_groups_are_kept.Goals as goal

pub returns-clause-differ : goal.returns-clause-differ
returns-clause-differ c = λ seen current u v txg kept in_u in_v u_is v_is differ.
    let here = kept.each txg (omega arith) kept.past in differ (here.1.one u in_u u_is ∙ sym (here.1.one v in_v v_is))

pub returns-clause-gap : goal.returns-clause-gap
returns-clause-gap c = λ seen current txg g kept low high none. let here = kept.each g low high in none here.0 here.1.shown here.1.txg_is

pub returns-clause-oldest : goal.returns-clause-oldest
returns-clause-oldest c = λ seen current a b one other. omega (arith, one.lowest b other.in_window, other.lowest a one.in_window)
