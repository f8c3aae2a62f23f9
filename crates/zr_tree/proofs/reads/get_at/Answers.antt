use Rattle.std.proofs.Common.{◌∙◌, sym}
use Rattle.std.proofs.lemmas.Result.{IfOk-weaker}
use Rattle.std.proofs.Math.Nat.{div-eq_of_lt}
use Rattle.zr_tree.proofs.Holes.{inside}
use Rattle.zr_tree.proofs.reads.get_at.Goals as goal

pub returns-clause-leaf : goal.returns-clause-leaf
returns-clause-leaf g c = λ s holds.
    let zero_is = sym c.place_of.ensures ∙ c.if-place_of-ne0.false in
    IfOk-weaker c.get_below.result _ _ (λ leaf e. e ∙ sym (inside s c.args.t.now c.args.index zero_is)) (c.get_below.ensures.leaf s holds)

pub returns-then-place_of-ne0-clause-way : goal.returns-then-place_of-ne0-clause-way
returns-then-place_of-ne0-clause-way g c = λ s holds lt. absurd (c.if-place_of-ne0.true (c.place_of.ensures ∙ div-eq_of_lt lt))

pub returns-clause-way : goal.returns-clause-way
returns-clause-way g c = λ s holds. IfOk-weaker c.get_below.result _ _ (λ leaf way lt. way) (c.get_below.ensures.way s holds)
