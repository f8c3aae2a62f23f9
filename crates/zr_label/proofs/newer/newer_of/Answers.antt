use Rattle.std.proofs.Common.{rules}
use Rattle.zr_label.proofs.Unknown.{other_front, other_sum, is_newer}
use Rattle.zr_label.proofs.newer.newer_of.Goals as goal

pub returns-then-ne : goal.returns-then-ne
returns-then-ne c = other_front c.args.block.now _ c.args.guid _ _ _ c.word_at-version.ensures c.word_at-txg.ensures c.front-begin.ensures c.ne.ensures c.if-ne.true

pub returns-then-ne-2 : goal.returns-then-ne-2
returns-then-ne-2 c = other_sum c.args.block.now _ c.args.guid _ (search rules) c.sum_of-sum.ensures.sum c.ne-2.ensures c.if-ne-2.true

pub returns : goal.returns
returns c =
    is_newer c.args.block.now _ _ c.args.guid _ _ _ _ (search rules) c.if-version-eq1.false c.if-version-eq2.false (search rules) (search rules)
    c.front-begin.ensures c.ne.ensures c.if-ne.false c.sum_of-sum.ensures.sum c.ne-2.ensures c.if-ne-2.false
