use Rattle.std.proofs.Common.{length, rules}
use Rattle.zr_lookup.proofs.Walking.{low_top, whole_between, whole_few, whole_leaves}
use Rattle.zr_lookup.proofs.walks.walk_tree.Goals as goal

pub walk_below-requires-clause-low : goal.walk_below-requires-clause-low
walk_below-requires-clause-low g c = low_top c.args.t.now.height c.requires.low

pub returns-clause-between : goal.returns-clause-between
returns-clause-between g c = whole_between c.args.t.now.height c.walk_below.new.leaves.items c.requires.low c.in_ok-walk_below.ensures.between

pub returns-clause-leaves : goal.returns-clause-leaves
returns-clause-leaves g c = λ s holds. whole_leaves s c.args.t.now _ c.walk_below.new.leaves.items c.requires.low c.in_ok-walk_below.ensures.between (c.in_ok-walk_below.ensures.leaves s holds)

pub returns-clause-few_blocks : goal.returns-clause-few_blocks
returns-clause-few_blocks g c = whole_few c.args.t.now.height (length c.walk_below.new.tree.items) (length c.new-blocks.result.items) c.requires.low (search rules) c.in_ok-walk_below.ensures.few
