use Rattle.std.proofs.Common.{◌+◌, ◌*◌, ◌<◌, ◌≤◌, length, arith}
use Rattle.std.proofs.lemmas.Grind.{common_steps}
use Rattle.zr_metaslab.specs.Trees.{node_at}
use Rattle.zr_metaslab.proofs.Nodes.{down_root, down_left, down_right, down_leaf, fits_down}
use Rattle.zr_metaslab.proofs.maxima.Maxima.first.Goals as goal

pub loop-init : goal.loop-init
loop-init c = down_root c.self.inside.height c.self.inside.size c.self.inside.nodes.items c.args.want c.greatest.result c.self.invariant (rw (← c.self.view_is) at (c.greatest.ensures.some (omega arith))) c.if-greatest-want.false

pub index-requires : goal.index-requires
index-requires c = grind (arith, common_steps, fits_down c.self.inside.height c.self.inside.size c.self.inside.nodes.items c.args.want c.loop.counter c.loop.n c.requires c.self.invariant c.loop-test.true c.loop.invariant)

pub overflow_mul-n : goal.overflow_mul-n
overflow_mul-n c = grind (arith, common_steps, fits_down c.self.inside.height c.self.inside.size c.self.inside.nodes.items c.args.want c.loop.counter c.loop.n c.requires c.self.invariant c.loop-test.true c.loop.invariant)

pub loop-preserved-then-index-want : goal.loop-preserved-then-index-want
loop-preserved-then-index-want c =
    let inside : c.loop.n * 2 + 1 < length c.self.inside.nodes.items = fits_down c.self.inside.height c.self.inside.size c.self.inside.nodes.items c.args.want c.loop.counter c.loop.n c.requires c.self.invariant c.loop-test.true c.loop.invariant in
    let enough : c.args.want ≤ node_at c.self.inside.nodes.items (c.loop.n * 2) = grind (arith, common_steps, inside) in
    down_left c.self.inside.height c.self.inside.size c.self.inside.nodes.items c.args.want c.loop.counter c.loop.n c.self.invariant c.loop-test.true c.loop.invariant enough

pub loop-preserved : goal.loop-preserved
loop-preserved c =
    let inside : c.loop.n * 2 + 1 < length c.self.inside.nodes.items = fits_down c.self.inside.height c.self.inside.size c.self.inside.nodes.items c.args.want c.loop.counter c.loop.n c.requires c.self.invariant c.loop-test.true c.loop.invariant in
    let less : node_at c.self.inside.nodes.items (c.loop.n * 2) < c.args.want = grind (arith, common_steps, inside) in
    down_right c.self.inside.height c.self.inside.size c.self.inside.nodes.items c.args.want c.loop.counter c.loop.n c.self.invariant c.loop-test.true c.loop.invariant less

pub overflow_sub-result : goal.overflow_sub-result
overflow_sub-result c = (down_leaf c.self.inside.height c.self.inside.size c.self.inside.nodes.items c.args.want c.loop.counter c.loop.n c.self.invariant (omega arith) c.loop.invariant).0

pub returns-clause-some : goal.returns-clause-some
returns-clause-some c = rw c.self.view_is at (down_leaf c.self.inside.height c.self.inside.size c.self.inside.nodes.items c.args.want c.loop.counter c.loop.n c.self.invariant (omega arith) c.loop.invariant).1
