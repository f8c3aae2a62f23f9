use Rattle.zr_chain.specs.declared.visit.Visited.{Visited}
use Rattle.zr_chain.specs.declared.visit.Visited.TheVariants.{Hop}
use Rattle.zr_audit.proofs.Puts.{has_more, has_all}
use Rattle.zr_audit.proofs.found.put_ends.Goals as goal

pub loop-v-preserved : goal.loop-v-preserved
loop-v-preserved c =
    let no_visit : Visited = Hop 0 (record { start = 0; len = 0 }) in
    has_more c.args.set.now.extents c.loop-v.set.extents c.put.new.set.extents c.args.visits.now c.loop-v.v-index c.args.dev c.args.units no_visit c.end_on.result
    c.loop-v-test.true c.loop-v.invariant c.in_ok-put.ensures c.end_on.ensures.units

pub returns : goal.returns
returns c = has_all c.args.set.now.extents c.loop-v.set.extents c.args.visits.now c.loop-v.v-index c.args.dev c.args.units c.loop-v-test.false c.loop-v.invariant
