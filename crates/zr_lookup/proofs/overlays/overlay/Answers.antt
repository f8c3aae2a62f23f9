use Rattle.std.proofs.Common.{◌^◌, arith}
use Rattle.zr_bptr.specs.declared.Ptr.TheVariants.{Hole}
use Rattle.zr_lookup.proofs.Keys.{in_order}
use Rattle.zr_lookup.proofs.Merging.{first_order, first_low, rest_after, same_after, done_after, done_last}
use Rattle.zr_lookup.proofs.overlays.overlay.Goals as goal

pub add_change-requires-clause-low : goal.add_change-requires-clause-low
add_change-requires-clause-low c = first_low c.args.changes.now c.loop-change.change-index c.loop-change.next (2 ^ 25) (0, Hole) c.loop-change-test.true c.loop-change.invariant.rest

pub overflow_add-next : goal.overflow_add-next
overflow_add-next c =
    let low = first_low c.args.changes.now c.loop-change.change-index c.loop-change.next (2 ^ 25) (0, Hole) c.loop-change-test.true c.loop-change.invariant.rest in
    omega (arith, low)

pub loop-change-preserved : goal.loop-change-preserved
loop-change-preserved c =
    let changes = c.args.changes.now in
    let i = c.loop-change.change-index in
    let next = c.loop-change.next in
    let lt = c.loop-change-test.true in
    let inv = c.loop-change.invariant in
    record {
      out = c.in_ok-add_change.ensures.between;
      fit = c.in_ok-add_change.ensures.fit;
      rest = rest_after changes i next (2 ^ 25) (0, Hole) lt inv.rest;
      same = same_after changes i next (0, Hole) lt (first_order changes i next (2 ^ 25) (0, Hole) lt inv.rest) inv.same;
      done = done_after changes c.args.leaves.now c.loop-change.out.items c.add_between.new.out.items c.add_change.new.out.items i next (2 ^ 25) (0, Hole) lt inv.rest inv.same inv.done c.in_ok-add_between.ensures.fills c.in_ok-add_change.ensures.fills;
    }

pub returns-clause-each : goal.returns-clause-each
returns-clause-each c =
    let inv = c.loop-change.invariant in
    done_last c.args.changes.now c.args.leaves.now c.loop-change.out.items c.add_between-2.new.out.items c.loop-change.change-index c.loop-change.next (2 ^ 25) c.loop-change-test.false c.requires.leaves c.in_ok-add_between-2.ensures.between
    (in_order c.loop-change.next (2 ^ 25) _ inv.rest) inv.same inv.done c.in_ok-add_between-2.ensures.fills
