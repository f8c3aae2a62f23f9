use Rattle.std.proofs.Common.{◌*◌, ◌∙◌, List, length, ap, arith}
use Rattle.zr_change.specs.Plans.{puts_of}
use Rattle.zr_change.specs.declared.plans.Planned.{Planned}
use Rattle.zr_lines.proofs.Needs.{few_planned, few_units}
use Rattle.zr_lines.proofs.room.check_room.Goals as goal

pub new_units-taken-requires-clause-short : goal.new_units-taken-requires-clause-short
new_units-taken-requires-clause-short c =
    let planned = few_planned c.args.pool.now.group c.args.id c.args.intent.now c.requires.intent in
    let same = ap (λ (ps : List Planned). length ps) c.as_slice.ensures.value in
    omega (arith, planned, same)

pub overflow_add-taken : goal.overflow_add-taken
overflow_add-taken c =
    let few = few_units c.args.pool.now.group c.args.id c.args.intent.now c.requires.intent in
    let taken = c.new_units-taken.ensures ∙ ap (λ (ps : List Planned). c.args.intent.now.rec.units * puts_of ps) c.as_slice.ensures.value in
    let owed = c.in_ok-owed.ensures.bound in
    omega (arith, few, taken, owed)

pub overflow_add-taken-2 : goal.overflow_add-taken-2
overflow_add-taken-2 c =
    let few = few_units c.args.pool.now.group c.args.id c.args.intent.now c.requires.intent in
    let taken = c.new_units-taken.ensures ∙ ap (λ (ps : List Planned). c.args.intent.now.rec.units * puts_of ps) c.as_slice.ensures.value in
    let owed = c.in_ok-owed.ensures.bound in
    let slop = c.slop_of.ensures.bound in
    omega (arith, few, taken, owed, slop)
