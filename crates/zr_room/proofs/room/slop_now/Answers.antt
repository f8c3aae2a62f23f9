use Rattle.std.proofs.Common.{◌≤◌, ◌^◌, arith}
use Rattle.zr_rules.specs.Columns.{on_units}
use Rattle.zr_room.proofs.Units.{few_units}
use Rattle.zr_room.proofs.room.slop_now.Goals as goal

pub returns-clause-bound : goal.returns-clause-bound
returns-clause-bound c =
    let few : on_units c.args.pool.now.space ≤ 2 ^ 31 = few_units c.requires.pool.0 c.args.pool.now c.requires.pool.1 in
    let units = c.on_units.ensures.units in
    let is = c.slop.ensures in
    omega (arith, few, units, is)
