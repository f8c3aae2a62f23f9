use Rattle.std.proofs.Common.{◌≡◌, ◌≤◌, ◌*◌, ◌^◌, take}
use Rattle.zr_space.specs.Totals.{serving_units}
use Rattle.zr_space.proofs.room.units.Given as goal

abbrev pub invariant-loop-device : goal.invariant-loop-device
invariant-loop-device l = record {
  so_far : l.units ≡ serving_units (take l.device-index l.devs);
  most : l.units ≤ l.device-index * 2 ^ 40;
}
