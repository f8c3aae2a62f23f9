use Rattle.std.proofs.Common.{◌≡◌, ◌≤◌, ◌*◌, ◌^◌, take}
use Rattle.zr_space.specs.Totals.{all_units, all_streams, all_gone, all_left}
use Rattle.zr_space.proofs.room.count_states.Given as goal

abbrev pub invariant-loop-device : goal.invariant-loop-device
invariant-loop-device l = record {
  streams : l.all.streams ≡ all_streams (take l.device-index l.devs);
  gone : l.all.gone ≡ all_gone (take l.device-index l.devs);
  left : l.all.left ≡ all_left (take l.device-index l.devs);
  few_streams : l.all.streams ≤ l.device-index * 7;
  few_gone : l.all.gone ≤ l.device-index;
  few_left : l.all.left ≤ all_units (take l.device-index l.devs);
  most : l.all.left ≤ l.device-index * 2 ^ 40;
}
