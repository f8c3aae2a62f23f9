use Rattle.std.proofs.Common.{◌≡◌, ◌-◌, ◌<◌, ◌≤◌, ℕ, length}
use Rattle.std.specs.Vec.{vec_capacity}
use Rattle.zr_metaslab.specs.Devices.{device_at, AreSound}
use Rattle.zr_metaslab.proofs.fill.Given as goal

abbrev pub invariant-loop-alloc : goal.invariant-loop-alloc
invariant-loop-alloc l = record {
  within : length l.devs.items ≤ l.d;
  capacity : l.d < vec_capacity l.devs;
  same : (j : ℕ) → device_at l.devs.items j ≡ device_at l.initial.devs.items j;
  sound : AreSound l.devs.items;
}

abbrev pub decreases-loop-alloc : goal.decreases-loop-alloc
decreases-loop-alloc l = l.d - length l.devs.items
