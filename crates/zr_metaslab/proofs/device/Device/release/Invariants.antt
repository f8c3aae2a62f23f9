use Rattle.std.proofs.Common.{◌≡◌, ◌-◌, ◌≤◌, ◌+◌, ◌&&◌, ◌||◌, ℕ}
use Rattle.std.specs.Prelude.{nat_le, nat_lt}
use Rattle.zr_metaslab.specs.Metaslabs.{is_free, free_count}
use Rattle.zr_metaslab.specs.Devices.{IsSound}
use Rattle.zr_metaslab.proofs.device.Device.release.Given as goal

abbrev pub invariant-loop-at : goal.invariant-loop-at
invariant-loop-at l = record {
  from : l.fn.e.start ≤ l.at;
  to : l.at ≤ l.end;
  on : l.self.on ≡ l.initial.self.on;
  units : l.self.units ≡ l.initial.self.units;
  free : (u : ℕ) → is_free l.self.slabs u ≡ (is_free l.initial.self.slabs u || (nat_le l.fn.e.start u && nat_lt u l.at));
  count : free_count l.self.slabs + l.fn.e.start ≡ free_count l.initial.self.slabs + l.at;
  sound : IsSound l.self;
}

abbrev pub decreases-loop-at : goal.decreases-loop-at
decreases-loop-at l = l.end - l.at
