use Rattle.std.proofs.Common.{◌≡◌, ◌+◌, ◌&&◌, not, ℕ, true, take}
use Rattle.std.specs.Prelude.{nat_lt}
use Rattle.zr_base.specs.Extents.{has_unit, unit_count}
use Rattle.zr_metaslab.specs.Metaslabs.{is_free, free_count}
use Rattle.zr_metaslab.specs.Devices.{IsSound}
use Rattle.zr_metaslab.proofs.Gaps.{IsDone}
use Rattle.zr_metaslab.proofs.device.Device.new.Given as goal

abbrev pub invariant-loop-run : goal.invariant-loop-run
invariant-loop-run l = record {
  done : IsDone l.units l.used l.run-index l.at;
  on : l.device.on ≡ true;
  units : l.device.units ≡ l.units;
  free : (u : ℕ) → is_free l.device.slabs u ≡ (nat_lt u l.at && not (has_unit (take l.run-index l.used) u));
  count : free_count l.device.slabs + unit_count (take l.run-index l.used) ≡ l.at;
  sound : IsSound l.device;
}
