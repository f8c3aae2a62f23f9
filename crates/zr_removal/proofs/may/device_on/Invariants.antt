use Rattle.std.proofs.Common.{◌≡◌, ℕ, ◌<◌}
use Rattle.zr_removal.specs.Devices.{IsDeviceOn}
use Rattle.zr_removal.proofs.may.device_on.Given as goal

abbrev pub invariant-loop-dev : goal.invariant-loop-dev
invariant-loop-dev l = record {
  end : l.dev-end ≡ l.pool.table.count;
  none : (d : ℕ) → d < l.dev → IsDeviceOn l.pool l.slot d → ⊥;
}
