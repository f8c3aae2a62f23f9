use Rattle.std.proofs.Common.{◌≡◌, ◌<◌, ◌≤◌, ℕ, true}
use Rattle.zr_metaslab.specs.Devices.{device_at}
use Rattle.zr_metaslab.specs.Metaslabs.{longest_of}
use Rattle.zr_metaslab.specs.Order.{HasLongest}
use Rattle.zr_metaslab.proofs.order.longest_on.Given as goal

abbrev pub invariant-loop-d : goal.invariant-loop-d
invariant-loop-d l = record {
  most : (j : ℕ) → j < l.d → (device_at l.devs j).on ≡ true → longest_of (device_at l.devs j).slabs ≤ l.longest;
  some : 0 < l.longest → HasLongest l.devs l.longest;
}
