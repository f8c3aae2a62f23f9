use Rattle.std.proofs.Common.{◌≡◌, ◌<◌, ◌≤◌, ℕ, None, length}
use Rattle.std.specs.Prelude.{if◌then◌else◌}
use Rattle.zr_roots.specs.Devices.{is_there}
use Rattle.zr_view.specs.Views.{slot_of}
use Rattle.zr_roots.proofs.slots.own_slots.Given as goal

abbrev pub invariant-loop-index : goal.invariant-loop-index
invariant-loop-index l = record {
  long : length l.own ≡ 32;
  done : (d : ℕ) → d < l.index → slot_of l.own d ≡ (if is_there l.u d then slot_of l.slots d else None);
  left : (d : ℕ) → l.index ≤ d → slot_of l.own d ≡ slot_of l.slots d;
}
