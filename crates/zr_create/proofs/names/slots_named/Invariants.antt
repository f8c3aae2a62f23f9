use Rattle.std.proofs.Common.{◌≡◌, ℕ, ◌<◌, [], length, Some}
use Rattle.std.specs.Prelude.{slice_index, slice_index_or}
use Rattle.zr_create.specs.Names.{slot_named}
use Rattle.zr_create.proofs.names.slots_named.Given as goal

abbrev pub invariant-loop-i : goal.invariant-loop-i
invariant-loop-i l = record {
  count : length l.slots.items ≡ l.i;
  each : (k : ℕ) → k < l.i → slot_named l.paths (slice_index_or l.devs k []) ≡ Some (slice_index l.slots.items k);
}
