use Rattle.std.proofs.Common.{◌≡◌, ℕ, ◌+◌, ◌≤◌, ◌<◌, length, slice_index}
use Rattle.zr_rules.specs.Condense.{fresh_units}
use Rattle.zr_rules.specs.Mappings.{entry_at}
use Rattle.zr_judge.proofs.mappings.are_fitting.Given as goal

abbrev pub invariant-loop-i : goal.invariant-loop-i
invariant-loop-i l = record {
  so_far : (i : ℕ) → i < l.i → slice_index l.counts i + fresh_units l.fresh.extents (entry_at l.map.entries i) ≤ (entry_at l.map.entries i).len;
  end : l.i-end ≡ length l.counts;
}
