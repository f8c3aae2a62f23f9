use Rattle.std.proofs.Common.{◌≡◌, ℕ, [], length}
use Rattle.zr_metaslab.specs.Metaslabs.{slab_at, free_count}
use Rattle.zr_metaslab.proofs.device.full_slabs.Given as goal

abbrev pub invariant-loop : goal.invariant-loop
invariant-loop l = record {
  length : length l.slabs.items ≡ l.counter;
  none : (k : ℕ) → slab_at l.slabs.items k ≡ [];
  count : free_count l.slabs.items ≡ 0;
}
