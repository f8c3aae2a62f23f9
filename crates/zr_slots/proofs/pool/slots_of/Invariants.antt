use Rattle.std.proofs.Common.{◌≡◌, ℕ, ◌<◌, ◌≤◌, None}
use Rattle.std.specs.Prelude.{slice_index_or, length}
use Rattle.zr_image.specs.Current.{slot_of_device}
use Rattle.zr_slots.proofs.pool.slots_of.Given as goal

abbrev pub invariant-loop-index : goal.invariant-loop-index
invariant-loop-index l = record {
  long : length l.slots ≡ 32;
  done : (k : ℕ) → k < l.index → slice_index_or l.slots k None ≡ slot_of_device l.u l.seen k;
  rest : (k : ℕ) → l.index ≤ k → slice_index_or l.slots k None ≡ None;
}
