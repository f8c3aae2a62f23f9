use Rattle.std.proofs.Common.{ℕ, ◌<◌}
use Rattle.std.specs.Prelude.{slice_index_or}
use Rattle.zr_txg.specs.Tables.{IsRising}
use Rattle.zr_txg.specs.Changes.{ObjectChange}
use Rattle.zr_change.proofs.records.look_over.Given as goal

abbrev pub invariant-loop-i : goal.invariant-loop-i
invariant-loop-i l = (j : ℕ) (d : ℕ × ObjectChange) → j < l.i → IsRising (slice_index_or l.group.objects j d).1.blocks
