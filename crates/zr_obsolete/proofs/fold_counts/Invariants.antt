use Rattle.std.proofs.Common.{◌≡◌, ℕ, ◌≤◌, ◌++◌, length, take, drop, get_or}
use Rattle.zr_rules.specs.Condense.{folded}
use Rattle.zr_obsolete.proofs.fold_counts.Given as goal

abbrev pub invariant-loop-i : goal.invariant-loop-i
invariant-loop-i l = record {
  count : length l.counts.items ≡ length l.map.entries;
  rest : (j : ℕ) → l.i ≤ j → get_or l.counts.items j 0 ≡ get_or l.initial.counts.items j 0;
  done : take l.i l.counts.items ++ folded (drop l.i l.map.entries) (drop l.i l.counts.items) l.fresh.extents ≡ folded l.map.entries l.initial.counts.items l.fresh.extents;
}
