use Rattle.std.proofs.Common.{◌≡◌, ℕ, ◌+◌, ◌-◌, ◌≤◌}
use Rattle.zr_rules.specs.Places.{one_if}
use Rattle.zr_evac.specs.Evacuations.{AreLawful, hits_at, is_copy_in}
use Rattle.zr_evac.proofs.push_unmarked.Given as goal

abbrev pub invariant-loop-at : goal.invariant-loop-at
invariant-loop-at l = record {
  from : l.entry.src ≤ l.at;
  to : l.at ≤ l.end;
  hits : (d u : ℕ) → hits_at l.list.items d u ≡ hits_at l.initial.list.items d u + one_if (is_copy_in l.marks.extents l.entry (l.at - l.entry.src) d u);
  lawful : AreLawful l.initial.list.items → AreLawful l.list.items;
}

abbrev pub decreases-loop-at : goal.decreases-loop-at
decreases-loop-at l = l.end - l.at
