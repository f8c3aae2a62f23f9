use Rattle.std.proofs.Common.{◌≡◌, ℕ, true, length}
use Rattle.zr_base.specs.Extents.{has_unit}
use Rattle.zr_rules.specs.Mappings.{has_source}
use Rattle.zr_judge.proofs.removal.are_entries_in.Given as goal

abbrev pub invariant-loop-first : goal.invariant-loop-first
invariant-loop-first l = record {
  all : ((u : ℕ) → has_source l.rest u ≡ true → has_unit l.units.extents u ≡ true) → (u : ℕ) → has_source l.entries u ≡ true → has_unit l.units.extents u ≡ true;
  part : (u : ℕ) → has_source l.rest u ≡ true → has_source l.entries u ≡ true;
}

abbrev pub decreases-loop-first : goal.decreases-loop-first
decreases-loop-first l = length l.rest
