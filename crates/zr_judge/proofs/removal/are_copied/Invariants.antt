use Rattle.std.proofs.Common.{◌≡◌, ℕ, ◌<◌, true, length}
use Rattle.zr_base.specs.Extents.{has_unit}
use Rattle.zr_rules.specs.Mappings.{has_source}
use Rattle.zr_judge.proofs.removal.are_copied.Given as goal

abbrev pub invariant-loop-first : goal.invariant-loop-first
invariant-loop-first l = record {
  all : ((u : ℕ) → has_unit l.rest u ≡ true → u < l.end → has_source l.map.entries u ≡ true) → (u : ℕ) → has_unit l.extents u ≡ true → u < l.end → has_source l.map.entries u ≡ true;
  part : (u : ℕ) → has_unit l.rest u ≡ true → has_unit l.extents u ≡ true;
}

abbrev pub decreases-loop-first : goal.decreases-loop-first
decreases-loop-first l = length l.rest
