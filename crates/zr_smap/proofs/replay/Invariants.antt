use Rattle.std.proofs.Common.{◌≡◌, ℕ, false, length}
use Rattle.std.specs.List.{AllByRecursion}
use Rattle.zr_base.specs.Extents.{has_unit, IsMaximal}
use Rattle.zr_rules.specs.Logs.{taken_after, IsInTurn}
use Rattle.zr_smap.specs.Spellings.{IsRun}
use Rattle.zr_smap.proofs.replay.Given as goal

abbrev pub invariant-loop-change : goal.invariant-loop-change
invariant-loop-change l = record {
  lawful : AllByRecursion IsRun l.rest;
  maximal : IsMaximal l.set.extents;
  forth : (u : ℕ) → IsInTurn (has_unit l.set.extents u) l.rest u → IsInTurn false l.fn.changes u;
  back : (u : ℕ) → IsInTurn false l.fn.changes u → IsInTurn (has_unit l.set.extents u) l.rest u;
  taken : (u : ℕ) → taken_after (has_unit l.set.extents u) l.rest u ≡ taken_after false l.fn.changes u;
}

abbrev pub decreases-loop-change : goal.decreases-loop-change
decreases-loop-change l = length l.rest
