use Rattle.zr_bptr.specs.Spelling.{IsTree}
use Rattle.zr_store_rows.proofs.trees.changes_as_a_map_does.Given as goal

abbrev pub invariant-loop : goal.invariant-loop
invariant-loop g l = IsTree l.t
