use Rattle.zr_bptr.specs.Spelling.{IsTree}
use Rattle.zr_store_rows.proofs.trees.emptied.Given as goal

abbrev pub invariant-loop-index : goal.invariant-loop-index
invariant-loop-index l = (goal.iterator-loop-index.can_next l.index-iterator) × (goal.iterator-loop-index.is_finite l.index-iterator) × IsTree l.u
