use Rattle.std.proofs.Common.{subst, sym}
use Rattle.zr_bptr.specs.declared.Ptr.{Ptr}
use Rattle.zr_tree.specs.Trees.{IsOpen}
use Rattle.zr_tree.proofs.Holes.{open_hole}
use Rattle.zr_tree.proofs.sets.open_block.Goals as goal

pub returns-in_ok-holes-in-Hole-clause-open : goal.returns-in_ok-holes-in-Hole-clause-open
returns-in_ok-holes-in-Hole-clause-open g c = λ s holds.
    subst (λ (p : Ptr). IsOpen s 0 p c.in_ok-holes-in-Hole.field-0.items) (sym c.in-Hole.is) (open_hole s 0 c.in_ok-holes-in-Hole.field-0.items c.in_ok-holes-in-Hole.ensures.holes)
