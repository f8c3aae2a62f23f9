use Rattle.std.proofs.Common.{[]}
use Rattle.zr_indirect.specs.Mapped.{HasCounts}
use Rattle.zr_indirect.proofs.Folding.{counts_folded, none_turned}
use Rattle.zr_indirect.proofs.indirect.Indirect.fold.Goals as goal

pub invariant_of-self-2 : goal.invariant_of-self-2
invariant_of-self-2 c =
    let es = c.self.inside.map.entries in
    let folds : HasCounts es c.fold_counts.new.counts.items [] = rw c.fold_counts.ensures (counts_folded es c.self.inside.counts.items c.self.inside.fresh.extents c.self.invariant.0) in
    rw (c.clear.ensures.empty, c.clear-2.ensures.empty) (folds, none_turned _)
