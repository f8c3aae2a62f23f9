-- What the current root has as fresh, beside what is fresh now.
use Rattle.std.proofs.Common.{List, arith}
use Rattle.std.proofs.lemmas.Bool.Decides.{nat_tests}
use Rattle.zr_base.specs.declared.space.Change.{Change}
use Rattle.zr_base.specs.Extents.{has_unit, IsMaximal}
use Rattle.zr_units.specs.Differences.{IsDifference, IsMerged}
use Rattle.zr_units.proofs.Differences.{merged_difference, replays}
use Rattle.zr_indirect.specs.Mapped.{Mapped, IsTurned}
use Rattle.zr_indirect.specs.Changes.{GainsFresh, was_fresh_in}

-- a merge of what came and what went leads from the one to the other
pub gains : (m : Mapped) (cs : List Change) → IsMaximal m.came → IsMaximal m.went → IsTurned m.fresh m.came m.went → IsMerged m.came m.went cs → GainsFresh m cs
gains m cs came went t merged =
    let difference : IsDifference (was_fresh_in m) (has_unit m.fresh) cs =
    merged_difference (was_fresh_in m) (has_unit m.fresh) m.came m.went cs came went merged
    (λ u. let c = t.came_is u in let w = t.went_is u in grind (arith, nat_tests, c, w))
    (λ u. let c = t.came_is u in let w = t.went_is u in grind (arith, nat_tests, c, w)) in
    record { merged = merged; difference = difference; replays = replays (was_fresh_in m) (has_unit m.fresh) cs difference }
