use Rattle.std.proofs.Common.{arith, ◌^◌, ◌<◌, ⊎_elim}
use Rattle.std.proofs.lemmas.Bool.{cases_lt}
use Rattle.zr_owed.proofs.TreeUnits.{height-lt}
use Rattle.zr_owed.proofs.height.Goals as goal

pub overflow_add-height : goal.overflow_add-height
overflow_add-height c =
    let reach : 32 ^ c.loop-reach.height < 2 ^ 40 = omega arith in
    omega (arith, height-lt c.loop-reach.height reach)

pub returns-clause-low : goal.returns-clause-low
returns-clause-low c =
    ⊎_elim
    (λ past. absurd (omega (arith, c.loop-reach.invariant.below 8 past)))
    (λ low. low)
    (cases_lt 8 c.loop-reach.height)
