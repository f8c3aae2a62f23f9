use Rattle.std.proofs.Common.{◌≡◌, ℕ, List, [], sum_by, ap, arith}
use Rattle.zr_base.specs.declared.space.Extent.{Extent}
use Rattle.zr_space.proofs.Giving.{some_units, no_extents}
use Rattle.zr_space.proofs.space.Space.discard_each.Goals as goal

pub returns-clause-some : goal.returns-clause-some
returns-clause-some c = λ some.
    let none : c.loop-first.rest.now ≡ [] = no_extents c.loop-first.rest.now (c.in_default.ensures.cases) in
    let so = c.loop-first.invariant.so_far in
    let zero : sum_by (λ (e : ℕ × Extent). e.1.len) c.loop-first.rest.now ≡ 0 = ap (λ (es : List (ℕ × Extent)). sum_by (λ (e : ℕ × Extent). e.1.len) es) none in
    let more = some_units c.args.list.now c.requires.can.apart some in
    omega (arith, so, zero, more)
