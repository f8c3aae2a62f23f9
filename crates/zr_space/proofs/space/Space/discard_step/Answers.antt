use Rattle.std.proofs.Common.{length, ap, arith, List, ℕ}
use Rattle.std.proofs.lemmas.List.{length-take}
use Rattle.zr_base.specs.declared.space.Extent.{Extent}
use Rattle.zr_rules.specs.Steps.{kept_extents}
use Rattle.zr_space.proofs.space.Space.discard_step.Goals as goal

pub discard_each-requires-clause-few : goal.discard_each-requires-clause-few
discard_each-requires-clause-few c =
    let len = ap (λ (l : List (ℕ × Extent)). length l) c.in_ok-list.ensures.lowest in
    let most = length-take 64 (kept_extents c.args.self.now) in
    let same = ap (λ (l : List (ℕ × Extent)). length l) c.as_slice.ensures.value in
    omega (arith, len, most, same)
