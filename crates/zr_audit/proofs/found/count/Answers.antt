use Rattle.std.proofs.Common.{◌∙◌, sym, arith}
use Rattle.zr_space.proofs.Counts.{count_within}
use Rattle.zr_audit.proofs.found.count.Goals as goal

pub returns : goal.returns
returns c =
    let small = c.requires.small in
    c.units.ensures.units ∙ sym (count_within c.args.units c.args.set.now.extents c.extents-extents.ensures.maximal c.requires.within (omega (arith, small)))
