use Rattle.std.proofs.Common.{arith, ◌∙◌, ap, ◌+◌}
use Rattle.zr_evac.proofs.Frontiers.{last_end}
use Rattle.zr_judge.proofs.removal.end_of.Goals as goal

pub returns : goal.returns
returns c =
    ap (λ n. c.entry-last.result.src + n) c.from.ensures
    ∙ last_end c.args.map.now.entries c.len-count.result c.entry-last.result c.len-count.ensures.count (omega (arith, c.if-count-eq0.false)) c.entry-last.ensures.value
