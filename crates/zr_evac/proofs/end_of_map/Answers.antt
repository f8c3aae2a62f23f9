use Rattle.std.proofs.Common.{arith}
use Rattle.zr_evac.proofs.Frontiers.{last_end, all_end}
use Rattle.zr_evac.proofs.end_of_map.Goals as goal

pub returns-clause-end : goal.returns-clause-end
returns-clause-end c = last_end c.args.map.now.entries c.len-count.result c.entry-last.result c.len-count.ensures.count (omega (arith, c.if-count-eq0.false)) c.entry-last.ensures.value

pub returns-clause-all : goal.returns-clause-all
returns-clause-all c = all_end _ c.args.map.now.entries c.len-count.ensures.rising (last_end c.args.map.now.entries c.len-count.result c.entry-last.result c.len-count.ensures.count (omega (arith, c.if-count-eq0.false)) c.entry-last.ensures.value)
