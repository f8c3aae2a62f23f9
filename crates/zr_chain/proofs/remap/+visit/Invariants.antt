use Rattle.std.proofs.Common.{take}
use Rattle.zr_chain.specs.Visits.{Follows, parts_behind}
use Rattle.zr_chain.proofs.Ranks.{later_count}
use Rattle.zr_chain.proofs.remap.+visit.Given as goal

abbrev pub decreases-visit : goal.decreases-visit
decreases-visit g l = later_count (g.M.Maps.devices l.devs.now) l.p.dev

abbrev pub invariant-loop-part : goal.invariant-loop-part
invariant-loop-part g l = Follows (g.M.Maps.devices l.devs) (parts_behind l.p.split (take l.part-index l.part-items)) (g.V.Visit.visited l.initial.v) (g.V.Visit.visited l.v)
