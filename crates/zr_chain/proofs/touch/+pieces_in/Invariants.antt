use Rattle.std.proofs.Common.{◌-◌, ◌+◌, ◌≡◌, take, sum_by}
use Rattle.zr_chain.proofs.Counted.{term}
use Rattle.zr_chain.proofs.Touched.{pieces_at}
use Rattle.zr_chain.proofs.touch.+pieces_in.Given as goal

abbrev pub decreases-pieces_in : goal.decreases-pieces_in
decreases-pieces_in g l = l.hops

abbrev pub invariant-loop-i : goal.invariant-loop-i
invariant-loop-i g l = l.pieces ≡ 1 + sum_by (term l.e.start l.e.len (pieces_at (l.hops - 1) (g.M.Maps.devices l.devs))) (take l.i ((g.M.Maps.devices l.devs).entries l.dev))
