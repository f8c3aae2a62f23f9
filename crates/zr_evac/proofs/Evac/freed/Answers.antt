use Rattle.std.proofs.Common.{arith}
use Rattle.std.proofs.lemmas.Grind.{common_steps}
use Rattle.zr_evac.proofs.Frontiers.{no_source}
use Rattle.zr_evac.proofs.Evac.freed.Goals as goal

pub drop_above-requires-clause-there : goal.drop_above-requires-clause-there
drop_above-requires-clause-there c = λ u in_e le.
    let there = rw (← c.self.view_is) at c.requires.there in
    grind (arith, common_steps, there u in_e, no_source c.self.inside.opened u c.self.inside.map.entries c.self.invariant.copied le)
