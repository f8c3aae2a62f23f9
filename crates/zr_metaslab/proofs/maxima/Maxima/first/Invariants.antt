use Rattle.zr_metaslab.proofs.Nodes.{IsDown}
use Rattle.zr_metaslab.proofs.maxima.Maxima.first.Given as goal

abbrev pub invariant-loop : goal.invariant-loop
invariant-loop l = IsDown l.self-inside.nodes.items l.want l.counter l.n
