use Rattle.std.proofs.Common.{◌≡◌, ◌-◌, ◌^◌, ◌≤◌, ◌<◌}
use Rattle.zr_metaslab.proofs.maxima.Maxima.new.Given as goal

abbrev pub invariant-loop-size : goal.invariant-loop-size
invariant-loop-size l = record {
  power : l.size ≡ 2 ^ l.height;
  some : 0 < l.size;
  low : l.height < l.size;
  small : l.size ≤ 2 ^ 41;
}

abbrev pub decreases-loop-size : goal.decreases-loop-size
decreases-loop-size l = l.leaves - l.size
