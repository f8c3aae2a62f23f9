use Rattle.std.proofs.Common.{◌≡◌, ◌+◌, ◌-◌, ◌≤◌}
use Rattle.zr_base.specs.Extents.{has_unit}
use Rattle.zr_rules.specs.Places.{count_below}
use Rattle.zr_obsolete.proofs.fresh_in.Given as goal

abbrev pub invariant-loop-at : goal.invariant-loop-at
invariant-loop-at l = record {
  from : l.fn.e.src ≤ l.at;
  to : l.at ≤ l.end;
  end_is : l.end ≡ l.fn.e.src + l.fn.e.len;
  count_is : l.count ≡ count_below (l.at - l.fn.e.src) (λ k. has_unit l.fresh.extents (l.fn.e.src + k));
}

abbrev pub decreases-loop-at : goal.decreases-loop-at
decreases-loop-at l = l.end - l.at
