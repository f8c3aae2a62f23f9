use Rattle.std.proofs.Common.{◌-◌, ◌≤◌, vec_len}
use Rattle.zr_paged.proofs.front.make_ready.Given as goal

abbrev pub invariant-loop-alloc : goal.invariant-loop-alloc
invariant-loop-alloc l = vec_len l.initial.ready ≤ vec_len l.ready

abbrev pub decreases-loop-alloc : goal.decreases-loop-alloc
decreases-loop-alloc l = l.wanted - vec_len l.ready
