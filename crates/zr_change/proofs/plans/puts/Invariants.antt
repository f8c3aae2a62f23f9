use Rattle.std.proofs.Common.{◌≡◌, ◌≤◌, take}
use Rattle.zr_change.specs.Plans.{puts_of}
use Rattle.zr_change.proofs.plans.puts.Given as goal

abbrev pub invariant-loop-p : goal.invariant-loop-p
invariant-loop-p l = record {
  puts : l.puts ≡ puts_of (take l.p-index l.plan);
  most : l.puts ≤ l.p-index;
}
