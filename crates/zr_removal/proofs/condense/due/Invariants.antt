use Rattle.std.proofs.Common.{◌≡◌, drop, length}
use Rattle.zr_rules.specs.Steps.{due_from}
use Rattle.zr_removal.proofs.condense.due.Given as goal

abbrev pub invariant-loop-dev : goal.invariant-loop-dev
invariant-loop-dev l = record {
  end : l.dev-end ≡ length l.space.parts.devs;
  so_far : due_from 0 l.space.parts.devs ≡ due_from l.dev (drop l.dev l.space.parts.devs);
}
