use Rattle.std.proofs.Common.{◌≡◌, drop, length, map}
use Rattle.zr_rules.specs.Steps.{due_from}
use Rattle.zr_space.specs.Views.{part_in}
use Rattle.zr_space.proofs.space.Space.due.Given as goal

abbrev pub invariant-loop-dev : goal.invariant-loop-dev
invariant-loop-dev l = record {
  end : l.dev-end ≡ length l.self-inside.devs.items;
  so_far : due_from 0 (map part_in l.self-inside.devs.items) ≡ due_from l.dev (map part_in (drop l.dev l.self-inside.devs.items));
}
