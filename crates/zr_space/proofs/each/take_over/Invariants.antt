use Rattle.std.proofs.Common.{◌≡◌, length}
use Rattle.zr_space.specs.Leavings.{without_copies}
use Rattle.zr_space.proofs.Turning.{TurnedBelow}
use Rattle.zr_space.proofs.each.take_over.Given as goal

abbrev pub invariant-loop-dev : goal.invariant-loop-dev
invariant-loop-dev l = record {
  devices : length l.devs.items ≡ length l.initial.devs.items;
  end : l.dev-end ≡ length l.initial.devs.items;
  so_far : TurnedBelow without_copies l.initial.devs.items l.devs.items l.dev;
}
