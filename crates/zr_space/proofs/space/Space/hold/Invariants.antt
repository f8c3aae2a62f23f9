use Rattle.std.proofs.Common.{◌≡◌, length}
use Rattle.zr_space.specs.Views.{with_saved, IsSpace}
use Rattle.zr_space.proofs.Turning.{TurnedBelow}
use Rattle.zr_space.proofs.space.Space.hold.Given as goal

abbrev pub invariant-loop-dev : goal.invariant-loop-dev
invariant-loop-dev l = record {
  space : IsSpace l.initial.self-inside.whole l.self-inside.slabs l.self-inside.devs.items;
  whole : l.self-inside.whole ≡ l.initial.self-inside.whole;
  devices : length l.self-inside.devs.items ≡ length l.initial.self-inside.devs.items;
  end : l.dev-end ≡ length l.initial.self-inside.devs.items;
  so_far : TurnedBelow with_saved l.initial.self-inside.devs.items l.self-inside.devs.items l.dev;
}
