use Rattle.std.proofs.Common.{◌≡◌, ◌≤◌, ◌*◌, ◌^◌, length}
use Rattle.std.specs.List.{sum_by, range_with_len}
use Rattle.zr_space.proofs.Totalling.{free_on}
use Rattle.zr_space.proofs.space.Space.free_units.Given as goal

abbrev pub invariant-loop-dev : goal.invariant-loop-dev
invariant-loop-dev l = record {
  so_far : l.free ≡ sum_by (free_on l.self-inside.slabs l.self-inside.devs.items) (range_with_len 0 l.dev);
  most : l.free ≤ l.dev * 2 ^ 40;
  end : l.dev-end ≡ length l.self-inside.devs.items;
}
