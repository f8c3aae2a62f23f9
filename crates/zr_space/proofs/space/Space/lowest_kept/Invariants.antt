use Rattle.std.proofs.Common.{◌≡◌, ◌-◌, ◌++◌, ◌≤◌, take, drop, length}
use Rattle.zr_space.proofs.Lowest.{kept_from}
use Rattle.zr_space.proofs.space.Space.lowest_kept.Given as goal

abbrev pub invariant-loop-dev : goal.invariant-loop-dev
invariant-loop-dev l = record {
  end : l.dev-end ≡ length l.self-inside.devs.items;
  few : length l.list.items ≤ l.n;
  all : take l.n (kept_from 0 l.self-inside.devs.items) ≡ l.list.items ++ take (l.n - length l.list.items) (kept_from l.dev (drop l.dev l.self-inside.devs.items));
}
