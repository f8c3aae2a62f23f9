use Rattle.std.proofs.Common.{◌≡◌, ◌<◌, ℕ, [], length}
use Rattle.zr_space.specs.Views.{kept_of}
use Rattle.zr_space.proofs.space.Space.lowest_saved.Given as goal

abbrev pub invariant-loop-dev : goal.invariant-loop-dev
invariant-loop-dev l = record {
  end : l.dev-end ≡ length l.self-inside.devs.items;
  none : (d : ℕ) → d < l.dev → (kept_of l.self-inside.devs.items d).uses.saved ≡ [];
}
