use Rattle.std.proofs.Common.{◌≡◌, ℕ, ◌<◌, false, length}
use Rattle.zr_rules.specs.Places.{is_leaving}
use Rattle.zr_space.specs.Views.{kept_of}
use Rattle.zr_space.proofs.space.Space.leaving.Given as goal

abbrev pub invariant-loop-dev : goal.invariant-loop-dev
invariant-loop-dev l = record {
  so_far : (d : ℕ) → d < l.dev → is_leaving (kept_of l.self-inside.devs.items d).row.state ≡ false;
  end : l.dev-end ≡ length l.self-inside.devs.items;
}
