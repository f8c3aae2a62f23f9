use Rattle.std.proofs.Common.{◌≡◌, ℕ, ◌<◌, true, length}
use Rattle.zr_rules.specs.Places.{is_on}
use Rattle.zr_space.specs.Views.{kept_of}
use Rattle.zr_space.proofs.space.Space.is_in_service.Given as goal

abbrev pub invariant-loop-dev : goal.invariant-loop-dev
invariant-loop-dev l = record {
  so_far : (d : ℕ) → d < l.dev → is_on (kept_of l.self-inside.devs.items d).row.state ≡ true;
  end : l.dev-end ≡ length l.self-inside.devs.items;
}
