use Rattle.std.proofs.Common.{◌≡◌, ◌≤◌, ◌<◌, ℕ, false, length}
use Rattle.zr_rules.specs.Places.{is_on}
use Rattle.zr_space.specs.Views.{kept_of}
use Rattle.zr_space.proofs.Sames.{AreSame}
use Rattle.zr_space.proofs.each.make_room.Given as goal

abbrev pub invariant-loop-dev : goal.invariant-loop-dev
invariant-loop-dev l = record {
  same : AreSame l.initial.devs.items l.devs.items;
  end : l.dev-end ≡ length l.initial.devs.items;
  changes : (d : ℕ) → d < l.dev → l.changes ≤ (kept_of l.devs.items d).uses.spare;
  moves : (d : ℕ) → d < l.dev → is_on (kept_of l.devs.items d).moves.state ≡ false → l.changes ≤ (kept_of l.devs.items d).moves.spare;
}
