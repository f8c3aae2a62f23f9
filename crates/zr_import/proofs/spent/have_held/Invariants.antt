use Rattle.std.proofs.Common.{◌≡◌, ◌<◌, ℕ}
use Rattle.zr_rules.specs.Places.{part_of}
use Rattle.zr_import.proofs.spent.have_held.Given as goal

abbrev pub invariant-loop-dev : goal.invariant-loop-dev
invariant-loop-dev l = (d : ℕ) → d < l.dev → (part_of l.space.parts.devs d).held ≡ (part_of l.parts d).held
