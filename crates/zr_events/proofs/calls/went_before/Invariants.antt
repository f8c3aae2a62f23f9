use Rattle.std.proofs.Common.{◌≡◌, ℕ, ◌<◌, ◌&&◌, false, nat_le}
use Rattle.zr_rules.specs.Places.{is_gone, part_of, state_of_dev}
use Rattle.zr_events.proofs.calls.went_before.Given as goal

abbrev pub invariant-loop-dev : goal.invariant-loop-dev
invariant-loop-dev l = (d : ℕ) → d < l.dev → (is_gone (state_of_dev l.space.parts.devs d) && nat_le l.txg (part_of l.space.parts.devs d).row.gone) ≡ false
