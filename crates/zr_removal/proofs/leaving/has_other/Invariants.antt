use Rattle.std.proofs.Common.{◌≡◌, ℕ, ◌<◌, length}
use Rattle.zr_base.specs.declared.space.DevState.TheVariants.{On}
use Rattle.zr_rules.specs.Places.{state_of_dev}
use Rattle.zr_removal.proofs.leaving.has_other.Given as goal

abbrev pub invariant-loop-other : goal.invariant-loop-other
invariant-loop-other l = record {
  end : l.other-end ≡ length l.pool.space.parts.devs;
  none : (e : ℕ) → e < l.other → state_of_dev l.pool.space.parts.devs e ≡ On → e ≡ l.dev;
}
