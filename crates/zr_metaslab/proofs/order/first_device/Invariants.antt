use Rattle.std.proofs.Common.{◌≡◌, ◌<◌, ℕ, true, false}
use Rattle.std.specs.Prelude.{IfSome, IfNone}
use Rattle.zr_metaslab.specs.Order.{has_run, comes_before}
use Rattle.zr_metaslab.proofs.order.first_device.Given as goal

abbrev pub invariant-loop-d : goal.invariant-loop-d
invariant-loop-d l = record {
  there : IfSome l.best (λ b. b < l.d);
  run : IfSome l.best (λ b. has_run l.devs l.want b ≡ true);
  before : IfSome l.best (λ b. (j : ℕ) → j < l.d → comes_before l.devs j b ≡ true → has_run l.devs l.want j ≡ false);
  none : IfNone l.best ((j : ℕ) → j < l.d → has_run l.devs l.want j ≡ false);
}
