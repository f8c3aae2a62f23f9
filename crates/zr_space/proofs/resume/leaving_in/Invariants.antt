use Rattle.std.proofs.Common.{◌≡◌, ℕ, ◌<◌, true, length, Some, IfSome}
use Rattle.zr_rules.specs.Places.{is_leaving}
use Rattle.zr_space.specs.Views.{kept_of}
use Rattle.zr_space.proofs.resume.leaving_in.Given as goal

abbrev pub invariant-loop-dev : goal.invariant-loop-dev
invariant-loop-dev l = record {
  below : IfSome l.found (λ d. d < l.dev);
  leaving : IfSome l.found (λ d. is_leaving (kept_of l.devs d).row.state ≡ true);
  only : (d : ℕ) → d < l.dev → is_leaving (kept_of l.devs d).row.state ≡ true → l.found ≡ Some d;
  end : l.dev-end ≡ length l.devs;
}
