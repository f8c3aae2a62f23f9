use Rattle.std.proofs.Common.{◌≡◌, ℕ, Option, Some}
use Rattle.zr_slots.proofs.Passing.{NoneYet}
use Rattle.zr_slots.proofs.refuse.is_mine.Given as goal

abbrev pub invariant-loop-m : goal.invariant-loop-m
invariant-loop-m l = NoneYet (λ (m : Option ℕ). m ≡ Some l.slot) l.mine l.m-index
