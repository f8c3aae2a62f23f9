use Rattle.std.proofs.Common.{refl}
use Rattle.zr_slots.specs.Checks.{IsOther}
use Rattle.zr_slots.proofs.Passing.{none_more, none_contains}
use Rattle.zr_slots.proofs.Shown.{contains_at}
use Rattle.zr_slots.proofs.copies.other_in.Goals as goal

pub returns-then-is_other-clause-yes : goal.returns-then-is_other-clause-yes
returns-then-is_other-clause-yes c = λ t. (_, contains_at c.args.us.now c.loop-i.i _ c.loop-i-test.true, c.if-is_other.ensures.yes refl)

pub loop-i-preserved : goal.loop-i-preserved
loop-i-preserved c = none_more (IsOther c.args.u.now) c.args.us.now c.loop-i.i _ _ c.loop-i-test.true refl c.loop-i.invariant (c.if-is_other.ensures.no refl)

pub returns-clause-no : goal.returns-clause-no
returns-clause-no c = λ t. none_contains (IsOther c.args.u.now) c.args.us.now c.loop-i.i c.loop-i-test.false c.loop-i.invariant
