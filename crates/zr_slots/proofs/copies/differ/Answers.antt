use Rattle.std.proofs.Common.{◌≡◌, refl}
use Rattle.std.specs.Prelude.{Contains}
use Rattle.zr_label.specs.declared.root.Uber.{Uber}
use Rattle.zr_slots.specs.Checks.{IsOther}
use Rattle.zr_slots.proofs.Passing.{none_more, none_contains}
use Rattle.zr_slots.proofs.Shown.{contains_at}
use Rattle.zr_slots.proofs.copies.differ.Goals as goal

pub returns-then-has_other-clause-yes : goal.returns-then-has_other-clause-yes
returns-then-has_other-clause-yes c = λ t.
    let h = c.if-has_other.ensures.yes refl in
    (_, h.1, contains_at c.args.us.now c.loop-i.i _ c.loop-i-test.true, h.2, h.0, h.3)

pub loop-i-preserved : goal.loop-i-preserved
loop-i-preserved c =
    none_more (λ (u : Uber). (u.txg ≡ c.args.txg) × (v : Uber) × Contains c.args.vs.now v × IsOther u v) c.args.us.now c.loop-i.i _ _ c.loop-i-test.true refl c.loop-i.invariant
    (λ h. c.if-has_other.ensures.no refl h.0 h.1 h.2 h.3)

pub returns-clause-no : goal.returns-clause-no
returns-clause-no c = λ t u v in_us in_vs is other.
    none_contains (λ (u : Uber). (u.txg ≡ c.args.txg) × (v : Uber) × Contains c.args.vs.now v × IsOther u v) c.args.us.now c.loop-i.i c.loop-i-test.false c.loop-i.invariant u in_us (is, v, in_vs, other)
