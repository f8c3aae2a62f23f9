use Rattle.std.proofs.Common.{◌≡◌, Some, sym, subst}
use Rattle.zr_rules.specs.Space.{Space}
use Rattle.zr_space.specs.Condensing.{IsUnderWay}
use Rattle.zr_space.proofs.Condensing.{under_way_in}
use Rattle.zr_space.proofs.space.Space.condenses_in_order.Goals as goal

pub returns : goal.returns
returns c = λ e is.
    let whole = c.self.inside.whole in
    let devs = c.self.inside.devs.items in
    subst (λ (s : Space). IsUnderWay s e) c.self.view_is (under_way_in whole devs e (c.self.invariant.condensing e (subst (λ (s : Space). s.parts.cond ≡ Some e) (sym c.self.view_is) is)))
