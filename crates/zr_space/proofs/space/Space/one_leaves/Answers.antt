use Rattle.std.proofs.Common.{◌≡◌, ℕ, true, sym, subst}
use Rattle.zr_rules.specs.Places.{is_leaving, state_of_dev}
use Rattle.zr_rules.specs.Space.{Space}
use Rattle.zr_space.specs.Views.{space_of}
use Rattle.zr_space.proofs.Ready.{leaving_as}
use Rattle.zr_space.proofs.space.Space.one_leaves.Goals as goal

pub returns : goal.returns
returns c = λ d e first second.
    let whole = c.self.inside.whole in
    let devs = c.self.inside.devs.items in
    let here : (i : ℕ) → is_leaving (state_of_dev c.args.self.now.parts.devs i) ≡ true → is_leaving (state_of_dev (space_of whole devs).parts.devs i) ≡ true = λ i is. subst (λ (s : Space). is_leaving (state_of_dev s.parts.devs i) ≡ true) (sym c.self.view_is) is in
    c.self.invariant.single d e (leaving_as whole devs d (here d first)) (leaving_as whole devs e (here e second))
