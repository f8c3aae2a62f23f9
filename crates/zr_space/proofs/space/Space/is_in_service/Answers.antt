use Rattle.std.proofs.Common.{◌≡◌, ◌<◌, ◌∙◌, ℕ, true, false, length, refl, sym, ap, subst, arith}
use Rattle.zr_rules.specs.Equation.{devices_in}
use Rattle.zr_rules.specs.Places.{is_on}
use Rattle.zr_rules.specs.Space.{Space}
use Rattle.zr_space.specs.Paths.{AreInService}
use Rattle.zr_space.specs.Views.{Kept, kept_of}
use Rattle.zr_space.proofs.Leads.{all_serve, are_on}
use Rattle.zr_space.proofs.Views.{kept_read}
use Rattle.zr_space.proofs.space.Space.is_in_service.Goals as goal

false_true : false ≡ true → ⊥
false_true e = cc

pub returns-then-not-is_on : goal.returns-then-not-is_on
returns-then-not-is_on c =
    let devs = c.self.inside.devs.items in
    let d = c.loop-dev.dev in
    let there : d < length devs = let t = c.loop-dev-test.true in let e = c.loop-dev.invariant.end in omega (arith, t, e) in
    let is : c.index.result.now ≡ kept_of devs d = kept_read devs d c.index.result.now there c.index.ensures in
    let off : is_on (kept_of devs d).row.state ≡ false = ap (λ (k : Kept). is_on k.row.state) (sym is) ∙ (sym c.is_on.ensures ∙ c.if-not-is_on.true) in (
      λ yes. absurd (false_true yes),
      λ service. absurd (false_true (sym off ∙ ap is_on (are_on c.self.inside.whole devs (subst (λ (s : Space). AreInService (devices_in s)) (sym c.self.view_is) service) d))),
    )

pub returns : goal.returns
returns c =
    let devs = c.self.inside.devs.items in
    let i = c.loop-dev.invariant in
    let all : (d : ℕ) → d < length devs → is_on (kept_of devs d).row.state ≡ true = λ d lt. i.so_far d (let t = c.loop-dev-test.false in let e = i.end in omega (arith, t, e, lt)) in (
      λ yes. subst (λ (s : Space). AreInService (devices_in s)) c.self.view_is (all_serve c.self.inside.whole devs all),
      λ service. refl,
    )
