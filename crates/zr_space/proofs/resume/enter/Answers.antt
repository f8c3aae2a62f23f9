use Rattle.std.proofs.Common.{◌≡◌, ◌∙◌, ◌≤◌, false, true, length, ap, sym, arith}
use Rattle.std.proofs.lemmas.Bool.Decides.{nat_tests}
use Rattle.zr_base.specs.Extents.{has_unit, in_extent}
use Rattle.zr_space.specs.Views.{Kept}
use Rattle.zr_space.proofs.Turning.{none_beyond}
use Rattle.zr_space.proofs.resume.enter.Goals as goal

pub returns-then-place-len-clause-no : goal.returns-then-place-len-clause-no
returns-then-place-len-clause-no c = λ _ can.
    let past : length c.args.devs.now.items ≤ c.args.dev = let e = c.len.ensures in let o = c.args.devs.now.ok.0 in let t = c.if-place-len.true in omega (arith, e, o, t) in
    let some = c.requires.some in
    let first : in_extent c.args.e c.args.e.start ≡ true = grind (arith, nat_tests, some) in
    absurd (false_true (sym (ap (λ (k : Kept). has_unit k.uses.held c.args.e.start) (none_beyond c.args.devs.now.items c.args.dev past)) ∙ can.held c.args.e.start first))
  where
    false_true : false ≡ true → ⊥
    false_true e = cc
