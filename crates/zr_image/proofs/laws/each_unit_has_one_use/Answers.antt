use Rattle.std.proofs.Common.{◌≡◌, ◌≤◌, ℕ, suc, arith}
use Rattle.zr_rules.specs.Space.{role_at}
use Rattle.zr_image.proofs.laws.each_unit_has_one_use.Goals as goal

no_one : (n : ℕ) → suc n ≡ n → ⊥
no_one n e = omega (arith, e)

no_none : (n : ℕ) → n ≡ suc n → ⊥
no_none n e = omega (arith, e)

pub returns-clause-live_and_kept : goal.returns-clause-live_and_kept
unfolding role_at
returns-clause-live_and_kept c = λ balanced. no_one 0 (balanced.adds.once 0 5)

pub returns-clause-live_and_meta : goal.returns-clause-live_and_meta
returns-clause-live_and_meta c = λ balanced. let e : 2 ≤ 1 = balanced.once.once 0 5 in absurd (omega arith)

pub returns-clause-twice : goal.returns-clause-twice
unfolding role_at
returns-clause-twice c = λ balanced. no_one 1 (balanced.adds.once 0 5)

pub returns-clause-unused : goal.returns-clause-unused
unfolding role_at
returns-clause-unused c = λ balanced. no_none 0 (balanced.adds.once 0 5)

pub returns-clause-not_held : goal.returns-clause-not_held
unfolding role_at
returns-clause-not_held c = λ balanced. no_one 0 (balanced.adds.once 0 5)
