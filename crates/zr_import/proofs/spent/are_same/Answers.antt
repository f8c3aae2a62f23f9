use Rattle.std.proofs.Common.{◌≡◌, ◌∙◌, ℕ, Bool, true, false, refl, ap, subst, arith}
use Rattle.std.specs.Prelude.{◌&&◌, ◌==◌}
use Rattle.std.specs.Bool.{Decides}
use Rattle.std.proofs.lemmas.Bool.{eqb-true}
use Rattle.std.proofs.lemmas.Bool.Decides.{nat_tests}
use Rattle.std.proofs.lemmas.Slice.Eq.{slice_eq-Decides}
use Rattle.zr_base.specs.declared.space.Extent.{Extent}
use Rattle.zr_import.proofs.spent.are_same.Goals as goal

both : (x y : Bool) → (x && y) ≡ true → (x ≡ true) × (y ≡ true)
both true y is = (refl, is)
both false y is = absurd cc

abbrev make : ℕ → ℕ → Extent
make start len = record { start = start; len = len }

of_parts : (a b : Extent) → a.start ≡ b.start → a.len ≡ b.len → a ≡ b
of_parts a b one two =
    let first : make a.start a.len ≡ make b.start a.len = ap (λ (n : ℕ). make n a.len) one in
    let then : make b.start a.len ≡ make b.start b.len = ap (λ (n : ℕ). make b.start n) two in
    whole a b (first ∙ then)
  where
    whole : (x y : Extent) → make x.start x.len ≡ make y.start y.len → x ≡ y
    whole x y is = is

one_extent : (a b : Extent) → Decides ((a.start == b.start) && (a.len == b.len)) (a ≡ b)
one_extent a b = (
  λ yes. (let parts = both (a.start == b.start) (a.len == b.len) yes in of_parts a b (eqb-true a.start b.start parts.0) (eqb-true a.len b.len parts.1)),
  λ same. subst (λ (x : Extent). ((a.start == x.start) && (a.len == x.len)) ≡ true) same (grind (arith, nat_tests)),
)

pub returns : goal.returns
returns c = slice_eq-Decides one_extent c.args.one.now c.args.other.now c.eq.result c.eq.ensures
