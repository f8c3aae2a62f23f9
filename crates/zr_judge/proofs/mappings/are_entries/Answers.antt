use Rattle.std.proofs.Common.{◌≡◌, [], ◌∷◌, List, true, false, arith, sym, subst, refl}
use Rattle.std.proofs.lemmas.Grind.{common_steps}
use Rattle.std.proofs.lemmas.List.Elements.{All-from_recursion, recursion_from_All}
use Rattle.zr_base.specs.declared.space.Entry.{Entry}
use Rattle.zr_space.specs.Views.{EndsWithin}
use Rattle.zr_space.proofs.Mapped.{RiseWithin, rise_from, rise_ends, rises}
use Rattle.zr_judge.proofs.mappings.are_entries.Goals as goal

false_true : false ≡ true → ⊥
false_true e = cc

pub returns-then-not-is_next : goal.returns-then-not-is_next
returns-then-not-is_next c = (
  λ yes. absurd (false_true yes),
  λ all.
      let es = c.args.entries.now in
      let split : c.in-Some.first.now ∷ c.in-Some.tail.now ≡ c.loop-first.rest.now = grind (arith, common_steps) in
      let rest : RiseWithin c.args.units c.loop-first.low (c.in-Some.first.now ∷ c.in-Some.tail.now) =
      subst (λ (xs : List Entry). RiseWithin c.args.units c.loop-first.low xs) (sym split) (c.loop-first.invariant.part (rises c.args.units 0 es all.rising (recursion_from_All (EndsWithin c.args.units) es all.within))) in
      absurd (false_true (c.if-not-is_next.ensures.1 (rest.0, rest.1, rest.2))),
)

pub returns : goal.returns
returns c = (
  λ _.
      let es = c.args.entries.now in
      let none : c.loop-first.rest.now ≡ [] = grind (arith, common_steps) in
      let all : RiseWithin c.args.units 0 es = c.loop-first.invariant.all (subst (λ (xs : List Entry). RiseWithin c.args.units c.loop-first.low xs) (sym none) tt) in
      record { rising = rise_from c.args.units 0 es all; within = All-from_recursion (EndsWithin c.args.units) es (rise_ends c.args.units 0 es all) },
  λ _. refl,
)
