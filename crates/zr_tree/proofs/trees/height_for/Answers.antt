use Rattle.std.proofs.Common.{ℕ, inl, inr, subst, sym, arith, rules}
use Rattle.std.proofs.lemmas.Bool.{cases_eq}
use Rattle.zr_tree.specs.Trees.{HasRoom}
use Rattle.zr_tree.proofs.trees.height_for.Goals as goal

pub loop-height-preserved : goal.loop-height-preserved
loop-height-preserved c = record {
  grows = search rules;
  tall = search rules;
  least = λ lower from room.
      let le = c.loop-height.invariant.least lower from room in
      elim (cases_eq c.loop-height.height lower) [
        | inl e ↦ let no = c.if-not-has_room.ensures.1 (subst (λ (n : ℕ). HasRoom n c.args.changes.now) (sym e) room) in absurd (search rules)
        | inr ne ↦ omega (arith, le, ne)
      ];
}
