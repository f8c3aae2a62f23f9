use Rattle.std.proofs.Common.{◌≡◌, ◌∷◌, List, arith, sym, subst, refl}
use Rattle.std.proofs.lemmas.Grind.{common_steps}
use Rattle.zr_base.specs.declared.space.Extent.{Extent}
use Rattle.zr_space.specs.Reads.{AreCopied}
use Rattle.zr_space.proofs.Mapped.{copied_more, copied_less}
use Rattle.zr_space.proofs.moves.are_copied.Goals as goal

pub loop-first-preserved-else-not-is_unmarked : goal.loop-first-preserved-else-not-is_unmarked
loop-first-preserved-else-not-is_unmarked c =
    let m = c.args.moves.now in
    let below = c.in-Some-part_below.below in
    let split : c.in-Some.first.now ∷ c.in-Some.tail.now ≡ c.loop-first.rest.now = grind (arith, common_steps) in
    record {
      all = λ rest. c.loop-first.invariant.all
          (subst (λ (es : List Extent). AreCopied m.entries m.fresh es c.opened-opened.result) split
          (copied_more m.entries m.fresh c.in-Some.first.now c.in-Some.tail.now below c.opened-opened.result c.in-Some-part_below.ensures.units ((rw c.if-not-branch.false at c.in_ok-is_mapped.ensures).0 refl) (c.if-not-is_unmarked.ensures.0 refl) rest));
      part = λ all. copied_less m.entries m.fresh c.in-Some.first.now c.in-Some.tail.now c.opened-opened.result (subst (λ (es : List Extent). AreCopied m.entries m.fresh es c.opened-opened.result) (sym split) (c.loop-first.invariant.part all));
    }
