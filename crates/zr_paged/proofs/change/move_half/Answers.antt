use Rattle.std.proofs.Common.{◌≡◌, List, [], ◌∷◌, ◌++◌, ap, sym, subst, ◌∙◌, append_assoc}
use Rattle.zr_base.specs.declared.space.Extent.{Extent}
use Rattle.zr_base.specs.Extents.{IsMaximal}
use Rattle.zr_paged.proofs.Joined.{maximal_front}
use Rattle.zr_paged.proofs.change.move_half.Goals as goal

pub push_last-requires-clause-maximal : goal.push_last-requires-clause-maximal
push_last-requires-clause-maximal c =
    let all : (c.loop-page.low ++ c.take_first-first.result ∷ []) ++ c.take_first-first.new.self ≡ c.args.page.now = append_assoc c.loop-page.low (c.take_first-first.result ∷ []) c.take_first-first.new.self ∙ ap (λ (l : List Extent). c.loop-page.low ++ l) (sym c.take_first-first.ensures.first) ∙ c.loop-page.invariant.all in
    maximal_front 0 (c.loop-page.low ++ c.take_first-first.result ∷ []) c.take_first-first.new.self (subst (λ (l : List Extent). IsMaximal l) (sym all) c.requires.maximal)
