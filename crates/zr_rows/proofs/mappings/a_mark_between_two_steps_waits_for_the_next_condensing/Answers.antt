use Rattle.std.proofs.Common.{◌≡◌, ◌∙◌, ℕ, List, length, replicate, ap, arith}
use Rattle.std.proofs.lemmas.Grind.{common_steps}
use Rattle.zr_rows.proofs.Rising.{fits_zero, folded_length}
use Rattle.zr_rows.proofs.mappings.a_mark_between_two_steps_waits_for_the_next_condensing.Goals as goal

pub fold-requires-clause-fits : goal.fold-requires-clause-fits
fold-requires-clause-fits g c =
    let counts : c.mark.new.self.counts ≡ replicate 100 0 = grind (arith, common_steps, c.mark.ensures.counts) in
    fits_zero 100 c.in_ok-map.map.entries c.mark.new.self.counts c.mark.new.self.fresh counts

pub step-requires-clause-count : goal.step-requires-clause-count
step-requires-clause-count g c =
    let was : length c.mark.new.self.counts ≡ length c.in_ok-map.map.entries = grind (arith, common_steps, c.mark.ensures.counts, c.in_ok-map.ensures) in
    ap (λ (ns : List ℕ). length ns) (c.counts.ensures ∙ c.fold.ensures.counts) ∙ folded_length c.in_ok-map.map.entries c.mark.new.self.counts c.mark.new.self.fresh was

pub step-requires-2-clause-count : goal.step-requires-2-clause-count
step-requires-2-clause-count g c =
    let was : length c.mark.new.self.counts ≡ length c.in_ok-map.map.entries = grind (arith, common_steps, c.mark.ensures.counts, c.in_ok-map.ensures) in
    ap (λ (ns : List ℕ). length ns) (c.counts-2.ensures ∙ (c.mark-2.ensures.counts ∙ c.fold.ensures.counts)) ∙ folded_length c.in_ok-map.map.entries c.mark.new.self.counts c.mark.new.self.fresh was
