use Rattle.std.proofs.Common.{◌≡◌, ◌+◌, ◌-◌, ◌*◌, ◌/◌, ◌^◌, ◌≤◌, ℕ, max, length, arith, sym, ⊎_elim, subst}
use Rattle.std.proofs.lemmas.Bool.{cases_lt}
use Rattle.std.specs.declared.cmp.Ordering.TheVariants.{Less, Greater}
use Rattle.zr_rules.specs.Mappings.{entry_at, entry_order}
use Rattle.zr_imap.proofs.Searching.{cost_more, earlier_less, later_greater, none_equal}
use Rattle.zr_imap.proofs.sorted.search.Goals as goal

pub loop-low-preserved-in-Less : goal.loop-low-preserved-in-Less
loop-low-preserved-in-Less g c =
    let es = g.O.Sorted.entries c.args.sorted.now in
    let middle : ℕ = c.loop-low.low + (c.loop-low.high - c.loop-low.low) / 2 in
    record {
      ordered = omega arith;
      within = c.loop-low.invariant.within;
      below = λ i lt. ⊎_elim
          (λ before. earlier_less es c.args.u i middle c.requires.along before (omega arith) c.in-Less.ensures.order)
          (λ at. let same : middle ≡ i = omega arith in subst (λ (j : ℕ). entry_order (entry_at es j) c.args.u ≡ Less) same (sym c.in-Less.ensures.order))
          (cases_lt i middle);
      above = c.loop-low.invariant.above;
      begun = omega (arith, c.compare.ensures.step);
      cost = rw c.compare.ensures.step (cost_more c.loop-low.steps c.args.steps.now (c.loop-low.high - c.loop-low.low) _ _ c.loop-low.invariant.begun c.loop-low.invariant.cost (omega arith) (omega arith));
    }

pub loop-low-preserved : goal.loop-low-preserved
loop-low-preserved g c =
    let es = g.O.Sorted.entries c.args.sorted.now in
    let middle : ℕ = c.loop-low.low + (c.loop-low.high - c.loop-low.low) / 2 in
    record {
      ordered = omega arith;
      within = omega arith;
      below = c.loop-low.invariant.below;
      above = λ i from i_in. ⊎_elim
          (λ past. later_greater es c.args.u middle i c.requires.along past i_in c.in-Greater.ensures.order)
          (λ at. let same : middle ≡ i = omega arith in subst (λ (j : ℕ). entry_order (entry_at es j) c.args.u ≡ Greater) same (sym c.in-Greater.ensures.order))
          (cases_lt middle i);
      begun = omega (arith, c.compare.ensures.step);
      cost = rw c.compare.ensures.step (cost_more c.loop-low.steps c.args.steps.now (c.loop-low.high - c.loop-low.low) _ _ c.loop-low.invariant.begun c.loop-low.invariant.cost (omega arith) (omega arith));
    }

pub returns-in-Equal-clause-cost : goal.returns-in-Equal-clause-cost
returns-in-Equal-clause-cost g c =
    let last : 2 ^ (c.loop-low.steps + 1 - c.args.steps.now) * max (2 * 0) 1 ≤ max (2 * length (g.O.Sorted.entries c.args.sorted.now)) 1 =
    cost_more c.loop-low.steps c.args.steps.now (c.loop-low.high - c.loop-low.low) 0 _ c.loop-low.invariant.begun c.loop-low.invariant.cost (omega arith) (omega arith) in
    rw c.compare.ensures.step (omega arith)

pub returns-clause-found : goal.returns-clause-found
returns-clause-found g c =
    none_equal c.args.u (g.O.Sorted.entries c.args.sorted.now) (λ i i_in same. ⊎_elim
    (λ below. let less = c.loop-low.invariant.below i below in cc)
    (λ above. let greater = c.loop-low.invariant.above i (omega arith) i_in in cc)
    (cases_lt i c.loop-low.low))
