use Rattle.std.proofs.Common.{◌≡◌, ◌+◌, ◌-◌, ◌/◌, ◌<◌, ◌≤◌, ℕ, true, false, sym, ap, ◌∙◌, arith}
use Rattle.std.proofs.lemmas.Bool.Decides.{nat_tests}
use Rattle.zr_base.specs.declared.space.Entry.{Entry}
use Rattle.zr_rules.specs.Mappings.{entry_at}
use Rattle.zr_chain.specs.Touches.{begins_before}
use Rattle.zr_chain.proofs.Counted.{begun_below, begun_from}
use Rattle.zr_chain.proofs.touch.begun_before.Goals as goal

pub loop-low-preserved-then-begins_before : goal.loop-low-preserved-then-begins_before
loop-low-preserved-then-begins_before c =
    let es = c.args.map.now.entries in
    let middle : ℕ = c.loop-low.low + (c.loop-low.high - c.loop-low.low) / 2 in
    let begins : begins_before c.args.e.start c.args.e.len (entry_at es middle) ≡ true = ap (λ (e : Entry). begins_before c.args.e.start c.args.e.len e) (sym c.entry.ensures.value) ∙ sym c.if-begins_before.ensures in
    record {
      ordered = omega arith;
      within = c.loop-low.invariant.within;
      below = begun_below es c.args.e.start c.args.e.len middle c.entry.ensures.rising (omega arith) (grind (arith, nat_tests, begins));
      from = c.loop-low.invariant.from;
    }

pub loop-low-preserved : goal.loop-low-preserved
loop-low-preserved c =
    let es = c.args.map.now.entries in
    let middle : ℕ = c.loop-low.low + (c.loop-low.high - c.loop-low.low) / 2 in
    let begins : begins_before c.args.e.start c.args.e.len (entry_at es middle) ≡ false = ap (λ (e : Entry). begins_before c.args.e.start c.args.e.len e) (sym c.entry.ensures.value) ∙ sym c.if-begins_before.ensures in
    record {
      ordered = omega arith;
      within = omega arith;
      below = c.loop-low.invariant.below;
      from = begun_from es c.args.e.start c.args.e.len middle c.entry.ensures.rising (grind (arith, nat_tests, begins));
    }
