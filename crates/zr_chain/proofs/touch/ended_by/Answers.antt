use Rattle.std.proofs.Common.{◌≡◌, ◌+◌, ◌-◌, ◌/◌, ◌<◌, ◌≤◌, ℕ, subst, arith}
use Rattle.zr_base.specs.declared.space.Entry.{Entry}
use Rattle.zr_rules.specs.Mappings.{entry_at}
use Rattle.zr_chain.proofs.Counted.{ended_below, ended_from}
use Rattle.zr_chain.proofs.touch.ended_by.Goals as goal

pub loop-low-preserved-then-entry-from : goal.loop-low-preserved-then-entry-from
loop-low-preserved-then-entry-from c =
    let es = c.args.map.now.entries in
    let middle : ℕ = c.loop-low.low + (c.loop-low.high - c.loop-low.low) / 2 in
    record {
      ordered = omega arith;
      within = c.loop-low.invariant.within;
      below = ended_below es c.args.u middle c.entry-entry.ensures.rising (omega arith) (subst (λ (e : Entry). e.src + e.len ≤ c.args.u) c.entry-entry.ensures.value (omega arith));
      from = c.loop-low.invariant.from;
    }

pub loop-low-preserved : goal.loop-low-preserved
loop-low-preserved c =
    let es = c.args.map.now.entries in
    let middle : ℕ = c.loop-low.low + (c.loop-low.high - c.loop-low.low) / 2 in
    record {
      ordered = omega arith;
      within = omega arith;
      below = c.loop-low.invariant.below;
      from = ended_from es c.args.u middle c.entry-entry.ensures.rising (subst (λ (e : Entry). c.args.u < e.src + e.len) c.entry-entry.ensures.value (omega arith));
    }
