use Rattle.std.proofs.Common.{◌∙◌, None, Some, sym, subst}
use Rattle.zr_base.specs.declared.space.Condensed.TheVariants as condensed_as
use Rattle.zr_rules.specs.Places.{part_of}
use Rattle.zr_rules.specs.Space.{Space}
use Rattle.zr_rules.specs.Steps.{Condenses, Remaps}
use Rattle.zr_space.specs.Condensing.{IsCondensed, LeadsAsBefore}
use Rattle.zr_space.proofs.Condensing.{kept_step, last_step, all_worked, not_yet, at_last, leads_itself, leads_put}
use Rattle.zr_space.proofs.space.Space.work.Goals as goal

pub returns-then-not-step-clause-step : goal.returns-then-not-step-clause-step
returns-then-not-step-clause-step c =
    let s = c.args.self.now in
    let dev = c.dev-dev.ensures in
    let w = c.step_of.new.cond in
    let next = rw dev at c.in_ok-step.ensures.next in
    let kept = rw dev at c.in_ok-step.ensures.kept in
    let last = rw dev at c.in_ok-step.ensures.last in
    subst (λ (new : Space). Condenses s (part_of s.parts.devs c.args.cond.dev).counts (part_of s.parts.devs c.args.cond.dev).fresh c.args.cond (condensed_as.Kept c.in_ok-step.step.kept) new) (sym c.put_back.ensures.kept)
    (kept_step s c.args.cond w next c.in_ok-step.step.kept kept (sym last ∙ not_yet c.in_ok-step.step.last c.if-not-step.true))

pub put_in-requires-clause-condensed : goal.put_in-requires-clause-condensed
put_in-requires-clause-condensed c =
    let s = c.args.self.now in
    let dev = c.dev-dev.ensures in
    let w = c.step_of.new.cond in
    let next = rw dev at c.in_ok-step.ensures.next in
    let last = rw dev at c.in_ok-step.ensures.last in
    let each = rw dev at c.in_ok-step.ensures.each in
    let condensed : IsCondensed (part_of s.parts.devs c.args.cond.dev) w.entries w.counts = all_worked s c.args.cond w next c.in_ok-step.ensures.under_way (sym last ∙ at_last c.in_ok-step.step.last c.if-not-step.false) each in
    rw (dev, c.finish-map.ensures.entries, c.finish-map.ensures.counts) condensed

pub returns-clause-step : goal.returns-clause-step
returns-clause-step c =
    let s = c.args.self.now in
    let dev = c.dev-dev.ensures in
    let w = c.step_of.new.cond in
    let next = rw dev at c.in_ok-step.ensures.next in
    let last = rw dev at c.in_ok-step.ensures.last in
    let put : Remaps s c.put_in.new.self c.args.cond.dev w.entries w.counts (part_of s.parts.devs c.args.cond.dev).fresh None = rw (dev, c.finish-map.ensures.entries, c.finish-map.ensures.counts) at c.put_in.ensures.remaps in
    last_step s c.args.cond w next c.put_in.new.self (sym last ∙ at_last c.in_ok-step.step.last c.if-not-step.false) put

pub returns-then-not-step-clause-leads : goal.returns-then-not-step-clause-leads
returns-then-not-step-clause-leads c =
    let s = c.args.self.now in
    subst (λ (new : Space). LeadsAsBefore s new) (sym c.put_back.ensures.kept) (leads_itself s (Some c.step_of.new.cond))

pub returns-clause-leads : goal.returns-clause-leads
returns-clause-leads c =
    let s = c.args.self.now in
    let dev = c.dev-dev.ensures in
    let w = c.step_of.new.cond in
    let next = rw dev at c.in_ok-step.ensures.next in
    let last = rw dev at c.in_ok-step.ensures.last in
    let each = rw dev at c.in_ok-step.ensures.each in
    let rising = rw dev at c.in_ok-step.ensures.rising in
    let condensed : IsCondensed (part_of s.parts.devs c.args.cond.dev) w.entries w.counts = all_worked s c.args.cond w next c.in_ok-step.ensures.under_way (sym last ∙ at_last c.in_ok-step.step.last c.if-not-step.false) each in
    let put : Remaps s c.put_in.new.self c.args.cond.dev w.entries w.counts (part_of s.parts.devs c.args.cond.dev).fresh None = rw (dev, c.finish-map.ensures.entries, c.finish-map.ensures.counts) at c.put_in.ensures.remaps in
    leads_put s c.put_in.new.self c.args.cond.dev w.entries w.counts _ None put condensed rising each
