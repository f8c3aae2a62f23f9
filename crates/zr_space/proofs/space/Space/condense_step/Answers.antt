use Rattle.std.proofs.Common.{◌≡◌, ◌∙◌, ℕ, [], length, Option, None, Some, sym, ap, subst}
use Rattle.std.specs.Prelude.{IfOk}
use Rattle.zr_base.specs.declared.space.CondPart.{CondPart}
use Rattle.zr_rules.specs.Condense.{folded}
use Rattle.zr_rules.specs.Places.{part_of}
use Rattle.zr_rules.specs.Space.{Space}
use Rattle.zr_rules.specs.Steps.{Condenses, CondensesFrom, Remaps, due_device}
use Rattle.zr_space.proofs.Condensing.{goes_on, begins_on, if_ok, on_ok, with_none, leads_taken, leads_folded}
use Rattle.zr_rules.specs.Frees.{IsSameRoot}
use Rattle.zr_space.proofs.CondenseRoot.{taken_root}
use Rattle.zr_space.proofs.CopyRoot.{root_then}
use Rattle.zr_space.proofs.space.Space.condense_step.Goals as goal

pub returns-in-Some-clause-step : goal.returns-in-Some-clause-step
returns-in-Some-clause-step c =
    let old : Space = c.args.self.now in
    let cond : old.parts.cond ≡ Some c.in-Some.cond = sym c.take_cond.ensures.cond ∙ c.in-Some.is in
    if_ok c.work.result _ _
    (λ outcome h. subst (λ (o : Option CondPart). CondensesFrom o (due_device old) old outcome c.work.new.self) (sym cond) (goes_on old c.take_cond.new.self c.work.new.self c.in-Some.cond outcome c.take_cond.ensures.taken h))
    c.work.ensures.step

pub returns-clause-step : goal.returns-clause-step
returns-clause-step c =
    let old : Space = c.args.self.now in
    let dev = c.in-Some-due.dev in
    let none : old.parts.cond ≡ None = sym c.take_cond.ensures.cond ∙ c.in_default.is in
    let same : c.take_cond.new.self ≡ old = c.take_cond.ensures.taken ∙ with_none old none in
    let due : due_device old ≡ Some dev = sym (ap due_device same) ∙ (sym c.due.ensures.due ∙ c.in-Some-due.is) in
    let folds : Remaps old c.fold.new.self dev (part_of old.parts.devs dev).entries (folded (part_of old.parts.devs dev).entries (part_of old.parts.devs dev).counts (part_of old.parts.devs dev).fresh) [] None =
    subst (λ (s : Space). Remaps s c.fold.new.self dev (part_of s.parts.devs dev).entries (folded (part_of s.parts.devs dev).entries (part_of s.parts.devs dev).counts (part_of s.parts.devs dev).fresh) [] None) same c.in_ok-fold.ensures.folds in
    let begun : CondPart = record { dev = dev; at = 0; entries = []; counts = [] } in
    if_ok c.work-2.result _ _
    (λ outcome h.
    subst (λ (o : Option CondPart). CondensesFrom o (due_device old) old outcome c.work-2.new.self) (sym none)
    (subst (λ (d : Option ℕ). CondensesFrom None d old outcome c.work-2.new.self) (sym due)
    (begins_on old c.fold.new.self c.work-2.new.self begun (folded (part_of old.parts.devs dev).entries (part_of old.parts.devs dev).counts (part_of old.parts.devs dev).fresh) outcome folds h)))
    (subst (λ (v : CondPart). IfOk c.work-2.result (λ outcome. Condenses c.fold.new.self (part_of c.fold.new.self.parts.devs v.dev).counts (part_of c.fold.new.self.parts.devs v.dev).fresh v outcome c.work-2.new.self)) c.begin-cond.ensures c.work-2.ensures.step)

pub returns-in-Some-clause-leads : goal.returns-in-Some-clause-leads
returns-in-Some-clause-leads c =
    on_ok c.work.result _ _ (leads_taken c.args.self.now c.take_cond.new.self c.work.new.self c.take_cond.ensures.taken) c.work.ensures.leads

pub returns-clause-leads : goal.returns-clause-leads
returns-clause-leads c =
    let old : Space = c.args.self.now in
    let dev = c.in-Some-due.dev in
    let none : old.parts.cond ≡ None = sym c.take_cond.ensures.cond ∙ c.in_default.is in
    let same : c.take_cond.new.self ≡ old = c.take_cond.ensures.taken ∙ with_none old none in
    let folds : Remaps old c.fold.new.self dev (part_of old.parts.devs dev).entries (folded (part_of old.parts.devs dev).entries (part_of old.parts.devs dev).counts (part_of old.parts.devs dev).fresh) [] None =
    subst (λ (s : Space). Remaps s c.fold.new.self dev (part_of s.parts.devs dev).entries (folded (part_of s.parts.devs dev).entries (part_of s.parts.devs dev).counts (part_of s.parts.devs dev).fresh) [] None) same c.in_ok-fold.ensures.folds in
    let each : length (part_of old.parts.devs dev).counts ≡ length (part_of old.parts.devs dev).entries = subst (λ (s : Space). length (part_of s.parts.devs dev).counts ≡ length (part_of s.parts.devs dev).entries) same c.fold.ensures.each in
    on_ok c.work-2.result _ _ (leads_folded old c.fold.new.self c.work-2.new.self dev folds each) c.work-2.ensures.leads

pub returns-in-Some-clause-root : goal.returns-in-Some-clause-root
returns-in-Some-clause-root c = on_ok c.work.result _ _ (taken_root c.args.self.now c.take_cond.new.self c.work.new.self None c.take_cond.ensures.taken) c.work.ensures.root

pub returns-clause-root : goal.returns-clause-root
returns-clause-root c =
    let old : Space = c.args.self.now in
    let none : old.parts.cond ≡ None = sym c.take_cond.ensures.cond ∙ c.in_default.is in
    let same : c.take_cond.new.self ≡ old = c.take_cond.ensures.taken ∙ with_none old none in
    let folded : IsSameRoot old c.fold.new.self = subst (λ (s : Space). IsSameRoot s c.fold.new.self) same c.in_ok-fold.ensures.root in
    on_ok c.work-2.result _ _ (λ then. root_then old c.fold.new.self c.work-2.new.self folded then) c.work-2.ensures.root
