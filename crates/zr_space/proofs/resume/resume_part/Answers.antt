use Rattle.std.proofs.Common.{◌≡◌, ◌∙◌, ◌≤◌, ◌<◌, ℕ, List, false, true, length, sym, ap, subst, arith}
use Rattle.zr_base.specs.declared.space.CondPart.{CondPart}
use Rattle.zr_base.specs.declared.space.Entry.{Entry}
use Rattle.zr_condense.specs.Condensing.{HasWorked}
use Rattle.zr_space.specs.Views.{Kept, kept_of, IsCondensing}
use Rattle.zr_space.proofs.Resuming.{same_worked}
use Rattle.zr_space.proofs.Views.{kept_read}
use Rattle.zr_space.proofs.resume.resume_part.Goals as goal

false_true : false ≡ true → ⊥
false_true e = cc

pub returns-then-not-is_same-clause-none : goal.returns-then-not-is_same-clause-none
returns-then-not-is_same-clause-none c = λ can.
    let devs : List Kept = c.args.devs.now in
    let part = c.args.part.now in
    let there : part.dev < length devs = c.if-dev-devs.false in
    let k : Kept = record { row = c.device.inside.row; uses = c.device.inside.units; moves = c.device.inside.moves } in
    let is : k ≡ kept_of devs part.dev = c.device.view_is ∙ kept_read devs part.dev c.index-devs-dev.result there c.index-devs-dev.is in
    let mine : IsCondensing part k = subst (IsCondensing part) (sym is) can in
    let entries : c.in-Some.map.now.entries ≡ k.moves.entries = c.in-Some.ensures.0 in
    let counts : c.gone_counts.result.now ≡ k.moves.counts = c.gone_counts.ensures in
    let worked : HasWorked k.moves.entries k.moves.counts c.step.new.self =
    subst (λ (es : List Entry). HasWorked es k.moves.counts c.step.new.self) entries (subst (λ (ns : List ℕ). HasWorked c.in-Some.map.now.entries ns c.step.new.self) counts c.in_ok-step.ensures.worked) in
    let wanted : HasWorked k.moves.entries k.moves.counts part = record { within = mine.worked.within; kept = mine.worked.kept; each = mine.worked.each } in
    let begun = c.begin-cond.ensures in
    let dev : c.step.new.self.dev ≡ part.dev = c.step.ensures.dev ∙ ap (λ (x : CondPart). x.dev) begun in
    let low : part.at ≤ length c.in-Some.map.now.entries = let f = c.if-part-len.false in let l = c.len.ensures.count in omega (arith, f, l) in
    let at : c.step.new.self.at ≡ part.at = let a = c.in_ok-step.ensures.at in let z = ap (λ (x : CondPart). x.at) begun in omega (arith, a, z, low) in
    let same : c.in_ok-part.field-0 ≡ part = c.in_ok-part.ensures ∙ same_worked k.moves.entries k.moves.counts c.step.new.self part worked wanted dev at in
    absurd (false_true (c.if-not-is_same.ensures.1 same))
