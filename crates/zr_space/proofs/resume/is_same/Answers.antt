use Rattle.std.proofs.Common.{◌≡◌, ◌∙◌, false, true, refl, sym, ap, arith}
use Rattle.zr_base.specs.declared.space.CondPart.{CondPart}
use Rattle.zr_space.proofs.Resuming.{cond_from}
use Rattle.zr_space.proofs.resume.is_same.Goals as goal

false_true : false ≡ true → ⊥
false_true e = cc

pub returns-then-not-are_same_entries : goal.returns-then-not-are_same_entries
returns-then-not-are_same_entries c = (
  λ yes. absurd (false_true yes),
  λ same. absurd (false_true (c.if-not-are_same_entries.ensures.1 (c.as_slice.ensures ∙ (ap (λ (x : CondPart). x.entries) same ∙ sym c.as_slice-2.ensures)))),
)

pub returns : goal.returns
returns c =
    let entries : c.args.a.now.entries ≡ c.args.b.now.entries = sym c.as_slice.ensures ∙ (c.if-not-are_same_entries.ensures.0 refl ∙ c.as_slice-2.ensures) in (
      λ yes. cond_from c.args.a.now c.args.b.now (omega (arith, c.if-a-b.false)) (omega (arith, c.if-a-b-2.false)) entries (sym c.as_slice-3.ensures ∙ (c.are_same_counts.ensures.0 yes ∙ c.as_slice-4.ensures)),
      λ same. c.are_same_counts.ensures.1 (c.as_slice-3.ensures ∙ (ap (λ (x : CondPart). x.counts) same ∙ sym c.as_slice-4.ensures)),
    )
