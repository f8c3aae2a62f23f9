use Rattle.std.proofs.Common.{inl, inr, List, sym, ◌∙◌, subst}
use Rattle.std.specs.Prelude.{Contains}
use Rattle.zr_label.specs.declared.root.Uber.{Uber}
use Rattle.zr_image.specs.Current.{IsUnknown}
use Rattle.zr_slots.proofs.Shown.{some_root, no_root, reads_none}
use Rattle.zr_slots.proofs.unknown.is_in_use.Goals as goal

pub returns-then-not-is_empty-clause-yes : goal.returns-then-not-is_empty-clause-yes
returns-then-not-is_empty-clause-yes c = λ t.
    let s = some_root c.roots_at.result.now c.if-not-is_empty.ensures in
    inl (s.0, subst (λ (us : List Uber). Contains us s.0) c.roots_at.ensures s.1)

pub returns-clause-no : goal.returns-clause-no
returns-clause-no c = λ f h. elim h [
  | inl r ↦ no_root c.roots_at.result.now c.if-not-is_empty.ensures r.0 (subst (λ (us : List Uber). Contains us r.0) (sym c.roots_at.ensures) r.1)
  | inr n ↦ reads_none (IsUnknown c.args.seen.now c.args.slot) c.unknown_at.result (sym c.is_some.ensures ∙ f) c.unknown_at.ensures n.0 n.1
]
