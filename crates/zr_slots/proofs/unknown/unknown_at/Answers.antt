use Rattle.std.proofs.Common.{refl, sym, ◌∙◌}
use Rattle.zr_slots.proofs.Shown.{not_unknown}
use Rattle.zr_slots.proofs.unknown.unknown_at.Goals as goal

pub returns-then-is_reached : goal.returns-then-is_reached
returns-then-is_reached c =
    let h = c.if-is_reached.ensures.yes refl in
    not_unknown c.args.seen.now c.args.slot c.in-Some.label c.in-Some-newer_at.newer (sym c.label_at.ensures ∙ c.in-Some.is) (sym c.newer_at.ensures ∙ c.in-Some-newer_at.is) h.0 h.1 h.2 h.3

pub returns : goal.returns
returns c = record {
  label = c.in-Some.label;
  label_is = sym c.label_at.ensures ∙ c.in-Some.is;
  newer_is = sym c.newer_at.ensures ∙ c.in-Some-newer_at.is;
  above = c.if-is_reached.ensures.no refl;
}
