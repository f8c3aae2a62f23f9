use Rattle.std.proofs.Common.{rules, sym, ◌∙◌}
use Rattle.zr_bptr.proofs.Spelled.{was_other}
use Rattle.zr_label.proofs.Labels.{no_label}
use Rattle.zr_label.proofs.root.Label.decode.Goals as goal

pub returns-then-not-is_label : goal.returns-then-not-is_label
returns-then-not-is_label c = no_label c.args.block.now _ c.label_fields-l.ensures (λ lawful k. search rules)

pub returns-then-ne : goal.returns-then-ne
returns-then-ne c =
    no_label c.args.block.now _ c.label_fields-l.ensures (λ lawful k. was_other _ _ _ c.ne.ensures c.if-ne.true (c.encode.ensures.spelling ∙ sym k.spelling))
