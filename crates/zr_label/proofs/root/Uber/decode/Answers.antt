use Rattle.std.proofs.Common.{rules, sym, ◌∙◌}
use Rattle.zr_bptr.proofs.Spelled.{was_other}
use Rattle.zr_label.proofs.Ubers.{no_root, no_uber}
use Rattle.zr_label.proofs.root.Uber.decode.Goals as goal

pub returns-in_default : goal.returns-in_default
returns-in_default c = no_root c.args.block.now (rw c.root_at.ensures at c.in_default.ensures)

pub returns-then-not-is_uber : goal.returns-then-not-is_uber
returns-then-not-is_uber c = no_uber c.args.block.now _ _ (rw c.root_at.ensures at c.in-Some.ensures) c.uber_fields-u.ensures (λ lawful k. search rules)

pub returns-then-ne : goal.returns-then-ne
returns-then-ne c =
    no_uber c.args.block.now _ _ (rw c.root_at.ensures at c.in-Some.ensures) c.uber_fields-u.ensures
    (λ lawful k. was_other _ _ _ c.ne.ensures c.if-ne.true (c.encode.ensures.spelling.spelling ∙ sym k.spelling))
