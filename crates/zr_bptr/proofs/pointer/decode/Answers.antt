use Rattle.std.proofs.Common.{rules, ◌∙◌}
use Rattle.zr_bptr.proofs.Spelled.{hole_read, none_read, not_zero, was_other}
use Rattle.zr_bptr.proofs.pointer.decode.Goals as goal

pub returns-then-eq : goal.returns-then-eq
returns-then-eq c = hole_read _ _ c.eq.ensures c.if-eq.true

pub returns-then-not-is_pointer : goal.returns-then-not-is_pointer
returns-then-not-is_pointer c =
    none_read c.args.bytes.now _ c.fields-b.ensures (not_zero _ _ c.eq.ensures c.if-eq.false) (λ lawful e. search rules)

pub returns-then-ne : goal.returns-then-ne
returns-then-ne c =
    none_read c.args.bytes.now _ c.fields-b.ensures (not_zero _ _ c.eq.ensures c.if-eq.false)
    (λ lawful e. was_other _ _ _ c.ne.ensures c.if-ne.true (c.spell.ensures ∙ e))
