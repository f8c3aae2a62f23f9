use Rattle.std.proofs.Common.{arith, rules, ◌∙◌}
use Rattle.zr_bptr.proofs.Spelled.{was_other}
use Rattle.zr_bptr.proofs.Leaves.{none_spelled, no_record, record_units, record_height, record_root, not_spelled}
use Rattle.zr_bptr.proofs.records.decode_record.Goals as goal

pub returns-then-eq : goal.returns-then-eq
returns-then-eq c = none_spelled _ _ c.eq.ensures c.if-eq.true

pub returns-then-units-gt32 : goal.returns-then-units-gt32
returns-then-units-gt32 c = no_record c.args.bytes.now _ c.eq.ensures c.if-eq.false (λ r h e. let u = record_units _ r h e in omega (arith, u.0, u.1, c.word_at-units.ensures))

pub returns-then-height-gt5 : goal.returns-then-height-gt5
returns-then-height-gt5 c = no_record c.args.bytes.now _ c.eq.ensures c.if-eq.false (λ r h e. let u = record_height _ r h e in omega (arith, u.0, u.1, c.word_at-height.ensures))

pub returns-in_default : goal.returns-in_default
returns-in_default c =
    let none = rw c.root_at.ensures at c.in_default.ensures in
    no_record c.args.bytes.now _ c.eq.ensures c.if-eq.false (λ r h e. none r.tree.root (record_root _ r h e))

pub returns-then-not-is_object : goal.returns-then-not-is_object
returns-then-not-is_object c =
    no_record c.args.bytes.now _ c.eq.ensures c.if-eq.false
    (not_spelled c.args.bytes.now _ _ _ c.word_at-units.ensures c.word_at-height.ensures (rw c.root_at.ensures at c.in-Some.ensures) (λ lawful e. search rules))

pub returns-then-ne : goal.returns-then-ne
returns-then-ne c =
    no_record c.args.bytes.now _ c.eq.ensures c.if-eq.false
    (not_spelled c.args.bytes.now _ _ _ c.word_at-units.ensures c.word_at-height.ensures (rw c.root_at.ensures at c.in-Some.ensures)
    (λ lawful e. was_other _ _ _ c.ne.ensures c.if-ne.true (c.spell.ensures ∙ e)))
