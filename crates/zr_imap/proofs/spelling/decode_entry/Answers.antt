use Rattle.std.proofs.Common.{rules, ◌∙◌}
use Rattle.zr_imap.proofs.Spelled.{none_read, was_other}
use Rattle.zr_imap.proofs.spelling.decode_entry.Goals as goal

pub returns-then-not-is_writable : goal.returns-then-not-is_writable
returns-then-not-is_writable c = none_read c.args.bytes.now _ c.fields-e.ensures (λ lawful e. search rules)

pub returns-then-ne : goal.returns-then-ne
returns-then-ne c = none_read c.args.bytes.now _ c.fields-e.ensures (λ lawful e. was_other _ _ _ c.ne.ensures c.if-ne.true (c.as_slice.ensures ∙ (c.encode_entry.ensures.spelling ∙ e)))
