use Rattle.std.proofs.Common.{[], sym, ◌∙◌, ap, arith}
use Rattle.std.specs.Str.{bytes_eq}
use Rattle.std.proofs.lemmas.List.{get_or_read}
use Rattle.zr_slots.proofs.Finding.{position_some, position_none}
use Rattle.zr_create.proofs.names.slot_of.Goals as goal

pub returns-then-is_path : goal.returns-then-is_path
returns-then-is_path c =
    sym (position_some (bytes_eq c.args.dev.now) c.args.paths.now c.loop-slot.slot [] c.loop-slot-test.true c.loop-slot.invariant
    (ap (bytes_eq c.args.dev.now) (sym (get_or_read c.args.paths.now c.loop-slot.slot c.index-paths-slot.result c.loop-slot-test.true c.index-paths-slot.is [])) ∙ (sym c.is_path.ensures ∙ c.if-is_path.true)))

pub returns : goal.returns
returns c = sym (position_none (bytes_eq c.args.dev.now) c.args.paths.now [] (λ k lt. c.loop-slot.invariant k (let past = c.loop-slot-test.false in omega (arith, lt, past))))
