use Rattle.std.proofs.Common.{inl, inr, rules}
use Rattle.zr_slots.proofs.copies.one_pool.Goals as goal

pub returns-in_err-exclude_pair-2 : goal.returns-in_err-exclude_pair-2
returns-in_err-exclude_pair-2 c = inl (tt, c.in_ok-exclude_pair.ensures, inr (c.in_err-exclude_pair-2.field-0.0, c.in_err-exclude_pair-2.ensures, search rules))

pub returns-in_err-exclude_twice : goal.returns-in_err-exclude_twice
returns-in_err-exclude_twice c = inl (tt, c.in_ok-exclude_pair.ensures, inl (tt, c.in_ok-exclude_pair-2.ensures, inr (c.in_err-exclude_twice.field-0.0, c.in_err-exclude_twice.ensures, search rules)))

pub returns : goal.returns
returns c = inl (tt, c.in_ok-exclude_pair.ensures, inl (tt, c.in_ok-exclude_pair-2.ensures, inl (tt, c.in_ok-exclude_twice.ensures, c.exclude_pair-3.ensures)))
