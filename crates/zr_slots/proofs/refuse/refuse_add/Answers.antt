use Rattle.std.proofs.Common.{inl, inr, refl, arith, rules}
use Rattle.zr_slots.proofs.refuse.refuse_add.Goals as goal

pub returns-in_err-is_alone : goal.returns-in_err-is_alone
returns-in_err-is_alone c =
    inl (tt, c.in_ok-have_sizes.ensures, inl (tt, (λ a h. c.if-is_taken.ensures.no refl (refl, h.1)), inr (c.in_err-is_alone.field-0.0, c.in_err-is_alone.ensures, search rules)))

pub returns-then-it-ge32 : goal.returns-then-it-ge32
returns-then-it-ge32 c =
    let past = c.if-it-ge32.true in
    inl (tt, c.in_ok-have_sizes.ensures, inl (tt, (λ a h. c.if-is_taken.ensures.no refl (refl, h.1)), inl (tt, c.in_ok-is_alone.ensures, ((λ h. omega (arith, h, past)), refl))))

pub returns : goal.returns
returns c = inl (tt, c.in_ok-have_sizes.ensures, inl (tt, (λ a h. c.if-is_taken.ensures.no refl (refl, h.1)), inl (tt, c.in_ok-is_alone.ensures, c.if-it-ge32.false)))
