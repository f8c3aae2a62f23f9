-- Changes over leaves, one change after another.
use Rattle.std.proofs.Common.{◌≡◌, ◌≢◌, ℕ, suc, ◌+◌, ◌<◌, ◌≤◌, List, ◌∷◌, length, get_or, drop, refl, sym, ◌∙◌, ap, subst, arith, Some, None, Option, ⊎_elim, drop-cons, add-one}
use Rattle.std.proofs.lemmas.Bool.{eq-eqb, ne_eqb, cases_lt}
use Rattle.std.proofs.lemmas.List.{drop_all}
use Rattle.zr_bptr.specs.declared.Bptr.{Bptr}
use Rattle.zr_bptr.specs.declared.Ptr.{Ptr}
use Rattle.zr_txg.specs.Tables.{value_at}
use Rattle.zr_txg.proofs.Keyed.{value_at-low}
use Rattle.zr_lookup.specs.Objects.{block_in}
use Rattle.zr_lookup.specs.Lists.{IsBetween, Fills, overlaid}
use Rattle.zr_lookup.proofs.Keys.{rising, in_order, past}

abbrev Changes : Type 0
Changes = List (ℕ × Ptr)

split : (changes : Changes) (i next high : ℕ) (d : ℕ × Ptr) → i < length changes → IsBetween next high (drop i changes) → IsBetween next high (get_or changes i d ∷ drop (suc i) changes)
split changes i next high d lt rest = subst (IsBetween next high) (drop-cons changes i d lt) rest

-- the next change is no lower, and below the end
pub first_order : (changes : Changes) (i next high : ℕ) (d : ℕ × Ptr) → i < length changes → IsBetween next high (drop i changes) → next ≤ (get_or changes i d).0
first_order changes i next high d lt rest = (split changes i next high d lt rest).0

pub first_low : (changes : Changes) (i next high : ℕ) (d : ℕ × Ptr) → i < length changes → IsBetween next high (drop i changes) → (get_or changes i d).0 < high
first_low changes i next high d lt rest =
    let x = get_or changes i d in
    let h = in_order (suc x.0) high (drop (suc i) changes) (split changes i next high d lt rest).1 in
    omega (arith, h)

pub rest_after : (changes : Changes) (i next high : ℕ) (d : ℕ × Ptr) → i < length changes → IsBetween next high (drop i changes) → IsBetween ((get_or changes i d).0 + 1) high (drop (i + 1) changes)
rest_after changes i next high d lt rest =
    let x = get_or changes i d in
    rw (add-one, add-one) ((split changes i next high d lt rest).1)

pub same_after : (changes : Changes) (i next : ℕ) (d : ℕ × Ptr) → i < length changes → next ≤ (get_or changes i d).0 → ((k : ℕ) → next ≤ k → value_at (drop i changes) k ≡ value_at changes k)
    → (k : ℕ) → (get_or changes i d).0 + 1 ≤ k → value_at (drop (i + 1) changes) k ≡ value_at changes k
same_after changes i next d lt order same k from =
    let x = get_or changes i d in
    let other : x.0 ≢ k = omega (arith, from) in
    let le : next ≤ k = omega (arith, from, order) in
    let whole : value_at (drop i changes) k ≡ value_at (drop (suc i) changes) k = ap (λ (es : Changes). value_at es k) (drop-cons changes i d lt) ∙ (rw (ne_eqb x.0 k other) refl) in
    ap (λ (n : ℕ). value_at (drop n changes) k) (add-one i) ∙ sym whole ∙ same k le

pub done_after : (changes : Changes) (leaves out mid new : List (ℕ × Bptr)) (i next high : ℕ) (d : ℕ × Ptr) → i < length changes → IsBetween next high (drop i changes) → ((k : ℕ) → next ≤ k → value_at (drop i changes) k ≡ value_at changes k)
    → ((k : ℕ) → k < next → value_at out k ≡ overlaid (value_at changes k) (value_at leaves k)) → Fills next (get_or changes i d).0 (value_at leaves) out mid → Fills (get_or changes i d).0 ((get_or changes i d).0 + 1) (λ _. block_in (get_or changes i d).1) mid new
    → (k : ℕ) → k < (get_or changes i d).0 + 1 → value_at new k ≡ overlaid (value_at changes k) (value_at leaves k)
done_after changes leaves out mid new i next high d lt rest same done first second k low =
    let x = get_or changes i d in
    let all = split changes i next high d lt rest in
    let order : next ≤ x.0 = all.0 in
    ⊎_elim
    (λ before. second.kept k before
    ∙ ⊎_elim
    (λ early. first.kept k early ∙ done k early)
    (λ late.
    let none : value_at changes k ≡ None = sym (same k late) ∙ ap (λ (es : Changes). value_at es k) (drop-cons changes i d lt) ∙ value_at-low x.0 k (x ∷ drop (suc i) changes) (omega arith, rising (suc x.0) high (drop (suc i) changes) all.1) before in
    first.came k late before ∙ sym (ap (λ (o : Option Ptr). overlaid o (value_at leaves k)) none))
    (cases_lt k next))
    (λ here.
    let is : x.0 ≡ k = omega (arith, here, low) in
    let late : next ≤ k = omega (arith, here, order) in
    let some : value_at changes k ≡ Some x.1 = sym (same k late) ∙ ap (λ (es : Changes). value_at es k) (drop-cons changes i d lt) ∙ (rw (eq-eqb x.0 k is) refl) in
    second.came k here low ∙ sym (ap (λ (o : Option Ptr). overlaid o (value_at leaves k)) some))
    (cases_lt k x.0)

pub done_last : (changes : Changes) (leaves out new : List (ℕ × Bptr)) (i next high : ℕ) → length changes ≤ i → IsBetween 0 high leaves → IsBetween 0 high new → next ≤ high → ((k : ℕ) → next ≤ k → value_at (drop i changes) k ≡ value_at changes k)
    → ((k : ℕ) → k < next → value_at out k ≡ overlaid (value_at changes k) (value_at leaves k)) → Fills next high (value_at leaves) out new
    → (k : ℕ) → value_at new k ≡ overlaid (value_at changes k) (value_at leaves k)
done_last changes leaves out new i next high le leaves_low new_low order same done last k =
    ⊎_elim
    (λ early. last.kept k early ∙ done k early)
    (λ late.
    let none : value_at changes k ≡ None = sym (same k late) ∙ ap (λ (es : Changes). value_at es k) (drop_all i changes le) in
    let here : value_at new k ≡ value_at leaves k =
    ⊎_elim
    (λ inside. last.came k late inside)
    (λ outside. past 0 high k new new_low outside ∙ sym (past 0 high k leaves leaves_low outside))
    (cases_lt k high) in
    here ∙ sym (ap (λ (o : Option Ptr). overlaid o (value_at leaves k)) none))
    (cases_lt k next)
