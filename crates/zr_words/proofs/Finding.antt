-- The first item that passes, looked for from the front.
use Rattle.std.proofs.Common.{◌≡◌, ℕ, zero, suc, ◌+◌, ◌<◌, ◌≤◌, Bool, true, false, List, [], ◌∷◌, length, drop, get_or, Option, Some, None, refl, ap, subst, sym, ◌∙◌, arith, cond}
use Rattle.std.specs.List.{find}
use Rattle.std.proofs.lemmas.Bool.{false≢true}

hit : {X : Type 0} (b : Bool) (x : X) (more : Option X) → b ≡ true → cond b (Some x) more ≡ Some x
hit true x more e = refl
hit false x more e = absurd (false≢true e)

miss : {X : Type 0} (b : Bool) (x : X) (more : Option X) → b ≡ false → cond b (Some x) more ≡ more
miss true x more e = absurd (false≢true (sym e))
miss false x more e = refl

found_at : {X : Type 0} (test : X → Bool) (xs : List X) (i : ℕ) (d : X) → i < length xs → test (get_or xs i d) ≡ true → find test (drop i xs) ≡ Some (get_or xs i d)
found_at test [] i d l e = absurd (omega arith)
found_at test (x ∷ xs) zero d l e = hit (test x) x (find test xs) e
found_at test (x ∷ xs) (suc i) d l e = found_at test xs i d (omega arith) e

not_at : {X : Type 0} (test : X → Bool) (xs : List X) (i : ℕ) (d : X) → i < length xs → test (get_or xs i d) ≡ false → find test (drop i xs) ≡ find test (drop (suc i) xs)
not_at test [] i d l e = absurd (omega arith)
not_at test (x ∷ xs) zero d l e = miss (test x) x (find test xs) e
not_at test (x ∷ xs) (suc i) d l e = not_at test xs i d (omega arith) e

none_left : {X : Type 0} (test : X → Bool) (xs : List X) (i : ℕ) → length xs ≤ i → find test (drop i xs) ≡ None
none_left test [] zero n = refl
none_left test [] (suc i) n = refl
none_left test (x ∷ xs) zero n = absurd (omega arith)
none_left test (x ∷ xs) (suc i) n = none_left test xs i (omega arith)

-- where none before an item passes, and it does
pub found_item : {X : Type 0} (test : X → Bool) (xs : List X) (i : ℕ) (x : X) → find test xs ≡ find test (drop i xs) → i < length xs → x ≡ get_or xs i x → test x ≡ true → Some x ≡ find test xs
found_item test xs i x before l is e = sym (before ∙ (found_at test xs i x l (subst (λ y. test y ≡ true) is e) ∙ ap Some (sym is)))

-- and it does not
pub missed_item : {X : Type 0} (test : X → Bool) (xs : List X) (i : ℕ) (x : X) → find test xs ≡ find test (drop i xs) → i < length xs → x ≡ get_or xs i x → test x ≡ false → find test xs ≡ find test (drop (i + 1) xs)
missed_item test xs i x before l is e =
    let next : i + 1 ≡ suc i = omega arith in
    before ∙ (not_at test xs i x l (subst (λ y. test y ≡ false) is e) ∙ ap (λ n. find test (drop n xs)) (sym next))

-- and no item is left
pub found_none : {X : Type 0} (test : X → Bool) (xs : List X) (i : ℕ) → find test xs ≡ find test (drop i xs) → length xs ≤ i → None ≡ find test xs
found_none test xs i before n = sym (before ∙ none_left test xs i n)
