-- What stands before a byte.
use Rattle.std.proofs.Common.{◌≡◌, ◌≢◌, ◌<◌, ℕ, suc, [], List, ◌∷◌, ◌++◌, length, get_or, refl, sym, ap, ◌∙◌, arith, length-append}
use Rattle.std.specs.Prelude.{slice_index}
use Rattle.std.proofs.lemmas.List.{get_or_at}

-- this byte does not stand in the text
abbrev pub HasNo : ℕ → List ℕ → Type 0
HasNo byte text = (i : ℕ) → i < length text → slice_index text i ≢ byte

-- a byte that stands in the middle
pub in_middle : (byte : ℕ) (front back : List ℕ) → HasNo byte (front ++ byte ∷ back) → ⊥
in_middle byte front back h =
    let n = length-append front (byte ∷ back) in
    h (length front) (omega arith) (get_or_at front byte back 0 (length front) refl)

tail_has_no : (byte x : ℕ) (p : List ℕ) → HasNo byte (x ∷ p) → HasNo byte p
tail_has_no byte x p h = λ i l. h (suc i) (omega arith)

-- a text with the byte is split before the first of it in one way
pub before_byte : (byte : ℕ) (p q a b : List ℕ) → HasNo byte p → HasNo byte q → p ++ byte ∷ a ≡ q ++ byte ∷ b → (p ≡ q) × (a ≡ b)
before_byte byte [] [] a b h k e = (refl, cc)
before_byte byte [] (y ∷ q) a b h k e = absurd (k 0 (omega arith) (sym (ap (λ l. get_or l 0 0) e)))
before_byte byte (x ∷ p) [] a b h k e = absurd (h 0 (omega arith) (ap (λ l. get_or l 0 0) e))
before_byte byte (x ∷ p) (y ∷ q) a b h k e =
    let more : p ++ byte ∷ a ≡ q ++ byte ∷ b = cc in
    let same : x ≡ y = cc in
    let s = before_byte byte p q a b (tail_has_no byte x p h) (tail_has_no byte y q k) more in
    (ap (λ z. z ∷ p) same ∙ ap (λ l. y ∷ l) s.0, s.1)
