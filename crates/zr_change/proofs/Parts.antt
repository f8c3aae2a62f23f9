-- Bytes that are put into a block in place of others.
use Rattle.std.proofs.Common.{◌≡◌, ◌+◌, ◌-◌, ◌<◌, ◌≤◌, ℕ, List, ◌++◌, length, take, drop, get_or, ap, length-append, ◌∙◌, ⊎_elim, arith}
use Rattle.std.specs.Prelude.{max, min}
use Rattle.std.proofs.lemmas.Bool.{cases_lt}
use Rattle.std.proofs.lemmas.Bool.Decides.{nat_tests}
use Rattle.std.proofs.lemmas.List.{get_or_append_left, get_or-append_right, get_or-take, get_or-drop, length-take-le, length-drop}
use Rattle.zr_change.specs.declared.ranges.Edit.{Edit}
use Rattle.zr_change.specs.Edits.{byte_put, byte_after}

-- in front of them all stays
pub put_before : (a b : ℕ) (xs ys : List ℕ) (k : ℕ) → a ≤ length xs → k < a → get_or (take a xs ++ ys ++ drop b xs) k 0 ≡ get_or xs k 0
put_before a b xs ys k within lt =
    let len : length (take a xs) ≡ a = length-take-le a xs within in
    get_or_append_left (take a xs ++ ys) (drop b xs) 0 k (omega (arith, len, lt, length-append (take a xs) ys))
    ∙ get_or_append_left (take a xs) ys 0 k (omega (arith, len, lt)) ∙ get_or-take a xs k 0 lt

-- they stand there
pub put_there : (a b : ℕ) (xs ys : List ℕ) (k : ℕ) → a ≤ length xs → a ≤ k → k < a + length ys → get_or (take a xs ++ ys ++ drop b xs) k 0 ≡ get_or ys (k - a) 0
put_there a b xs ys k within from to =
    let len : length (take a xs) ≡ a = length-take-le a xs within in
    get_or_append_left (take a xs ++ ys) (drop b xs) 0 k (omega (arith, len, to, length-append (take a xs) ys))
    ∙ get_or-append_right (take a xs) ys a k 0 len from

-- and behind them all stays
pub put_behind : (a b : ℕ) (xs ys : List ℕ) (k : ℕ) → a ≤ length xs → b ≡ a + length ys → b ≤ k → get_or (take a xs ++ ys ++ drop b xs) k 0 ≡ get_or xs k 0
put_behind a b xs ys k within is from =
    let len : length (take a xs) ≡ a = length-take-le a xs within in
    let place : b + (k - b) ≡ k = omega (arith, from) in
    get_or-append_right (take a xs ++ ys) (drop b xs) b k 0 (omega (arith, is, len, length-append (take a xs) ys)) from
    ∙ get_or-drop b xs (k - b) 0 ∙ ap (λ (i : ℕ). get_or xs i 0) place

-- what an edit puts into a part of a block is what it makes of the whole
pub put_edit : (e : Edit) (at from to a b k : ℕ) (old new part : List ℕ)
    → from ≡ max at e.off → to ≡ min (at + length old) (e.off + e.len) → from < to → a ≡ from - at → b ≡ a + length part → length part ≡ to - from
    → ((j : ℕ) → j < to - from → get_or part j 0 ≡ byte_put e.bytes (from - e.off + j))
    → new ≡ take a old ++ part ++ drop b old → k < length old → get_or new k 0 ≡ byte_after e (at + k) (get_or old k 0)
put_edit e at from to a b k old new part from_is to_is lt a_is b_is len puts is inside =
    let within : a ≤ length old = omega (arith, from_is, to_is, lt, a_is) in
    let same : get_or new k 0 ≡ get_or (take a old ++ part ++ drop b old) k 0 = ap (λ (bytes : List ℕ). get_or bytes k 0) is in
    ⊎_elim
    (λ below. same ∙ put_before a b old part k within below ∙ grind (arith, nat_tests, from_is, to_is, lt, a_is, below))
    (λ above. ⊎_elim
    (λ there.
    let place : from - e.off + (k - a) ≡ at + k - e.off = omega (arith, from_is, a_is, above, lt, to_is) in
    same ∙ put_there a b old part k within above there ∙ puts (k - a) (omega (arith, len, there, above))
    ∙ ap (λ (i : ℕ). byte_put e.bytes i) place ∙ grind (arith, nat_tests, from_is, to_is, lt, a_is, above, there, len))
    (λ past. same ∙ put_behind a b old part k within b_is (omega (arith, b_is, past)) ∙ grind (arith, nat_tests, from_is, to_is, lt, a_is, above, past, len, inside))
    (cases_lt k (a + length part)))
    (cases_lt k a)

-- a part of given bytes has its length, and their bytes
pub given_len : (a from to off len : ℕ) (bytes : List ℕ) → length bytes ≡ len → a ≡ from - off → off ≤ from → from < to → to ≤ off + len → length (take (to - off - a) (drop a bytes)) ≡ to - from
given_len a from to off len bytes is a_is low lt high =
    let rest : length (drop a bytes) ≡ length bytes - a = length-drop a bytes in
    length-take-le (to - off - a) (drop a bytes) (omega (arith, rest, is, a_is, low, lt, high)) ∙ omega (arith, a_is, low, lt)

pub given_at : (n a : ℕ) (bytes : List ℕ) (j : ℕ) → j < n → get_or (take n (drop a bytes)) j 0 ≡ get_or bytes (a + j) 0
given_at n a bytes j lt = get_or-take n (drop a bytes) j 0 lt ∙ get_or-drop a bytes j 0
