-- Bytes of an object, one by one.
use Rattle.std.proofs.Common.{◌≡◌, ◌≢◌, ◌∙◌, ◌<◌, ◌≤◌, ◌+◌, ◌-◌, ℕ, zero, suc, List, [], ◌∷◌, length, get_or, replicate, Option, Some, None, cond, refl, sym, ap, arith, true, false}
use Rattle.std.specs.Prelude.{unwrap_or, slice_index}
use Rattle.std.specs.Ordering.{nat_cmp, eq_by_cmp}
use Rattle.std.specs.Cmp.{nat_cmp_total, unsigned_tied}
use Rattle.std.specs.FinMap.{FinMap, get, insert, remove, empty, get-insert, get-remove, get-empty}
use Rattle.std.proofs.Math.Dec.{eqb-suc-zero}
use Rattle.std.proofs.lemmas.Bool.{eq-eqb, ne_eqb}
use Rattle.std.proofs.lemmas.List.{ext_get_or, get_or-replicate, length-replicate}
use Rattle.std.proofs.lemmas.List.FromFn.{get_or-map-range_with_len, length-map-range_with_len}
use Rattle.zr_txg.proofs.Keyed.{by_key}
use Rattle.zr_model.specs.Objects.{Bytes, byte_at, bytes_at, put_byte, put_bytes}

tied : (k : ℕ) → eq_by_cmp nat_cmp k k ≡ true
tied k = unsigned_tied k k ∙ eq-eqb k k refl

untied : (q k : ℕ) → q ≢ k → eq_by_cmp nat_cmp q k ≡ false
untied q k other = unsigned_tied q k ∙ ne_eqb q k other

-- what a map has at a key that was given, and at another
pub given_here : {X : Type 0} (m : FinMap nat_cmp X) (k : ℕ) (v : X) → get (insert m k v) k ≡ Some v
given_here m k v = get-insert nat_cmp_total m k v k ∙ ap (λ b. cond b (Some v) (get m k)) (tied k)

pub given_there : {X : Type 0} (m : FinMap nat_cmp X) (k q : ℕ) (v : X) → q ≢ k → get (insert m k v) q ≡ get m q
given_there m k q v other = get-insert nat_cmp_total m k v q ∙ ap (λ b. cond b (Some v) (get m q)) (untied q k other)

pub taken_here : {X : Type 0} (m : FinMap nat_cmp X) (k : ℕ) → get (remove m k) k ≡ None
taken_here m k = get-remove nat_cmp_total m k k ∙ ap (λ b. cond b None (get m k)) (tied k)

pub taken_there : {X : Type 0} (m : FinMap nat_cmp X) (k q : ℕ) → q ≢ k → get (remove m k) q ≡ get m q
taken_there m k q other = get-remove nat_cmp_total m k q ∙ ap (λ b. cond b None (get m q)) (untied q k other)

-- ---- one byte

put_here : (m : Bytes) (at b : ℕ) → byte_at (put_byte m at b) at ≡ b
put_here m at zero = ap (λ (o : Option ℕ). unwrap_or o 0) (taken_here m at)
put_here m at (suc b) = rw eqb-suc-zero (ap (λ (o : Option ℕ). unwrap_or o 0) (given_here m at (suc b)))

put_there : (m : Bytes) (at x b : ℕ) → x ≢ at → byte_at (put_byte m at b) x ≡ byte_at m x
put_there m at x zero other = ap (λ (o : Option ℕ). unwrap_or o 0) (taken_there m at x other)
put_there m at x (suc b) other = rw eqb-suc-zero (ap (λ (o : Option ℕ). unwrap_or o 0) (given_there m at x (suc b) other))

put_some : (m : Bytes) (at x b : ℕ) → get m x ≢ Some 0 → get (put_byte m at b) x ≢ Some 0
put_some m at x zero not = by_key x at
    (λ is. λ e. let t : get (remove m at) x ≡ None = ap (λ (k : ℕ). get (remove m at) k) is ∙ taken_here m at in absurd (cc))
    (λ other. λ e. not (sym (taken_there m at x other) ∙ e))
put_some m at x (suc b) not = rw eqb-suc-zero (by_key x at
    (λ is. λ e. let t : get (insert m at (suc b)) x ≡ Some (suc b) = ap (λ (k : ℕ). get (insert m at (suc b)) k) is ∙ given_here m at (suc b) in
    let z : Some (suc b) ≡ Some 0 = sym t ∙ e in let n : suc b ≡ 0 = cc in absurd (omega (arith, n)))
    (λ other. λ e. not (sym (given_there m at x (suc b) other) ∙ e)))

-- ---- some bytes

pub put_below : (m : Bytes) (at x : ℕ) (bs : List ℕ) → x < at → byte_at (put_bytes m at bs) x ≡ byte_at m x
put_below m at x [] lt = refl
put_below m at x (b ∷ bs) lt = put_below (put_byte m at b) (at + 1) x bs (omega (arith, lt)) ∙ put_there m at x b (λ e. omega (arith, e, lt))

pub put_above : (m : Bytes) (at x : ℕ) (bs : List ℕ) → at + length bs ≤ x → byte_at (put_bytes m at bs) x ≡ byte_at m x
put_above m at x [] le = refl
put_above m at x (b ∷ bs) le = put_above (put_byte m at b) (at + 1) x bs (omega (arith, le)) ∙ put_there m at x b (λ e. omega (arith, e, le))

pub put_within : (m : Bytes) (at x : ℕ) (bs : List ℕ) → at ≤ x → x < at + length bs → byte_at (put_bytes m at bs) x ≡ slice_index bs (x - at)
put_within m at x [] le lt = absurd (omega (arith, le, lt))
put_within m at x (b ∷ bs) le lt = by_key x at
    (λ is.
    let first = put_below (put_byte m at b) (at + 1) x bs (omega (arith, is)) in
    let here = ap (λ (k : ℕ). byte_at (put_byte m at b) k) is ∙ put_here m at b in
    let none : x - at ≡ 0 = omega (arith, is) in
    first ∙ here ∙ sym (ap (λ (k : ℕ). get_or (b ∷ bs) k 0) none))
    (λ other.
    let rest = put_within (put_byte m at b) (at + 1) x bs (omega (arith, le, other)) (omega (arith, lt)) in
    let next : x - at ≡ suc (x - (at + 1)) = omega (arith, le, other) in
    rest ∙ sym (ap (λ (k : ℕ). get_or (b ∷ bs) k 0) next))

pub put_none_zero : (m : Bytes) (at : ℕ) (bs : List ℕ) → ((x : ℕ) → get m x ≢ Some 0) → (x : ℕ) → get (put_bytes m at bs) x ≢ Some 0
put_none_zero m at [] not x = not x
put_none_zero m at (b ∷ bs) not x = put_none_zero (put_byte m at b) (at + 1) bs (λ y. put_some m at y b (not y)) x

-- ---- a range of them

pub byte_in : (m : Bytes) (at len k : ℕ) → k < len → slice_index (bytes_at m at len) k ≡ byte_at m (at + k)
byte_in m at len k lt = get_or-map-range_with_len (byte_at m) at len k (at + k) 0 lt refl

pub length_of_bytes : (m : Bytes) (at len : ℕ) → length (bytes_at m at len) ≡ len
length_of_bytes m at len = length-map-range_with_len (byte_at m) at len

-- the bytes of a range are these, if each is
pub bytes_are : (m : Bytes) (at len : ℕ) (bs : List ℕ) → length bs ≡ len → ((k : ℕ) → k < len → byte_at m (at + k) ≡ slice_index bs k) → bytes_at m at len ≡ bs
bytes_are m at len bs size each = ext_get_or 0 (bytes_at m at len) bs (length_of_bytes m at len ∙ sym size)
    (λ k lt. let less : k < len = omega (arith, lt, length_of_bytes m at len) in byte_in m at len k less ∙ each k less)

pub zeros_are : (m : Bytes) (at len : ℕ) → ((k : ℕ) → k < len → byte_at m (at + k) ≡ 0) → bytes_at m at len ≡ replicate len 0
zeros_are m at len each = bytes_are m at len (replicate len 0) (length-replicate len 0) (λ k lt. each k lt ∙ sym (get_or-replicate len k 0 0 lt))

pub no_byte : (x : ℕ) → byte_at (empty {X = ℕ} {R = nat_cmp}) x ≡ 0
no_byte x = ap (λ (o : Option ℕ). unwrap_or o 0) (get-empty nat_cmp x)
