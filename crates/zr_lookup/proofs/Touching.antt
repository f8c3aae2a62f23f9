-- The one or two blocks that a range has bytes of.
use Rattle.std.proofs.Common.{◌≡◌, ℕ, zero, suc, ◌+◌, ◌-◌, ◌*◌, ◌/◌, ◌%◌, ◌<◌, ◌≤◌, ◌⊎◌, ◌++◌, inl, inr, List, length, get_or, take, drop, sym, ◌∙◌, ⊎_elim, ap, arith}
use Rattle.std.proofs.Math.Nat.{lt_of_mul-lt-mul_left, div-add-mod, mod-lt}
use Rattle.std.proofs.lemmas.Nat.{div-mul-add, mod-mul-add}
use Rattle.std.proofs.lemmas.Bool.{cases_lt}
use Rattle.std.proofs.lemmas.List.{get_or-take, get_or-drop, get_or_append_left, get_or-append_right}
use Rattle.std.specs.Prelude.{IsTrue}
use Rattle.std.proofs.lemmas.Bool.{false≢true}
use Rattle.zr_base.specs.Blocks.{is_block_size}
use Rattle.zr_lookup.specs.Objects.{IsTouched}

-- where the range begins, and where it ends
pub touches : (units off len index from : ℕ) → 4096 * units * index + from ≡ off → from < 4096 * units → 1 ≤ len → IsTouched units off len index
touches units off len index from is low some = record {
  begins = let up : 4096 * units * (index + 1) ≡ 4096 * units * index + 4096 * units = omega arith in omega (arith, is, low, up);
  ends = omega (arith, is, some);
}

pub touches_next : (units off len index from : ℕ) → 4096 * units * index + from ≡ off → from < 4096 * units → 4096 * units < from + len → IsTouched units off len (index + 1)
touches_next units off len index from is low more =
    let up : 4096 * units * (index + 1) ≡ 4096 * units * index + 4096 * units = omega arith in
    let upper : 4096 * units * (index + 1 + 1) ≡ 4096 * units * index + 4096 * units + 4096 * units = omega arith in
    record { begins = omega (arith, is, low, upper); ends = omega (arith, is, more, up) }

at_least : (units off len index from k : ℕ) → 4096 * units * index + from ≡ off → IsTouched units off len k → index < k + 1
at_least units off len index from k is h =
    let b = h.begins in
    let lt : 4096 * units * index < 4096 * units * (k + 1) = omega (arith, is, b) in
    lt_of_mul-lt-mul_left (4096 * units) lt

at_most : (units off len index n k : ℕ) → off + len ≤ 4096 * units * n → IsTouched units off len k → k < n
at_most units off len index n k le h =
    let e = h.ends in
    let lt : 4096 * units * k < 4096 * units * n = omega (arith, le, e) in
    lt_of_mul-lt-mul_left (4096 * units) lt

pub only : (units off len index from k : ℕ) → 4096 * units * index + from ≡ off → from + len ≤ 4096 * units → IsTouched units off len k → k ≡ index
only units off len index from k is within h =
    let low = at_least units off len index from k is h in
    let up : 4096 * units * (index + 1) ≡ 4096 * units * index + 4096 * units = omega arith in
    let le : off + len ≤ 4096 * units * (index + 1) = omega (arith, is, within, up) in
    let high = at_most units off len index (index + 1) k le h in
    omega (arith, low, high)

pub only_two : (units off len index from k : ℕ) → 4096 * units * index + from ≡ off → from < 4096 * units → len ≤ 4096 * units → IsTouched units off len k → (k ≡ index) ⊎ (k ≡ index + 1)
only_two units off len index from k is low short h =
    let least = at_least units off len index from k is h in
    let up : 4096 * units * (index + 2) ≡ 4096 * units * index + 4096 * units + 4096 * units = omega arith in
    let le : off + len ≤ 4096 * units * (index + 2) = omega (arith, is, low, short, up) in
    let most = at_most units off len index (index + 2) k le h in
    ⊎_elim (λ lt. inl (omega (arith, lt, least))) (λ ge. inr (omega (arith, ge, most))) (cases_lt k (index + 1))

-- a byte of a part of a block, by its place in the object
place : (f : ℕ → List ℕ) (z at index from : ℕ) → index * z + from ≡ at → from < z → get_or (f index) from 0 ≡ get_or (f (at / z)) (at % z) 0
place f z at index from is lt =
    let d : at / z ≡ index = ap (λ (n : ℕ). n / z) (sym is) ∙ div-mul-add index z from lt in
    let m : at % z ≡ from = ap (λ (n : ℕ). n % z) (sym is) ∙ mod-mul-add index z from lt in
    sym (ap (λ (n : ℕ). get_or (f n) (at % z) 0) d ∙ ap (λ (n : ℕ). get_or (f index) n 0) m)

pub part_byte : (f : ℕ → List ℕ) (z off index from n k : ℕ) → z * index + from ≡ off → from + n ≤ z → k < n → get_or (take n (drop from (f index))) k 0 ≡ get_or (f ((off + k) / z)) ((off + k) % z) 0
part_byte f z off index from n k is le lt =
    let e : index * z + (from + k) ≡ off + k = omega (arith, is) in
    get_or-take n (drop from (f index)) k 0 lt ∙ get_or-drop from (f index) k 0 ∙ place f z (off + k) index (from + k) e (omega (arith, le, lt))

pub both_bytes : (f : ℕ → List ℕ) (z off len index from first : ℕ) (xs ys : List ℕ) → z * index + from ≡ off → from + first ≡ z → len - first ≤ z → xs ≡ take first (drop from (f index)) → length xs ≡ first → ys ≡ take (len - first) (drop 0 (f (index + 1)))
    → (k : ℕ) → k < len → get_or (xs ++ ys) k 0 ≡ get_or (f ((off + k) / z)) ((off + k) % z) 0
both_bytes f z off len index from first xs ys is whole short xs_are size ys_are k lt =
    ⊎_elim
    (λ early. get_or_append_left xs ys 0 k (omega (arith, early, size)) ∙ ap (λ (b : List ℕ). get_or b k 0) xs_are ∙ part_byte f z off index from first k is (omega (arith, whole)) early)
    (λ late.
    let e : z * (index + 1) + 0 ≡ off + first = omega (arith, is, whole) in
    let sum : off + first + (k - first) ≡ off + k = omega (arith, late) in
    get_or-append_right xs ys first k 0 size late ∙ ap (λ (b : List ℕ). get_or b (k - first) 0) ys_are
    ∙ part_byte f z (off + first) (index + 1) 0 (len - first) (k - first) e (omega (arith, short)) (omega (arith, lt, late))
    ∙ ap (λ (n : ℕ). get_or (f (n / z)) (n % z) 0) sum)
    (cases_lt k first)

-- ---- where the range begins in its first block

pub some_units : (n : ℕ) → IsTrue (is_block_size n) → 0 < n
some_units zero h = absurd (false≢true h)
some_units (suc n) h = omega arith

pub begin : (units w off : ℕ) → w ≡ units → 4096 * units * (off / (4096 * w)) + off % (4096 * w) ≡ off
begin units w off is = ap (λ (n : ℕ). 4096 * n * (off / (4096 * w)) + off % (4096 * w)) (sym is) ∙ div-add-mod off (4096 * w)

pub begin_low : (units w off : ℕ) → w ≡ units → IsTrue (is_block_size units) → off % (4096 * w) < 4096 * units
begin_low units w off is some =
    let pos = some_units units some in
    let h : off % (4096 * w) < 4096 * w = mod-lt off (omega (arith, is, pos)) in
    omega (arith, h, is)
