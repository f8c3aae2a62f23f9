-- How many blocks a change puts and gives back.
use Rattle.std.proofs.Common.{◌≡◌, ◌+◌, ◌*◌, ◌-◌, ◌<◌, ◌≤◌, inl, inr, ℕ, zero, suc, min, List, [], ◌∷◌, length, refl, sym, ap, subst, arith, Bool, true, false, nat_eq, nat_lt, eq-eqb}
use Rattle.std.specs.Prelude.{if◌then◌else◌}
use Rattle.std.proofs.Math.Nat.{mul-add, suc-mul, mul-le-mul_left, mul-le-mul_right, le_antisymm}
use Rattle.std.proofs.lemmas.Bool.{ne_eqb, cases_eq}
use Rattle.std.proofs.lemmas.Bool.Decides.{nat_tests}
use Rattle.zr_bptr.specs.declared.Ptr.{Ptr}
use Rattle.zr_tree.specs.Trees.{AllAt, AreRows, most_puts, most_frees, row_puts, IsHeightFor}

-- ---- numbers

less_one : (n : ℕ) → suc n - 1 ≡ n
less_one n = omega arith

-- one level less
one_less : (l n : ℕ) → 0 < l → (l - 1) * n + n ≡ l * n
one_less zero n high = absurd (omega arith)
one_less (suc below) n high =
    let e : (suc below - 1) * n ≡ below * n = ap (λ (k : ℕ). k * n) (less_one below) in
    omega (arith, suc-mul below n, e)

puts_same : (h n : ℕ) → most_puts h h n ≡ h * n
puts_same h n = ap (λ (b : Bool). if b then h * n else (h - 1) * n + (h - h)) (eq-eqb h h refl)

puts_more : (h l n : ℕ) → h < l → most_puts h l n ≡ (l - 1) * n + (l - h)
puts_more h l n lt = ap (λ (b : Bool). if b then l * n else (l - 1) * n + (l - h)) (ne_eqb h l (λ e. omega (arith, lt, e)))

frees_same : (h n : ℕ) → most_frees h h n ≡ h * n
frees_same h n = ap (λ (b : Bool). if b then h * n else (h - 1) * n) (eq-eqb h h refl)

frees_more : (h l n : ℕ) → h < l → most_frees h l n ≡ (l - 1) * n
frees_more h l n lt = ap (λ (b : Bool). if b then l * n else (l - 1) * n) (ne_eqb h l (λ e. omega (arith, lt, e)))

pub puts_fewer : (h l n m : ℕ) → n ≤ m → most_puts h l n ≤ most_puts h l m
puts_fewer h l n m le =
    let same : l * n ≤ l * m = mul-le-mul_left l le in
    let more : (l - 1) * n ≤ (l - 1) * m = mul-le-mul_left (l - 1) le in
    elim (nat_eq h l) as (λ (b : Bool). (if b then l * n else (l - 1) * n + (l - h)) ≤ (if b then l * m else (l - 1) * m + (l - h))) [ true ↦ same | false ↦ omega (arith, more) ]

pub frees_fewer : (h l n m : ℕ) → n ≤ m → most_frees h l n ≤ most_frees h l m
frees_fewer h l n m le =
    let same : l * n ≤ l * m = mul-le-mul_left l le in
    let more : (l - 1) * n ≤ (l - 1) * m = mul-le-mul_left (l - 1) le in
    elim (nat_eq h l) as (λ (b : Bool). (if b then l * n else (l - 1) * n) ≤ (if b then l * m else (l - 1) * m)) [ true ↦ same | false ↦ more ]

-- there is one least height
pub one_height : (from a b : ℕ) (changes : List (ℕ × Ptr)) → IsHeightFor from changes a → IsHeightFor from changes b → a ≡ b
one_height from a b changes h k = le_antisymm (h.least b k.grows k.room) (k.least a h.grows h.room)

-- where a height has room, at most so many
pub puts_within : (h l top : ℕ) (changes : List (ℕ × Ptr)) → l ≤ top → IsHeightFor h changes l → most_puts h l (length changes) ≤ top * length changes + (top - 1)
puts_within h l top changes tall is = elim (cases_eq h l) [
  | inl e ↦
      let same : most_puts h l (length changes) ≡ l * length changes = subst (λ (k : ℕ). most_puts h k (length changes) ≡ k * length changes) e (puts_same h (length changes)) in
      let most : l * length changes ≤ top * length changes = mul-le-mul_right (length changes) tall in
      omega (arith, same, most)
  | inr ne ↦ grown changes is ne
]
  where
    grown : (cs : List (ℕ × Ptr)) → IsHeightFor h cs l → ¬ (h ≡ l) → most_puts h l (length cs) ≤ top * length cs + (top - 1)
    grown [] some ne = absurd (ne (let g = some.grows in let least = some.least h (omega arith) (λ k d lt. absurd (omega arith)) in omega (arith, g, least)))
    grown (c ∷ cs) some ne =
        let g = some.grows in
        let more = puts_more h l (length (c ∷ cs)) (omega (arith, g, ne)) in
        let most : l * length (c ∷ cs) ≤ top * length (c ∷ cs) = mul-le-mul_right (length (c ∷ cs)) tall in
        let one = one_less l (length (c ∷ cs)) (omega (arith, g, ne)) in
        omega (arith, more, most, one, g, ne, tall)

pub frees_within : (h l top : ℕ) (changes : List (ℕ × Ptr)) → l ≤ top → IsHeightFor h changes l → most_frees h l (length changes) ≤ top * length changes
frees_within h l top changes tall is = elim (cases_eq h l) [
  | inl e ↦
      let same : most_frees h l (length changes) ≡ l * length changes = subst (λ (k : ℕ). most_frees h k (length changes) ≡ k * length changes) e (frees_same h (length changes)) in
      let most : l * length changes ≤ top * length changes = mul-le-mul_right (length changes) tall in
      omega (arith, same, most)
  | inr ne ↦
      let g = is.grows in
      let more = frees_more h l (length changes) (omega (arith, g, ne)) in
      let most : (l - 1) * length changes ≤ top * length changes = mul-le-mul_right (length changes) (omega (arith, tall)) in
      omega (arith, more, most)
]

-- ---- the rows

-- how many blocks of the lowest row lie over changes below one block of a level, at most
abbrev pub row_most : ℕ → ℕ → ℕ
row_most zero changes = min 1 changes
row_most (suc above) changes = changes

pub rows_most : (above : ℕ) (changes : List (ℕ × Ptr)) → AllAt (suc above) 0 changes → AreRows (row_most above (length changes)) changes
rows_most zero [] here = inl (omega arith)
rows_most zero (x ∷ xs) here = inr (omega arith, here)
rows_most (suc above) changes here = inl (omega arith)

puts_equal : (m c : ℕ) → row_puts (suc m) (suc m) c ≡ m * c + min 1 c
puts_equal m c = ap (λ (b : Bool). m * c + (if b then suc m - suc m else min 1 c)) (not_less (suc m))
  where
    not_less : (n : ℕ) → nat_lt n n ≡ false
    not_less n = grind (arith, nat_tests)

puts_taller : (n m c : ℕ) → n ≤ m → row_puts n (suc m) c ≡ m * c + (suc m - n)
puts_taller n m c le = ap (λ (b : Bool). m * c + (if b then suc m - n else min 1 c)) (is_less n m le)
  where
    is_less : (n m : ℕ) → n ≤ m → nat_lt n (suc m) ≡ true
    is_less n m le = grind (arith, nat_tests)

-- one row, and those above it
pub puts_stepped : (h m few all : ℕ) → h ≤ m → few ≤ row_most m all → row_most m all + row_puts h m few ≤ row_puts (suc h) (suc m) all
puts_stepped h zero few all le fewer =
    let e = puts_equal 0 all in
    let z : h ≡ 0 = omega (arith, le) in
    subst (λ (k : ℕ). row_most 0 all + row_puts k 0 few ≤ row_puts (suc k) 1 all) (sym z) (omega (arith, e))
puts_stepped h (suc m) few all le fewer = elim (cases_eq h (suc m)) [
  | inl e ↦ subst (λ (k : ℕ). all + row_puts k (suc m) few ≤ row_puts (suc k) (suc (suc m)) all) (sym e)
      (let a = puts_equal m few in let b = puts_equal (suc m) all in omega (arith, a, b, more, suc-mul m all, fewer))
  | inr ne ↦
      let a = puts_taller h m few (omega (arith, le, ne)) in
      let b = puts_taller (suc h) (suc m) all (omega (arith, le, ne)) in
      omega (arith, a, b, more, suc-mul m all)
]
  where
    more : m * few ≤ m * all
    more = mul-le-mul_left m fewer

-- a row of holes with the root before the changes
pub puts_rooted : (m all changes : ℕ) → all ≤ changes + 1 → 0 < all → row_puts (suc m) (suc m) all ≤ row_puts 0 (suc m) changes
puts_rooted m all changes few some =
    let a = puts_equal m all in
    let b = puts_taller 0 m changes (omega arith) in
    let c : m * all ≤ m * (changes + 1) = mul-le-mul_left m few in
    let d = mul-add m changes 1 in
    omega (arith, a, b, c, d, some)

pub puts_rows : (h l n : ℕ) → h ≤ l → row_puts h l n ≤ most_puts h l n
puts_rows h zero n le = omega arith
puts_rows h (suc m) n le = elim (cases_eq h (suc m)) [
  | inl e ↦ subst (λ (k : ℕ). row_puts k (suc m) n ≤ most_puts k (suc m) n) (sym e) (let a = puts_equal m n in let b = puts_same (suc m) n in omega (arith, a, b, suc-mul m n))
  | inr ne ↦
      let a = puts_taller h m n (omega (arith, le, ne)) in
      let b = puts_more h (suc m) n (omega (arith, le, ne)) in
      let c : (suc m - 1) * n ≡ m * n = ap (λ (k : ℕ). k * n) (less_one m) in
      omega (arith, a, b, c)
]

pub frees_rows : (h l n : ℕ) → h ≤ l → h * n ≤ most_frees h l n
frees_rows h l n le = elim (cases_eq h l) [
  | inl e ↦ subst (λ (k : ℕ). h * n ≤ most_frees h k n) e (let a = frees_same h n in omega (arith, a))
  | inr ne ↦
      let a = frees_more h l n (omega (arith, le, ne)) in
      let b : h * n ≤ (l - 1) * n = mul-le-mul_right n (omega (arith, le, ne)) in
      omega (arith, a, b)
]
