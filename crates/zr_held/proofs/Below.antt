-- The blocks of the first objects, where one object's are others.
use Rattle.std.proofs.Common.{◌≡◌, ◌≢◌, ◌<◌, ◌≤◌, ◌+◌, ℕ, zero, suc, List, refl, ap, arith}
use Rattle.std.specs.Prelude.{if◌then◌else◌, ◌==◌}
use Rattle.std.specs.List.{sum_by}
use Rattle.std.proofs.lemmas.Bool.{eq-eqb, ne_eqb}
use Rattle.std.proofs.lemmas.List.Sums.{sum_by-append}
use Rattle.zr_bptr.specs.declared.Bptr.{Bptr}
use Rattle.zr_txg.proofs.Keyed.{by_key}
use Rattle.zr_held.specs.Held.{blocks_below}

-- the blocks, but for one object's
abbrev pub with_blocks : (ℕ → List Bptr) → ℕ → List Bptr → ℕ → List Bptr
with_blocks blocks id bs i = if i == id then bs else blocks i

module _ (blocks : ℕ → List Bptr) (weight : Bptr → ℕ) where
  pub one_below : (i n : ℕ) → i < n → sum_by weight (blocks i) ≤ sum_by weight (blocks_below blocks n)
  one_below i zero lt = absurd (omega (arith, lt))
  one_below i (suc n) lt =
      let parts = sum_by-append weight (blocks_below blocks n) (blocks n) in
      by_key i n
      (λ is. let e = ap (λ (k : ℕ). sum_by weight (blocks k)) is in omega (arith, parts, e))
      (λ other. let rest = one_below i n (omega (arith, lt, other)) in omega (arith, parts, rest))

  pub two_below : (i j n : ℕ) → i < n → j < n → i ≢ j → sum_by weight (blocks i) + sum_by weight (blocks j) ≤ sum_by weight (blocks_below blocks n)
  two_below i j zero lt less apart = absurd (omega (arith, lt))
  two_below i j (suc n) lt less apart =
      let parts = sum_by-append weight (blocks_below blocks n) (blocks n) in
      by_key i n
      (λ is.
      let e = ap (λ (k : ℕ). sum_by weight (blocks k)) is in
      let rest = one_below j n (omega (arith, less, is, apart)) in
      omega (arith, parts, e, rest))
      (λ other. by_key j n
      (λ is.
      let e = ap (λ (k : ℕ). sum_by weight (blocks k)) is in
      let rest = one_below i n (omega (arith, lt, other)) in
      omega (arith, parts, e, rest))
      (λ more. let rest = two_below i j n (omega (arith, lt, other)) (omega (arith, less, more)) apart in omega (arith, parts, rest)))

  pub more_below : (m n : ℕ) → m ≤ n → sum_by weight (blocks_below blocks m) ≤ sum_by weight (blocks_below blocks n)
  more_below m zero le = by_key m zero (λ is. let e = ap (λ (k : ℕ). sum_by weight (blocks_below blocks k)) is in omega (arith, e)) (λ other. absurd (omega (arith, le, other)))
  more_below m (suc n) le =
      let parts = sum_by-append weight (blocks_below blocks n) (blocks n) in
      by_key m (suc n)
      (λ is. let e = ap (λ (k : ℕ). sum_by weight (blocks_below blocks k)) is in omega (arith, e))
      (λ other. let rest = more_below m n (omega (arith, le, other)) in omega (arith, parts, rest))

  module _ (id : ℕ) (bs : List Bptr) where
    unchanged_below : (n : ℕ) → n ≤ id → sum_by weight (blocks_below (with_blocks blocks id bs) n) ≡ sum_by weight (blocks_below blocks n)
    unchanged_below zero le = refl
    unchanged_below (suc n) le =
        let parts = sum_by-append weight (blocks_below blocks n) (blocks n) in
        let news = sum_by-append weight (blocks_below (with_blocks blocks id bs) n) (with_blocks blocks id bs n) in
        let same : with_blocks blocks id bs n ≡ blocks n = rw (ne_eqb n id (λ e. omega (arith, le, e))) refl in
        let e = ap (sum_by weight) same in
        let rest = unchanged_below n (omega (arith, le)) in
        omega (arith, parts, news, e, rest)

    -- with the one object among them
    pub changed_below : (n : ℕ) → id < n → sum_by weight (blocks_below (with_blocks blocks id bs) n) + sum_by weight (blocks id) ≡ sum_by weight (blocks_below blocks n) + sum_by weight bs
    changed_below zero lt = absurd (omega (arith, lt))
    changed_below (suc n) lt =
        let parts = sum_by-append weight (blocks_below blocks n) (blocks n) in
        let news = sum_by-append weight (blocks_below (with_blocks blocks id bs) n) (with_blocks blocks id bs n) in
        by_key n id
        (λ is.
        let here : with_blocks blocks id bs n ≡ bs = rw (eq-eqb n id is) refl in
        let e = ap (sum_by weight) here in
        let old = ap (λ (k : ℕ). sum_by weight (blocks k)) is in
        let rest = unchanged_below n (omega (arith, is)) in
        omega (arith, parts, news, e, old, rest))
        (λ other.
        let same : with_blocks blocks id bs n ≡ blocks n = rw (ne_eqb n id other) refl in
        let e = ap (sum_by weight) same in
        let rest = changed_below n (omega (arith, lt, other)) in
        omega (arith, parts, news, e, rest))
