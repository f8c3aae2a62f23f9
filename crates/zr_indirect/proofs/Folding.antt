-- Counts into which fresh units are folded.
use Rattle.std.proofs.Common.{◌≡◌, ℕ, zero, suc, ◌+◌, ◌<◌, ◌≤◌, true, false, List, [], ◌∷◌, length, get_or, replicate, refl, ap, arith}
use Rattle.std.proofs.Math.ListN.{length-replicate}
use Rattle.std.proofs.lemmas.Bool.Decides.{nat_tests}
use Rattle.zr_base.specs.declared.space.Extent.{Extent}
use Rattle.zr_base.specs.declared.space.Entry.{Entry}
use Rattle.zr_base.specs.Extents.{has_unit}
use Rattle.zr_rules.specs.Places.{count_below}
use Rattle.zr_rules.specs.Mappings.{entry_at, in_source}
use Rattle.zr_rules.specs.Condense.{folded, fresh_units}
use Rattle.zr_obsolete.specs.Obsolete.{Fits, LiesIn}
use Rattle.zr_obsolete.proofs.Counting.{count-le}
use Rattle.zr_indirect.specs.Mapped.{HasCounts, IsTurned}

pub count_none : (n : ℕ) → count_below n (λ k. false) ≡ 0
count_none zero = refl
count_none (suc n) = omega (arith, count_none n)

-- as many as there were
folded_length : (es : List Entry) (cs : List ℕ) (fresh : List Extent) → length cs ≡ length es → length (folded es cs fresh) ≡ length es
folded_length [] cs fresh len = refl
folded_length (e ∷ es) [] fresh len = absurd (omega arith)
folded_length (e ∷ es) (c ∷ cs) fresh len = ap (λ (n : ℕ). suc n) (folded_length es cs fresh (omega arith))

-- each with the fresh units of its entry
pub folded_at : (es : List Entry) (cs : List ℕ) (fresh : List Extent) (i : ℕ) → i < length es → length cs ≡ length es → get_or (folded es cs fresh) i 0 ≡ get_or cs i 0 + fresh_units fresh (entry_at es i)
folded_at [] cs fresh i there len = absurd (omega arith)
folded_at (e ∷ es) [] fresh i there len = absurd (omega arith)
folded_at (e ∷ es) (c ∷ cs) fresh zero there len = refl
folded_at (e ∷ es) (c ∷ cs) fresh (suc i) there len = folded_at es cs fresh i (omega arith) (omega arith)

-- so what fitted before fits with none fresh
pub counts_folded : (es : List Entry) (cs : List ℕ) (fresh : List Extent) → HasCounts es cs fresh → HasCounts es (folded es cs fresh) []
counts_folded es cs fresh h = record {
  each = folded_length es cs fresh h.each;
  sources = λ u is. absurd (let false_true = is in cc);
  fits = λ i there. omega (arith, folded_at es cs fresh i there h.each, count_none (entry_at es i).len, h.fits i there);
}

-- with none fresh, nothing came, and what went is apart
pub none_turned : (went : List Extent) → IsTurned [] [] went
none_turned went = record { came_is = λ u is. is; went_is = λ u is. absurd (let false_true = is in cc) }

-- ---- counts that are all 0

zero_at : (n i : ℕ) → get_or {A = ℕ} (replicate n 0) i 0 ≡ 0
zero_at zero i = refl
zero_at (suc n) zero = refl
zero_at (suc n) (suc i) = zero_at n i

-- no entry has more fresh units than units
pub counts_zero : (es : List Entry) (cs : List ℕ) (fresh : List Extent) → cs ≡ replicate (length es) 0 → LiesIn fresh es → HasCounts es cs fresh
counts_zero es cs fresh is sources = rw is (record {
  each = length-replicate (length es) 0;
  sources = sources;
  fits = λ i there. omega (arith, zero_at (length es) i, count-le (entry_at es i).len (λ k. has_unit fresh ((entry_at es i).src + k)));
})

-- the same of one entry
pub one_counts_zero : (es : List Entry) (cs : List ℕ) (fresh : List Extent) (e : Entry) → es ≡ e ∷ [] → cs ≡ 0 ∷ [] → ((u : ℕ) → has_unit fresh u ≡ true → in_source e u ≡ true) → HasCounts es cs fresh
one_counts_zero es cs fresh e is all inside = rw is (counts_zero (e ∷ []) cs fresh all (λ u has. grind (arith, nat_tests, inside u has)))

-- whatever is fresh, one entry has no more of it than units
pub one_fits : (es : List Entry) (cs : List ℕ) (fresh : List Extent) (e : Entry) → es ≡ e ∷ [] → cs ≡ 0 ∷ [] → Fits es cs fresh
one_fits es cs fresh e is all = rw (is, all) (λ i there. first i there)
  where
    first : (i : ℕ) → i < 1 → get_or {A = ℕ} (0 ∷ []) i 0 + fresh_units fresh (entry_at (e ∷ []) i) ≤ (entry_at (e ∷ []) i).len
    first zero there = omega (arith, count-le e.len (λ k. has_unit fresh (e.src + k)))
    first (suc i) there = absurd (omega arith)
