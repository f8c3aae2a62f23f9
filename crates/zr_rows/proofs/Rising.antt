-- Entries that an entry comes after.
use Rattle.std.proofs.Common.{◌≡◌, ℕ, zero, suc, ◌+◌, ◌<◌, ◌≤◌, List, [], ◌∷◌, ◌++◌, length, get_or, replicate, refl, ap, arith}
use Rattle.zr_base.specs.declared.space.Extent.{Extent}
use Rattle.zr_base.specs.Extents.{has_unit}
use Rattle.zr_rules.specs.Condense.{folded}
use Rattle.zr_rules.specs.Mappings.{entry_at}
use Rattle.zr_obsolete.specs.Obsolete.{Fits}
use Rattle.zr_obsolete.proofs.Counting.{count-le}
use Rattle.zr_base.specs.declared.space.Entry.{Entry}
use Rattle.zr_rules.specs.Mappings.{IsAfterAll}

-- one that comes after the last of them comes after all
pub after_more : (xs : List Entry) (e next : Entry) → IsAfterAll xs e → e.src + e.len ≤ next.src → IsAfterAll (xs ++ e ∷ []) next
after_more [] e next h le = (le, tt)
after_more (x ∷ xs) e next h le = (let a = h.0 in omega (arith, a, le), after_more xs e next h.1 le)

zero_at : (n i : ℕ) → get_or {A = ℕ} (replicate n 0) i 0 ≡ 0
zero_at zero i = refl
zero_at (suc n) zero = refl
zero_at (suc n) (suc i) = zero_at n i

-- where no unit was counted yet, no entry has more fresh units than units
pub fits_zero : (n : ℕ) (es : List Entry) (cs : List ℕ) (fresh : List Extent) → cs ≡ replicate n 0 → Fits es cs fresh
fits_zero n es cs fresh is i lt = let c = ap (λ (ns : List ℕ). get_or ns i 0) is in omega (arith, c, zero_at n i, count-le (entry_at es i).len (λ k. has_unit fresh ((entry_at es i).src + k)))

-- there are as many counts as before
pub folded_length : (es : List Entry) (cs : List ℕ) (fresh : List Extent) → length cs ≡ length es → length (folded es cs fresh) ≡ length es
folded_length [] cs fresh len = refl
folded_length (e ∷ es) [] fresh len = absurd (omega (arith, len))
folded_length (e ∷ es) (c ∷ cs) fresh len = ap (λ (n : ℕ). suc n) (folded_length es cs fresh (omega (arith, len)))
