-- What condensing leaves of a mapping and its counts.
use Rattle.std.proofs.Common.{◌≡◌, ℕ, zero, suc, ◌+◌, ◌-◌, ◌≤◌, ◌<◌, Bool, true, false, cond, List, [], ◌∷◌, map, length, refl, sym, ◌∙◌, ap, subst, arith, ⊎_elim}
use Rattle.std.proofs.lemmas.Bool.{cases_lt}
use Rattle.std.proofs.lemmas.Bool.Decides.{nat_tests}
use Rattle.std.specs.List.{zip}
use Rattle.zr_base.specs.declared.space.Extent.{Extent}
use Rattle.zr_base.specs.declared.space.Entry.{Entry}
use Rattle.zr_base.specs.Extents.{has_unit}
use Rattle.zr_rules.specs.Places.{one_if, count_below}
use Rattle.zr_rules.specs.Mappings.{in_source, has_source}
use Rattle.zr_rules.specs.Condense.{condensed, is_used, fresh_units}
use Rattle.zr_obsolete.specs.Obsolete.{Fits}
use Rattle.zr_indirect.specs.Mapped.{HasCounts}

-- no pair has more obsolete units than units
abbrev AllFit : List Extent → List (Entry × ℕ) → Type 0
AllFit fresh [] = Unit {0}
AllFit fresh (p ∷ ps) = (p.1 + fresh_units fresh p.0 ≤ p.0.len) × AllFit fresh ps

fits_all : (es : List Entry) (cs : List ℕ) (fresh : List Extent) → length cs ≡ length es → Fits es cs fresh → AllFit fresh (zip es cs)
fits_all [] cs fresh len fits = tt
fits_all (e ∷ es) [] fresh len fits = absurd (omega (arith, len))
fits_all (e ∷ es) (c ∷ cs) fresh len fits = (fits 0 (omega arith), fits_all es cs fresh (omega (arith, len)) (λ i lt. fits (suc i) (omega (arith, lt))))

cond_fit : (b : Bool) (fresh : List Extent) (p : Entry × ℕ) (ps : List (Entry × ℕ)) → p.1 + fresh_units fresh p.0 ≤ p.0.len → AllFit fresh ps → AllFit fresh (cond b (p ∷ ps) ps)
cond_fit true fresh p ps one rest = (one, rest)
cond_fit false fresh p ps one rest = rest

condensed_fit : (es : List Entry) (cs : List ℕ) (fresh : List Extent) → AllFit fresh (zip es cs) → AllFit fresh (condensed es cs)
condensed_fit [] cs fresh all = tt
condensed_fit (e ∷ es) [] fresh all = tt
condensed_fit (e ∷ es) (c ∷ cs) fresh all = cond_fit (is_used (e, c)) fresh (e, c) (condensed es cs) all.0 (condensed_fit es cs fresh all.1)

all_fits : (xs : List Entry) (ns : List ℕ) (fresh : List Extent) → length ns ≡ length xs → AllFit fresh (zip xs ns) → Fits xs ns fresh
all_fits [] ns fresh len all i lt = absurd (omega (arith, lt))
all_fits (x ∷ xs) [] fresh len all i lt = absurd (omega (arith, len))
all_fits (x ∷ xs) (n ∷ ns) fresh len all zero lt = all.0
all_fits (x ∷ xs) (n ∷ ns) fresh len all (suc i) lt = all_fits xs ns fresh (omega (arith, len)) all.1 i (omega (arith, lt))

-- ---- a fresh unit is of an entry with a unit in use

count_some : (n k : ℕ) (test : ℕ → Bool) → k < n → test k ≡ true → 1 ≤ count_below n test
count_some zero k test lt is = absurd (omega (arith, lt))
count_some (suc n) k test lt is =
    ⊎_elim
    (λ less. let r = count_some n k test less is in omega (arith, r))
    (λ ge. let same : k ≡ n = omega (arith, ge, lt) in let last : one_if (test n) ≡ 1 = ap one_if (sym (ap test same) ∙ is) in omega (arith, last))
    (cases_lt k n)

used : (e : Entry) (c u : ℕ) (fresh : List Extent) → c + fresh_units fresh e ≤ e.len → in_source e u ≡ true → has_unit fresh u ≡ true → is_used (e, c) ≡ true
used e c u fresh fits here is =
    let low : e.src ≤ u = grind (arith, nat_tests, here) in
    let high : u < e.src + e.len = grind (arith, nat_tests, here) in
    let back : u ≡ e.src + (u - e.src) = omega (arith, low) in
    let there : has_unit fresh (e.src + (u - e.src)) ≡ true = sym (ap (has_unit fresh) back) ∙ is in
    let some = count_some e.len (u - e.src) (λ k. has_unit fresh (e.src + k)) (omega (arith, low, high)) there in
    let less : c < e.len = omega (arith, fits, some) in
    grind (arith, nat_tests, less)

abbrev pub entries_in : List (Entry × ℕ) → List Entry
entries_in ps = map (λ (p : Entry × ℕ). p.0) ps

cond_source : (b : Bool) (p : Entry × ℕ) (ps : List (Entry × ℕ)) (u : ℕ) → has_source (entries_in ps) u ≡ true → has_source (entries_in (cond b (p ∷ ps) ps)) u ≡ true
cond_source true p ps u is = grind (arith, is)
cond_source false p ps u is = is

source_kept : (es : List Entry) (cs : List ℕ) (fresh : List Extent) (u : ℕ) → length cs ≡ length es → AllFit fresh (zip es cs) → has_unit fresh u ≡ true → has_source es u ≡ true → has_source (entries_in (condensed es cs)) u ≡ true
source_kept [] cs fresh u len all is there = there
source_kept (e ∷ es) [] fresh u len all is there = absurd (omega (arith, len))
source_kept (e ∷ es) (c ∷ cs) fresh u len all is there = one (in_source e u) refl (source_kept es cs fresh u (omega (arith, len)) all.1 is)
  where
    one : (b : Bool) → in_source e u ≡ b → (has_source es u ≡ true → has_source (entries_in (condensed es cs)) u ≡ true) → has_source (entries_in (condensed (e ∷ es) (c ∷ cs))) u ≡ true
    one true here rest =
        ap (λ (b : Bool). has_source (entries_in (cond b ((e, c) ∷ condensed es cs) (condensed es cs))) u) (used e c u fresh all.0 here is) ∙ (rw here refl)
    one false out rest = cond_source (is_used (e, c)) (e, c) (condensed es cs) u (rest (grind (arith, out, there)))

zip_entries : (es : List Entry) (cs : List ℕ) → length cs ≡ length es → entries_in (zip es cs) ≡ es
zip_entries [] [] len = refl
zip_entries [] (c ∷ cs) len = absurd (omega (arith, len))
zip_entries (e ∷ es) [] len = absurd (omega (arith, len))
zip_entries (e ∷ es) (c ∷ cs) len = ap (λ xs. e ∷ xs) (zip_entries es cs (omega (arith, len)))

-- the entries that are kept are counted as they were
pub counts_condensed : (es : List Entry) (cs : List ℕ) (fresh : List Extent) (xs : List Entry) (ns : List ℕ) → HasCounts es cs fresh → length ns ≡ length xs → zip xs ns ≡ condensed es cs → HasCounts xs ns fresh
counts_condensed es cs fresh xs ns h len is =
    let all = fits_all es cs fresh h.each h.fits in
    let kept : entries_in (condensed es cs) ≡ xs = ap entries_in (sym is) ∙ zip_entries xs ns len in
    record {
      each = len;
      sources = λ u has. subst (λ (l : List Entry). has_source l u ≡ true) kept (source_kept es cs fresh u h.each all has (h.sources u has));
      fits = all_fits xs ns fresh len (subst (AllFit fresh) (sym is) (condensed_fit es cs fresh all));
    }
