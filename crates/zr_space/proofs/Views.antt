-- What the space of a pool shows of its devices.
use Rattle.std.proofs.Common.{◌≡◌, ℕ, zero, suc, ◌+◌, ◌<◌, false, ◌==◌, List, [], ◌∷◌, ◌++◌, map, length, refl, ◌∙◌, sym, ap, subst, arith, ⊎_elim, get_or}
use Rattle.std.proofs.Math.ListN.{set}
use Rattle.std.proofs.lemmas.List.{get_or-set_same, get_or-set_other}
use Rattle.std.proofs.lemmas.Bool.{cases_eq}
use Rattle.std.proofs.lemmas.Bool.Decides.{nat_tests}
use Rattle.std.proofs.lemmas.Grind.{common_steps}
use Rattle.zr_rules.specs.Places.{part_of, address_hits}
use Rattle.zr_rules.specs.Space.{opened_of}
use Rattle.zr_space.specs.Views.{Kept, kept_of, nothing_kept, part_in, opened_in, addresses, meta_from, saved_from, space_of}
use Rattle.zr_space.proofs.Sums.{extent_hits, addresses_hits, hits_append}
use Rattle.zr_space.specs.declared.whole.Whole.{Whole}

pub part_is : (devs : List Kept) (d : ℕ) → part_of (map part_in devs) d ≡ part_in (kept_of devs d)
part_is [] zero = refl
part_is [] (suc d) = refl
part_is (k ∷ ks) zero = refl
part_is (k ∷ ks) (suc d) = part_is ks d

pub opened_is : (whole : Whole) (devs : List Kept) (d : ℕ) → opened_of (space_of whole devs) d ≡ opened_in (kept_of devs d)
opened_is whole [] zero = refl
opened_is whole [] (suc d) = refl
opened_is whole (k ∷ ks) zero = refl
opened_is whole (k ∷ ks) (suc d) = opened_is whole ks d

meta_below : (k d u : ℕ) (devs : List Kept) → d < k → address_hits (meta_from k devs) d u ≡ 0
meta_below k d u [] lt = refl
meta_below k d u (x ∷ xs) lt =
    let rest = meta_below (k + 1) d u xs (omega (arith, lt)) in
    grind (arith, nat_tests, lt, rest, hits_append (addresses k x.uses.meta) (meta_from (k + 1) xs) d u, addresses_hits k d u x.uses.meta)

meta_at : (k j u : ℕ) (devs : List Kept) → address_hits (meta_from k devs) (k + j) u ≡ extent_hits (kept_of devs j).uses.meta u
meta_at k zero u [] = refl
meta_at k (suc j) u [] = refl
meta_at k zero u (x ∷ xs) =
    let rest = meta_below (k + 1) (k + 0) u xs (omega arith) in
    grind (arith, nat_tests, rest, hits_append (addresses k x.uses.meta) (meta_from (k + 1) xs) (k + 0) u, addresses_hits k (k + 0) u x.uses.meta)
meta_at k (suc j) u (x ∷ xs) =
    let next : (k + 1) + j ≡ k + suc j = omega arith in
    let rest = ap (λ (d : ℕ). address_hits (meta_from (k + 1) xs) d u) (sym next) ∙ meta_at (k + 1) j u xs in
    grind (arith, nat_tests, rest, hits_append (addresses k x.uses.meta) (meta_from (k + 1) xs) (k + suc j) u, addresses_hits k (k + suc j) u x.uses.meta)

pub meta_is : (devs : List Kept) (d u : ℕ) → address_hits (meta_from 0 devs) d u ≡ extent_hits (kept_of devs d).uses.meta u
meta_is devs d u = let z : d ≡ 0 + d = omega arith in ap (λ (k : ℕ). address_hits (meta_from 0 devs) k u) z ∙ meta_at 0 d u devs

saved_below : (k d u : ℕ) (devs : List Kept) → d < k → address_hits (saved_from k devs) d u ≡ 0
saved_below k d u [] lt = refl
saved_below k d u (x ∷ xs) lt =
    let rest = saved_below (k + 1) d u xs (omega (arith, lt)) in
    grind (arith, nat_tests, lt, rest, hits_append (addresses k x.uses.saved) (saved_from (k + 1) xs) d u, addresses_hits k d u x.uses.saved)

saved_at : (k j u : ℕ) (devs : List Kept) → address_hits (saved_from k devs) (k + j) u ≡ extent_hits (kept_of devs j).uses.saved u
saved_at k zero u [] = refl
saved_at k (suc j) u [] = refl
saved_at k zero u (x ∷ xs) =
    let rest = saved_below (k + 1) (k + 0) u xs (omega arith) in
    grind (arith, nat_tests, rest, hits_append (addresses k x.uses.saved) (saved_from (k + 1) xs) (k + 0) u, addresses_hits k (k + 0) u x.uses.saved)
saved_at k (suc j) u (x ∷ xs) =
    let next : (k + 1) + j ≡ k + suc j = omega arith in
    let rest = ap (λ (d : ℕ). address_hits (saved_from (k + 1) xs) d u) (sym next) ∙ saved_at (k + 1) j u xs in
    grind (arith, nat_tests, rest, hits_append (addresses k x.uses.saved) (saved_from (k + 1) xs) (k + suc j) u, addresses_hits k (k + suc j) u x.uses.saved)

pub saved_is : (devs : List Kept) (d u : ℕ) → address_hits (saved_from 0 devs) d u ≡ extent_hits (kept_of devs d).uses.saved u
saved_is devs d u = let z : d ≡ 0 + d = omega arith in ap (λ (k : ℕ). address_hits (saved_from 0 devs) k u) z ∙ saved_at 0 d u devs

-- ---- one device is written

pub kept_other : (devs : List Kept) (k j : ℕ) (x : Kept) → (j == k) ≡ false → kept_of (set devs k x) j ≡ kept_of devs j
kept_other devs k j x ne = grind (arith, nat_tests, common_steps, ne, get_or-set_other devs k j x nothing_kept)

pub kept_same : (devs : List Kept) (k : ℕ) (x : Kept) → k < length devs → kept_of (set devs k x) k ≡ x
kept_same devs k x there = grind (arith, common_steps, get_or-set_same devs k x nothing_kept)

pub kept_read : (devs : List Kept) (k : ℕ) (x : Kept) → k < length devs → x ≡ get_or devs k x → x ≡ kept_of devs k
kept_read devs k x there is = grind (arith, common_steps, is)

-- ---- one device more

pub kept_last : (devs : List Kept) (k : Kept) → kept_of (devs ++ k ∷ []) (length devs) ≡ k
kept_last [] k = refl
kept_last (x ∷ xs) k = kept_last xs k

pub kept_before : (devs : List Kept) (k : Kept) (d : ℕ) → (d == length devs) ≡ false → kept_of (devs ++ k ∷ []) d ≡ kept_of devs d
kept_before [] k zero ne = absurd (grind (arith, nat_tests, ne))
kept_before [] k (suc zero) ne = refl
kept_before [] k (suc (suc d)) ne = refl
kept_before (x ∷ xs) k zero ne = refl
kept_before (x ∷ xs) k (suc d) ne = kept_before xs k d (grind (arith, nat_tests, ne))

pub on_all : (devs : List Kept) (k : Kept) (P : ℕ → Kept → Type 0) → P (length devs) k → ((d : ℕ) → (d == length devs) ≡ false → P d (kept_of devs d)) → (d : ℕ) → P d (kept_of (devs ++ k ∷ []) d)
on_all devs k P here others d =
    ⊎_elim
    (λ same. subst (λ i. P i (kept_of (devs ++ k ∷ []) i)) (sym same) (subst (P (length devs)) (sym (kept_last devs k)) here))
    (λ other. let ne : (d == length devs) ≡ false = grind (arith, nat_tests, other) in subst (P d) (sym (kept_before devs k d ne)) (others d ne))
    (cases_eq d (length devs))
