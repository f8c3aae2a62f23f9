-- The entries that a step of condensing keeps have room as before, no unit changes its role, and up to the last step the mapping is the old one.
use Rattle.std.proofs.Common.{◌≡◌, inl, inr, ℕ, zero, suc, ◌+◌, ◌≤◌, true, false, ◌==◌, List, [], ◌∷◌, ◌++◌, map, length, length-append, take, drop, get_or, Some, None, refl, sym, ◌∙◌, ap, subst, arith}
use Rattle.std.specs.Prelude.{All}
use Rattle.std.specs.List.{zip}
use Rattle.std.proofs.lemmas.Bool.{cases_eq}
use Rattle.std.proofs.lemmas.List.{length-map}
use Rattle.std.proofs.lemmas.List.Elements.{All-append, All-drop, All-filter, All-from_get_or, All-get_or, All-take}
use Rattle.std.proofs.lemmas.Slice.Zip.{get_or-zip, length-zip}
use Rattle.zr_base.specs.Extents.{has_unit}
use Rattle.zr_base.specs.declared.space.CondPart.{CondPart}
use Rattle.zr_base.specs.declared.space.Condensed.{Condensed}
use Rattle.zr_base.specs.declared.space.Entry.{Entry}
use Rattle.zr_base.specs.declared.space.Extent.{Extent}
use Rattle.zr_rules.specs.Condense.{condensed, folded, fresh_units, is_used}
use Rattle.zr_rules.specs.Mappings.{entry_at}
use Rattle.zr_rules.specs.Places.{count_below, is_fresh, part_of}
use Rattle.zr_rules.specs.Space.{Space, role_at}
use Rattle.zr_rules.specs.Steps.{Condenses, next_kept, worked}
use Rattle.zr_space.specs.Condensing.{LeadsAsBefore}
use Rattle.zr_removal.specs.Condensing.{is_done}
use Rattle.zr_removal.proofs.Condensed.{both_ways}
use Rattle.zr_removal.proofs.Recasts.{Fits, Recasts}

none_below : (n : ℕ) → count_below n (λ k. false) ≡ 0
none_below zero = refl
none_below (suc n) = omega (arith, none_below n)

folded_most : (es : List Entry) (cs : List ℕ) (fresh : List Extent) (i : ℕ) → get_or (folded es cs fresh) i 0 ≤ get_or cs i 0 + fresh_units fresh (entry_at es i)
folded_most [] cs fresh i = omega arith
folded_most (e ∷ es) [] fresh i = omega arith
folded_most (e ∷ es) (c ∷ cs) fresh zero = omega arith
folded_most (e ∷ es) (c ∷ cs) fresh (suc i) = folded_most es cs fresh i

-- once the fresh units are counted
pub fits_folded : (ways : Entry → ℕ) (es : List Entry) (cs : List ℕ) (fresh : List Extent) → Fits ways es cs fresh → Fits ways es (folded es cs fresh) []
fits_folded ways es cs fresh fits i lt =
    let most = folded_most es cs fresh i in
    let none = none_below (entry_at es i).len in
    let was = fits i lt in
    omega (arith, most, none, was)

zip_take : (n : ℕ) (es : List Entry) (cs : List ℕ) → zip (take n es) (take n cs) ≡ take n (zip es cs)
zip_take zero es cs = refl
zip_take (suc n) [] cs = refl
zip_take (suc n) (e ∷ es) [] = refl
zip_take (suc n) (e ∷ es) (c ∷ cs) = ap (λ (ps : List (Entry × ℕ)). (e, c) ∷ ps) (zip_take n es cs)

zip_none : (es : List Entry) → zip {X = ℕ} es [] ≡ []
zip_none [] = refl
zip_none (e ∷ es) = refl

zip_drop : (n : ℕ) (es : List Entry) (cs : List ℕ) → zip (drop n es) (drop n cs) ≡ drop n (zip es cs)
zip_drop zero es cs = refl
zip_drop (suc n) [] cs = refl
zip_drop (suc n) (e ∷ es) [] = zip_none (drop n es)
zip_drop (suc n) (e ∷ es) (c ∷ cs) = zip_drop n es cs

zip_pairs : (ps : List (Entry × ℕ)) → zip (map (λ (p : Entry × ℕ). p.0) ps) (map (λ (p : Entry × ℕ). p.1) ps) ≡ ps
zip_pairs [] = refl
zip_pairs (p ∷ ps) = ap (λ (qs : List (Entry × ℕ)). p ∷ qs) (zip_pairs ps)

zip_behind : (xs : List Entry) (ns : List ℕ) (ps : List (Entry × ℕ)) → length ns ≡ length xs → zip (xs ++ map (λ (p : Entry × ℕ). p.0) ps) (ns ++ map (λ (p : Entry × ℕ). p.1) ps) ≡ zip xs ns ++ ps
zip_behind [] [] ps len = zip_pairs ps
zip_behind [] (n ∷ ns) ps len = absurd (omega (arith, len))
zip_behind (x ∷ xs) [] ps len = absurd (omega (arith, len))
zip_behind (x ∷ xs) (n ∷ ns) ps len = ap (λ (qs : List (Entry × ℕ)). (x, n) ∷ qs) (zip_behind xs ns ps (omega (arith, len)))

module _ (ways : Entry → ℕ) (fresh : List Extent) where
  abbrev HasPlace : Entry × ℕ → Type 0
  HasPlace p = p.1 + fresh_units fresh p.0 + ways p.0 ≤ p.0.len

  abbrev no_pair : Entry × ℕ
  no_pair = (record { src = 0; dev = 0; dst = 0; len = 0 }, 0)

  pairs_fit : (es : List Entry) (cs : List ℕ) → Fits ways es cs fresh → All HasPlace (zip es cs)
  pairs_fit es cs fits = All-from_get_or HasPlace (zip es cs) no_pair (λ i lt.
      let both = length-zip es cs in
      subst HasPlace (sym (get_or-zip es cs i no_pair (omega (arith, lt, both)) (omega (arith, lt, both)))) (fits i (omega (arith, lt, both))))

  fit_pairs : (xs : List Entry) (ns : List ℕ) → length ns ≡ length xs → All HasPlace (zip xs ns) → Fits ways xs ns fresh
  fit_pairs xs ns len all i lt =
      let both = length-zip xs ns in
      subst HasPlace (get_or-zip xs ns i no_pair lt (omega (arith, lt, len))) (All-get_or HasPlace (zip xs ns) i no_pair (omega (arith, lt, len, both)) all)

  -- of some entries, those that are kept
  kept_fit : (es : List Entry) (cs : List ℕ) → All HasPlace (zip es cs) → All HasPlace (condensed es cs)
  kept_fit es cs all = All-filter is_used HasPlace (zip es cs) all

  -- what is worked through fits as the mapping does
  pub fits_worked : (es : List Entry) (cs : List ℕ) (c : CondPart) → zip c.entries c.counts ≡ condensed (take c.at es) (take c.at cs) → length c.counts ≡ length c.entries → Fits ways es cs fresh → Fits ways (worked es cs c).entries (worked es cs c).counts fresh
  fits_worked es cs c kept each fits =
      let all = pairs_fit es cs fits in
      let before : All HasPlace (zip c.entries c.counts) = subst (All HasPlace) (sym kept) (kept_fit (take c.at es) (take c.at cs) (subst (All HasPlace) (sym (zip_take c.at es cs)) (All-take HasPlace c.at (zip es cs) all))) in
      let next : All HasPlace (next_kept es cs c) =
      kept_fit (take 64 (drop c.at es)) (take 64 (drop c.at cs))
      (subst (All HasPlace) (sym (zip_take 64 (drop c.at es) (drop c.at cs)))
      (All-take HasPlace 64 (zip (drop c.at es) (drop c.at cs)) (subst (All HasPlace) (sym (zip_drop c.at es cs)) (All-drop HasPlace c.at (zip es cs) all)))) in
      let entries = length-append c.entries (map (λ (e : Entry × ℕ). e.0) (next_kept es cs c)) in
      let counts = length-append c.counts (map (λ (e : Entry × ℕ). e.1) (next_kept es cs c)) in
      let firsts = length-map (next_kept es cs c) (λ (e : Entry × ℕ). e.0) in
      let seconds = length-map (next_kept es cs c) (λ (e : Entry × ℕ). e.1) in
      fit_pairs (worked es cs c).entries (worked es cs c).counts (omega (arith, entries, counts, firsts, seconds, each))
      (subst (All HasPlace) (sym (zip_behind c.entries c.counts (next_kept es cs c) each)) (All-append HasPlace (zip c.entries c.counts) (next_kept es cs c) before next))

-- ---- the step

module _ (s t : Space) (counts : List ℕ) (fresh : List Extent) (c : CondPart) (outcome : Condensed) (m : Condenses s counts fresh c outcome t) where
  abbrev was : List Entry
  was = (part_of s.parts.devs c.dev).entries

  pub recasts : LeadsAsBefore s t → ((u : ℕ) → is_fresh s.parts.devs c.dev u ≡ false → has_unit fresh u ≡ false)
      → ((ways : Entry → ℕ) → Fits ways was (part_of s.parts.devs c.dev).counts (part_of s.parts.devs c.dev).fresh → Fits ways was counts fresh)
      → zip c.entries c.counts ≡ condensed (take c.at was) (take c.at counts) → length c.counts ≡ length c.entries → Recasts s t
  recasts leads marks fits kept each =
      both_ways ((worked was counts c).at == length was) m
      (λ done. record {
        dev = c.dev;
        entries = (worked was counts c).entries;
        counts = (worked was counts c).counts;
        fresh = fresh;
        cond = None;
        is = done.1;
        leads = leads;
        marks = marks;
        fits = λ ways old. fits_worked ways fresh was counts c kept each (fits ways old);
      })
      (λ more. record {
        dev = c.dev;
        entries = was;
        counts = counts;
        fresh = fresh;
        cond = Some (worked was counts c);
        is = more.1;
        leads = leads;
        marks = marks;
        fits = fits;
      })

  -- the mapping is the old one up to the last step
  pub maps_stay : is_done outcome ≡ false → (e : ℕ) → (part_of t.parts.devs e).entries ≡ (part_of s.parts.devs e).entries
  maps_stay not e =
      both_ways ((worked was counts c).at == length was) m
      (λ done. let no_way : false ≡ true = sym not ∙ ap is_done done.0 in absurd cc)
      (λ more. (elim (cases_eq e c.dev) [
        | inl here ↦ subst (λ (k : ℕ). (part_of t.parts.devs k).entries ≡ (part_of s.parts.devs k).entries) (sym here) more.1.entries_are
        | inr other ↦ (more.1.elsewhere.others e other).entries
      ]))

  pub roles_stay : (d u : ℕ) → role_at t d u ≡ role_at s d u
  roles_stay d u = both_ways ((worked was counts c).at == length was) m (λ done. done.1.roles d u) (λ more. more.1.roles d u)
