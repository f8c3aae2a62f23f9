-- What some entries more do to what is kept.
use Rattle.std.proofs.Common.{◌≡◌, ℕ, zero, suc, ◌+◌, ◌≤◌, min, Bool, true, false, cond, List, [], ◌∷◌, ◌++◌, map, length, length-append, take, drop, refl, sym, ◌∙◌, ap, ap₂, arith}
use Rattle.std.proofs.lemmas.List.{map-append, length-map}
use Rattle.std.specs.List.{zip}
use Rattle.zr_base.specs.declared.space.Entry.{Entry}
use Rattle.zr_base.specs.declared.space.CondPart.{CondPart}
use Rattle.zr_rules.specs.Condense.{condensed, is_used}
use Rattle.zr_rules.specs.Steps.{next_kept, worked}
use Rattle.zr_condense.specs.Condensing.{HasWorked}
use Rattle.zr_condense.proofs.Leading.{entries_in, zip_entries}

abbrev pub counts_in : List (Entry × ℕ) → List ℕ
counts_in ps = map (λ (p : Entry × ℕ). p.1) ps

pub zip_counts : (es : List Entry) (cs : List ℕ) → length cs ≡ length es → counts_in (zip es cs) ≡ cs
zip_counts [] [] len = refl
zip_counts [] (c ∷ cs) len = absurd (omega (arith, len))
zip_counts (e ∷ es) [] len = absurd (omega (arith, len))
zip_counts (e ∷ es) (c ∷ cs) len = ap (λ xs. c ∷ xs) (zip_counts es cs (omega (arith, len)))

-- no more are taken than there are
take_min : {X : Type 0} (n m : ℕ) (xs : List X) → m ≡ min n (length xs) → take m xs ≡ take n xs
take_min zero zero [] is = refl
take_min zero (suc m) [] is = refl
take_min (suc n) zero [] is = refl
take_min (suc n) (suc m) [] is = refl
take_min zero zero (x ∷ xs) is = refl
take_min zero (suc m) (x ∷ xs) is = absurd (omega (arith, is))
take_min (suc n) zero (x ∷ xs) is = absurd (omega (arith, is))
take_min (suc n) (suc m) (x ∷ xs) is = ap (λ l. x ∷ l) (take_min n m xs (omega (arith, is)))

cond_append : {X : Type 0} (b : Bool) (x : X) (xs ys : List X) → cond b (x ∷ (xs ++ ys)) (xs ++ ys) ≡ cond b (x ∷ xs) xs ++ ys
cond_append true x xs ys = refl
cond_append false x xs ys = refl

-- those kept of some entries more stand behind the others
pub condensed_next : (i n m : ℕ) (es : List Entry) (cs : List ℕ) → m ≡ min (i + n) (length es) → length cs ≡ length es
    → condensed (take m es) (take m cs) ≡ condensed (take i es) (take i cs) ++ condensed (take n (drop i es)) (take n (drop i cs))
condensed_next zero n m [] [] is len = ap₂ condensed (take_min n m [] (omega (arith, is))) (take_min n m [] (omega (arith, is)))
condensed_next (suc i) n m [] [] is len = ap₂ condensed (none m) (none_counts m) ∙ sym (ap₂ condensed (none n) (none_counts n))
  where
    none : (k : ℕ) → take {A = Entry} k [] ≡ []
    none zero = refl
    none (suc k) = refl

    none_counts : (k : ℕ) → take {A = ℕ} k [] ≡ []
    none_counts zero = refl
    none_counts (suc k) = refl
condensed_next i n m [] (c ∷ cs) is len = absurd (omega (arith, len))
condensed_next i n m (e ∷ es) [] is len = absurd (omega (arith, len))
condensed_next zero n m (e ∷ es) (c ∷ cs) is len = ap₂ condensed (take_min n m (e ∷ es) (omega (arith, is))) (take_min n m (c ∷ cs) (omega (arith, is, len)))
condensed_next (suc i) n zero (e ∷ es) (c ∷ cs) is len = absurd (omega (arith, is))
condensed_next (suc i) n (suc m) (e ∷ es) (c ∷ cs) is len =
    let more = condensed_next i n m es cs (omega (arith, is)) (omega (arith, len)) in
    ap (λ (list : List (Entry × ℕ)). cond (is_used (e, c)) ((e, c) ∷ list) list) more
    ∙ cond_append (is_used (e, c)) (e, c) (condensed (take i es) (take i cs)) (condensed (take n (drop i es)) (take n (drop i cs)))

module _ (es : List Entry) (cs : List ℕ) (old new : CondPart) (a : HasWorked es cs old) (b : HasWorked es cs new) (len : length cs ≡ length es) (at : new.at ≡ min (old.at + 64) (length es)) where
  zipped : zip new.entries new.counts ≡ zip old.entries old.counts ++ next_kept es cs old
  zipped = b.kept ∙ (condensed_next old.at 64 new.at es cs at len ∙ ap (λ (ps : List (Entry × ℕ)). ps ++ next_kept es cs old) (sym a.kept))

  entries : new.entries ≡ old.entries ++ map (λ (e : Entry × ℕ). e.0) (next_kept es cs old)
  entries =
      sym (zip_entries new.entries new.counts b.each)
      ∙ (ap entries_in zipped
      ∙ (map-append (λ (p : Entry × ℕ). p.0) (zip old.entries old.counts) (next_kept es cs old)
      ∙ ap (λ (xs : List Entry). xs ++ entries_in (next_kept es cs old)) (zip_entries old.entries old.counts a.each)))

  counts : new.counts ≡ old.counts ++ map (λ (e : Entry × ℕ). e.1) (next_kept es cs old)
  counts =
      sym (zip_counts new.entries new.counts b.each)
      ∙ (ap counts_in zipped
      ∙ (map-append (λ (p : Entry × ℕ). p.1) (zip old.entries old.counts) (next_kept es cs old)
      ∙ ap (λ (xs : List ℕ). xs ++ counts_in (next_kept es cs old)) (zip_counts old.entries old.counts a.each)))

  -- what is worked through with the next 64 entries
  pub next_worked : new.dev ≡ old.dev → new ≡ worked es cs old
  next_worked dev = make new.dev new.at new.entries new.counts dev refl refl refl
    where
      make : (d i : ℕ) (xs : List Entry) (ns : List ℕ) → d ≡ old.dev → i ≡ new.at → xs ≡ new.entries → ns ≡ new.counts → record { dev = d; at = i; entries = xs; counts = ns } ≡ worked es cs old
      make d i xs ns sd si sx sn = rw (sd, si ∙ at, sx ∙ entries, sn ∙ counts) refl

  -- as many more are kept
  pub next_count : (kept : ℕ) → length new.entries ≡ length old.entries + kept → kept ≡ length (next_kept es cs old)
  next_count kept is =
      let more = ap (λ (xs : List Entry). length xs) entries in
      let both = length-append old.entries (map (λ (e : Entry × ℕ). e.0) (next_kept es cs old)) in
      let same = length-map (next_kept es cs old) (λ (e : Entry × ℕ). e.0) in
      omega (arith, is, more, both, same)
