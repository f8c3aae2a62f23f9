-- What the slots show, with one slot more.
use Rattle.std.proofs.Common.{◌≡◌, inl, inr, ℕ, zero, suc, ◌+◌, ◌<◌, List, [], ◌∷◌, ◌++◌, length, get_or, map, None, refl, sym, ◌∙◌, ap, subst, arith}
use Rattle.std.specs.Prelude.{slice_index}
use Rattle.std.proofs.lemmas.Bool.{cases_lt}
use Rattle.std.proofs.lemmas.List.{length-append}
use Rattle.zr_shelf.specs.Disks.{disk}
use Rattle.zr_label.specs.declared.root.Seen.{Seen}
use Rattle.zr_scan.specs.Scan.{Shows}
use Rattle.zr_image.specs.Current.{seen_at, ShowsAll}

abbrev nothing : Seen
nothing = record { label = None; ubers = []; newer = None }

pub length_pushed : (xs new : List Seen) (s : Seen) → new ≡ xs ++ s ∷ [] → length new ≡ length xs + 1
length_pushed xs new s is = ap (λ (l : List Seen). length l) is ∙ omega (arith, length-append xs (s ∷ []))

before_push : (xs : List Seen) (s : Seen) (k : ℕ) → k < length xs → get_or (xs ++ s ∷ []) k nothing ≡ get_or xs k nothing
before_push [] s k lt = absurd (omega arith)
before_push (x ∷ xs) s zero lt = refl
before_push (x ∷ xs) s (suc k) lt = before_push xs s k (omega arith)

at_push : (xs : List Seen) (s : Seen) → get_or (xs ++ s ∷ []) (length xs) nothing ≡ s
at_push [] s = refl
at_push (x ∷ xs) s = at_push xs s

pub each_pushed : (P : ℕ → Seen → Type 0) (xs new : List Seen) (i : ℕ) (s : Seen) → new ≡ xs ++ s ∷ [] → length xs ≡ i → ((k : ℕ) → k < i → P k (seen_at xs k)) → P i s → (k : ℕ) → k < i + 1 → P k (seen_at new k)
each_pushed P xs new i s is long before here k lt = subst (λ (l : List Seen). P k (seen_at l k)) (sym is) (elim (cases_lt k i) [
  | inl small ↦ subst (P k) (sym (before_push xs s k (omega (arith, long, small)))) (before k small)
  | inr large ↦
      let same : i ≡ k = omega arith in
      let at : length xs ≡ k = omega (arith, long, same) in
      let read : seen_at (xs ++ s ∷ []) k ≡ s = subst (λ (j : ℕ). seen_at (xs ++ s ∷ []) j ≡ s) at (at_push xs s) in
      subst (P k) (sym read) (subst (λ (j : ℕ). P j s) same here)
])

-- slot by slot
pub all_shown : (sizes : List ℕ) (disks : List (List ℕ)) (seen : List Seen) → map length disks ≡ sizes → length seen ≡ length sizes → ((k : ℕ) → k < length seen → Shows (slice_index sizes k) (disk disks k) (seen_at seen k)) → ShowsAll disks seen
all_shown sizes [] [] is long h = tt
all_shown sizes [] (s ∷ seen) is long h = let none = ap (λ (l : List ℕ). length l) is in absurd (omega (arith, none, long))
all_shown [] (d ∷ disks) seen is long h = absurd cc
all_shown (size ∷ sizes) (d ∷ disks) [] is long h = absurd (omega (arith, long))
all_shown (size ∷ sizes) (d ∷ disks) (s ∷ seen) is long h =
    let first : length d ≡ size = cc in
    let rest : map length disks ≡ sizes = cc in
    (subst (λ (n : ℕ). Shows n d s) (sym first) (h 0 (omega arith)), all_shown sizes disks seen rest (omega (arith, long)) (λ k lt. h (suc k) (omega arith)))
