-- Runs of changes below one block, one after another.
use Rattle.std.proofs.Common.{◌≡◌, ◌≢◌, ◌+◌, ◌-◌, ◌/◌, ◌^◌, ◌<◌, ◌≤◌, ◌⊎◌, inl, inr, ℕ, zero, suc, List, [], ◌∷◌, ◌++◌, length, take, drop, get_or, get_or-drop, length-drop, length-append, sym, ◌∙◌, ap, subst, arith}
use Rattle.std.specs.Prelude.{All}
use Rattle.std.specs.List.{AllByRecursion}
use Rattle.std.proofs.Math.Seq.{take-add, get_or-append_seam}
use Rattle.std.proofs.lemmas.Bool.{cases_lt}
use Rattle.std.proofs.lemmas.List.{take_all, length-take, get_or-take}
use Rattle.std.proofs.lemmas.List.Elements.{All-head, All-tail, All-nil, All-cons, All-append}
use Rattle.zr_bptr.specs.declared.Ptr.{Ptr}
use Rattle.zr_bptr.specs.declared.Ptr.TheVariants.{Hole}
use Rattle.zr_tree.specs.Trees.{AllAt, AreRows, EndsInUnit, IsOneUnit, Rises}
use Rattle.zr_tree.proofs.Levels.{div_up}

pub rest_is : (changes : List (ℕ × Ptr)) (from : ℕ) → take (length changes - from) (drop from changes) ≡ drop from changes
rest_is changes from = take_all (length changes - from) (drop from changes) (omega (arith, length-drop from changes))

pub rest_at : (changes : List (ℕ × Ptr)) (from k : ℕ) (d : ℕ × Ptr) → get_or (take (length changes - from) (drop from changes)) k d ≡ get_or changes (from + k) d
rest_at changes from k d = ap (λ (xs : List (ℕ × Ptr)). get_or xs k d) (rest_is changes from) ∙ get_or-drop from changes k d

pub first_at : (changes : List (ℕ × Ptr)) (from : ℕ) (d : ℕ × Ptr) → get_or (take (length changes - from) (drop from changes)) 0 d ≡ get_or changes from d
first_at changes from d = rest_at changes from 0 d ∙ ap (λ (k : ℕ). get_or changes k d) (omega arith)

pub rest_long : (changes : List (ℕ × Ptr)) (from : ℕ) → length (take (length changes - from) (drop from changes)) ≡ length changes - from
rest_long changes from = ap (λ (xs : List (ℕ × Ptr)). length xs) (rest_is changes from) ∙ length-drop from changes

rises_first : (n : ℕ) (xs : List (ℕ × Ptr)) (k : ℕ) (d : ℕ × Ptr) → AllByRecursion (λ (later : ℕ × Ptr). n < later.0) xs → k < length xs → n < (get_or xs k d).0
rises_first n [] k d above lt = absurd (omega arith)
rises_first n (x ∷ xs) zero d above lt = above.0
rises_first n (x ∷ xs) (suc k) d above lt = rises_first n xs k d above.1 (omega (arith, lt))

pub rises_at : (xs : List (ℕ × Ptr)) (j k : ℕ) (d : ℕ × Ptr) → Rises xs → j < k → k < length xs → (get_or xs j d).0 < (get_or xs k d).0
rises_at [] j k d rises less lt = absurd (omega arith)
rises_at (x ∷ xs) j zero d rises less lt = absurd (omega arith)
rises_at (x ∷ xs) zero (suc k) d rises less lt = rises_first x.0 xs k d rises.0 (omega (arith, lt))
rises_at (x ∷ xs) (suc j) (suc k) d rises less lt = rises_at xs j k d rises.1 (omega (arith, less)) (omega (arith, lt))

pub rises_more : (row : List (ℕ × Ptr)) (x : ℕ × Ptr) → Rises row → All (λ change. change.0 < x.0) row → Rises (row ++ x ∷ [])
rises_more [] x rises below = (tt, tt)
rises_more (y ∷ row) x rises below = (above row rises.0, rises_more row x rises.1 (All-tail (λ (change : ℕ × Ptr). change.0 < x.0) y row below))
  where
    above : (ys : List (ℕ × Ptr)) → AllByRecursion (λ (later : ℕ × Ptr). y.0 < later.0) ys → AllByRecursion (λ (later : ℕ × Ptr). y.0 < later.0) (ys ++ x ∷ [])
    above [] h = (All-head (λ (change : ℕ × Ptr). change.0 < x.0) y row below, tt)
    above (z ∷ zs) h = (h.0, above zs h.1)

-- the next run lies further on
pub next_place : (changes : List (ℕ × Ptr)) (from n place : ℕ) → Rises changes → 0 < n → from + n < length changes → place ≡ (get_or changes from (0, Hole)).0 / 32 → (get_or changes (from + n) (0, Hole)).0 / 32 ≢ place → place < (get_or changes (from + n) (0, Hole)).0 / 32
next_place changes from n place rises some lt place_is ne =
    let up = rises_at changes from (from + n) (0, Hole) rises (omega (arith, some)) lt in
    let le : (get_or changes from (0, Hole)).0 / 32 ≤ (get_or changes (from + n) (0, Hole)).0 / 32 = omega (arith, up) in
    omega (arith, le, place_is, ne)

below_more : (f : ℕ × Ptr → ℕ) (xs : List (ℕ × Ptr)) (low high : ℕ) → low ≤ high → All (λ change. f change < low) xs → All (λ change. f change < high) xs
below_more f xs low high le below k d lt = let h = below k d lt in omega (arith, h, le)

pub row_more : (row : List (ℕ × Ptr)) (place next : ℕ) (p : Ptr) → place < next → All (λ change. change.0 < place) row → All (λ change. change.0 < next) (row ++ (place, p) ∷ [])
row_more row place next p lt below =
    All-append (λ (change : ℕ × Ptr). change.0 < next) row ((place, p) ∷ []) (below_more (λ (change : ℕ × Ptr). change.0) row place next (omega (arith, lt)) below)
    (All-cons (λ (change : ℕ × Ptr). change.0 < next) (place, p) [] lt (All-nil (λ (change : ℕ × Ptr). change.0 < next)))

pub done_more : (changes : List (ℕ × Ptr)) (from n place next : ℕ) → place < next → AllAt 1 place (take n (drop from changes)) → All (λ change. change.0 / 32 < place) (take from changes) → All (λ change. change.0 / 32 < next) (take (from + n) changes)
done_more changes from n place next lt at below =
    subst (All (λ (change : ℕ × Ptr). change.0 / 32 < next)) (sym (take-add from n changes))
    (All-append (λ (change : ℕ × Ptr). change.0 / 32 < next) (take from changes) (take n (drop from changes)) (below_more (λ (change : ℕ × Ptr). change.0 / 32) (take from changes) place next (omega (arith, lt)) below)
    (λ k d l. let e = at k d l in omega (arith, e, lt)))

-- the last run ends as the changes do
pub ends_here : (changes : List (ℕ × Ptr)) (from n : ℕ) → from + n ≡ length changes → EndsInUnit changes → EndsInUnit (take n (drop from changes))
ends_here changes from n end ends k d size =
    let long = length-take n (drop from changes) in
    let more = length-drop from changes in
    let at : get_or (take n (drop from changes)) k d ≡ get_or changes (from + k) d = get_or-take n (drop from changes) k d (omega (arith, size, long)) ∙ get_or-drop from changes k d in
    subst (λ (x : ℕ × Ptr). IsOneUnit x.1) (sym at) (ends (from + k) d (omega (arith, size, long, more, end)))

pub ends_more : (row : List (ℕ × Ptr)) (x : ℕ × Ptr) → IsOneUnit x.1 → EndsInUnit (row ++ x ∷ [])
ends_more row x unit k d size =
    let long = length-append row (x ∷ []) in
    let k_is : length row ≡ k = omega (arith, size, long) in
    subst (λ (y : ℕ × Ptr). IsOneUnit y.1) (sym (ap (λ (j : ℕ). get_or (row ++ x ∷ []) j d) (sym k_is) ∙ get_or-append_seam row x [] d)) unit

pub room_more : (row : List (ℕ × Ptr)) (level place index : ℕ) (p : Ptr) → place ≡ index / 32 → index / 32 ^ suc level ≡ 0 → AllAt level 0 row → AllAt level 0 (row ++ (place, p) ∷ [])
room_more row level place index p place_is here at =
    All-append (λ (change : ℕ × Ptr). change.0 / 32 ^ level ≡ 0) row ((place, p) ∷ []) at
    (All-cons (λ (change : ℕ × Ptr). change.0 / 32 ^ level ≡ 0) (place, p) [] (ap (λ (m : ℕ). m / 32 ^ level) place_is ∙ sym (div_up index level) ∙ here) (All-nil (λ (change : ℕ × Ptr). change.0 / 32 ^ level ≡ 0)))

-- ---- how many blocks lie over the changes

-- changes below one block are one run
abbrev pub IsOneRun : List (ℕ × Ptr) → ℕ → ℕ → Type 0
IsOneRun changes from blocks = AllAt 1 0 changes → (blocks ≡ 0) ⊎ ((from ≡ length changes) × (blocks ≡ 1))

pub one_more_fits : (changes : List (ℕ × Ptr)) (from blocks most : ℕ) → from < length changes → blocks ≤ from → IsOneRun changes from blocks → AreRows most changes → blocks + 1 ≤ most
one_more_fits changes from blocks most lt few one (inl all) = omega (arith, lt, few, all)
one_more_fits changes from blocks most lt few one (inr single) = elim (one single.1) [
  | inl none ↦ let some = single.0 in omega (arith, none, some)
  | inr done ↦ absurd (let e = done.0 in omega (arith, e, lt))
]

pub all_fit : (changes : List (ℕ × Ptr)) (from blocks most : ℕ) → from ≤ length changes → blocks ≤ from → IsOneRun changes from blocks → AreRows most changes → blocks ≤ most
all_fit changes from blocks most le few one (inl all) = omega (arith, le, few, all)
all_fit changes from blocks most le few one (inr single) = elim (one single.1) [
  | inl none ↦ omega (arith, none)
  | inr done ↦ let e = done.1 in let some = single.0 in omega (arith, e, some)
]

pub run_ends : (changes : List (ℕ × Ptr)) (from n blocks : ℕ) → from + n ≤ length changes → from < length changes → IsOneRun changes from blocks → ((get_or changes from (0, Hole)).0 / 32 ≢ (get_or changes (from + n) (0, Hole)).0 / 32) ⊎ (length changes ≤ from + n) → IsOneRun changes (from + n) (blocks + 1)
run_ends changes from n blocks le lt one next at = elim (one at) [
  | inr done ↦ absurd (let e = done.0 in omega (arith, e, lt))
  | inl none ↦ elim next [
    | inr end ↦ inr (omega (arith, le, end), omega (arith, none))
    | inl ne ↦ elim (cases_lt (from + n) (length changes)) [
      | inl more ↦ absurd (ne (at from (0, Hole) lt ∙ sym (at (from + n) (0, Hole) more)))
      | inr end ↦ inr (omega (arith, le, end), omega (arith, none))
    ]
  ]
]
