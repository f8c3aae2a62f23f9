-- Leaves that are given back one after the other.
use Rattle.std.proofs.Common.{◌≡◌, ◌∙◌, ◌+◌, ◌<◌, ◌≤◌, ℕ, suc, List, [], ◌∷◌, ◌++◌, length, take, drop, get_or, sym, ap, arith, take-suc}
use Rattle.std.specs.List.{sum_by, flat_map}
use Rattle.std.proofs.lemmas.List.{take-append-drop}
use Rattle.std.proofs.lemmas.List.Sums.{sum_by-append}
use Rattle.std.proofs.lemmas.Grind.{flat_map-append}
use Rattle.zr_bptr.specs.declared.Bptr.{Bptr}
use Rattle.zr_bptr.specs.declared.Ptr.{Ptr}
use Rattle.zr_store.specs.Store.{Stored, Swaps, AreStored, one_at}
use Rattle.zr_tree.specs.Trees.{own}

one_own : (weight : Bptr → ℕ) (p : Ptr) → sum_by weight (flat_map own (p ∷ [])) ≡ sum_by weight (own p)
one_own weight p = omega (arith, sum_by-append weight (own p) [])

take_sum : (weight : Bptr → ℕ) (xs : List Ptr) (i : ℕ) (d : Ptr) → i < length xs → sum_by weight (flat_map own (take (i + 1) xs)) ≡ sum_by weight (flat_map own (take i xs)) + sum_by weight (own (get_or xs i d))
take_sum weight xs i d lt =
    let x = get_or xs i d in
    let up : i + 1 ≡ suc i = omega arith in
    let parts : take (i + 1) xs ≡ take i xs ++ x ∷ [] = ap (λ (n : ℕ). take n xs) up ∙ take-suc xs i d lt in
    let sum = ap (λ (ys : List Ptr). sum_by weight (flat_map own ys)) parts ∙ ap (sum_by weight) (flat_map-append own (take i xs) (x ∷ [])) ∙ sum_by-append weight (flat_map own (take i xs)) (flat_map own (x ∷ [])) in
    omega (arith, sum, one_own weight x)

take_most : (weight : Bptr → ℕ) (xs : List Ptr) (i : ℕ) → sum_by weight (flat_map own (take i xs)) ≤ sum_by weight (flat_map own xs)
take_most weight xs i =
    let sum = ap (λ (ys : List Ptr). sum_by weight (flat_map own ys)) (sym (take-append-drop i xs)) ∙ ap (sum_by weight) (flat_map-append own (take i xs) (drop i xs)) ∙ sum_by-append weight (flat_map own (take i xs)) (flat_map own (drop i xs)) in
    omega (arith, sum)

-- the next leaf is still stored
pub freed_stored : (xs : List Ptr) (i : ℕ) (d : Ptr) (s n : Stored) → i < length xs → Swaps s n (flat_map own (take i xs)) [] → AreStored (flat_map own xs) s → AreStored (own (get_or xs i d)) n
freed_stored xs i d s n lt before held weight =
    let e = before.stored weight in
    let h = held weight in
    let t = take_sum weight xs i d lt in
    let m = take_most weight xs (i + 1) in
    omega (arith, e, h, t, m)

pub freed_more : (xs : List Ptr) (i : ℕ) (d : Ptr) (s n m : Stored) → i < length xs → Swaps s n (flat_map own (take i xs)) [] → Swaps n m (own (get_or xs i d)) [] → Swaps s m (flat_map own (take (i + 1) xs)) []
freed_more xs i d s n m lt before one = record {
  stored = λ weight. let e = before.stored weight in let f = one.stored weight in let t = take_sum weight xs i d lt in omega (arith, e, f, t);
  kept = λ b free stored.
      let e = before.stored (one_at b.at) in
      let t = take_sum (one_at b.at) xs i d lt in
      one.kept b (omega (arith, t, free)) (omega (arith, e, t, free, stored)) ∙ before.kept b (omega (arith, t, free)) stored;
}
