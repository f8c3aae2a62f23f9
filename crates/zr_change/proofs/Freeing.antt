-- Blocks that are given back one after another.
use Rattle.std.proofs.Common.{◌≡◌, ◌∙◌, ◌+◌, ◌<◌, ◌≤◌, ℕ, suc, List, [], ◌∷◌, ◌++◌, length, take, drop, get_or, sym, ap, arith, take-suc, length-append}
use Rattle.std.specs.List.{sum_by, flat_map}
use Rattle.std.proofs.lemmas.List.{take-append-drop}
use Rattle.std.proofs.lemmas.List.Sums.{sum_by-append}
use Rattle.std.proofs.lemmas.Grind.{flat_map-append}
use Rattle.zr_bptr.specs.declared.Bptr.{Bptr}
use Rattle.zr_store.specs.Causes.{Account, Costs}
use Rattle.zr_store.proofs.Causes.{costs_then, costs_most}
use Rattle.zr_store.specs.Store.{Stored, Swaps, AreStored, one_at}

module _ {T : Type 0} (f : T → List Bptr) where
  take_sum : (weight : Bptr → ℕ) (xs : List T) (i : ℕ) (d : T) → i < length xs → sum_by weight (flat_map f (take (i + 1) xs)) ≡ sum_by weight (flat_map f (take i xs)) + sum_by weight (f (get_or xs i d))
  take_sum weight xs i d lt =
      let x = get_or xs i d in
      let up : i + 1 ≡ suc i = omega arith in
      let parts : take (i + 1) xs ≡ take i xs ++ x ∷ [] = ap (λ (n : ℕ). take n xs) up ∙ take-suc xs i d lt in
      let sum = ap (λ (ys : List T). sum_by weight (flat_map f ys)) parts ∙ ap (sum_by weight) (flat_map-append f (take i xs) (x ∷ [])) ∙ sum_by-append weight (flat_map f (take i xs)) (flat_map f (x ∷ [])) in
      omega (arith, sum, sum_by-append weight (f x) [])

  take_most : (weight : Bptr → ℕ) (xs : List T) (i : ℕ) → sum_by weight (flat_map f (take i xs)) ≤ sum_by weight (flat_map f xs)
  take_most weight xs i =
      let sum = ap (λ (ys : List T). sum_by weight (flat_map f ys)) (sym (take-append-drop i xs)) ∙ ap (sum_by weight) (flat_map-append f (take i xs) (drop i xs)) ∙ sum_by-append weight (flat_map f (take i xs)) (flat_map f (drop i xs)) in
      omega (arith, sum)

  -- the next ones are still stored
  pub freed_stored : (xs : List T) (i : ℕ) (d : T) (s n : Stored) → i < length xs → Swaps s n (flat_map f (take i xs)) [] → AreStored (flat_map f xs) s → AreStored (f (get_or xs i d)) n
  freed_stored xs i d s n lt before held weight =
      let e = before.stored weight in
      let h = held weight in
      let t = take_sum weight xs i d lt in
      let m = take_most weight xs (i + 1) in
      omega (arith, e, h, t, m)

  pub freed_more : (xs : List T) (i : ℕ) (d : T) (s n m : Stored) → i < length xs → Swaps s n (flat_map f (take i xs)) [] → Swaps n m (f (get_or xs i d)) [] → Swaps s m (flat_map f (take (i + 1) xs)) []
  freed_more xs i d s n m lt before one = record {
    stored = λ weight. let e = before.stored weight in let f = one.stored weight in let t = take_sum weight xs i d lt in omega (arith, e, f, t);
    kept = λ b free stored.
        let e = before.stored (one_at b.at) in
        let t = take_sum (one_at b.at) xs i d lt in
        one.kept b (omega (arith, t, free)) (omega (arith, e, t, free, stored)) ∙ before.kept b (omega (arith, t, free)) stored;
  }

  take_len : (xs : List T) (i : ℕ) (d : T) → i < length xs → length (flat_map f (take (i + 1) xs)) ≡ length (flat_map f (take i xs)) + length (f (get_or xs i d))
  take_len xs i d lt =
      let x = get_or xs i d in
      let up : i + 1 ≡ suc i = omega arith in
      let parts : take (i + 1) xs ≡ take i xs ++ x ∷ [] = ap (λ (n : ℕ). take n xs) up ∙ take-suc xs i d lt in
      let long = ap (λ (ys : List T). length (flat_map f ys)) parts ∙ ap (λ (bs : List Bptr). length bs) (flat_map-append f (take i xs) (x ∷ [])) ∙ length-append (flat_map f (take i xs)) (flat_map f (x ∷ [])) in
      omega (arith, long, length-append (f x) [])

  len_most : (xs : List T) (i : ℕ) → length (flat_map f (take i xs)) ≤ length (flat_map f xs)
  len_most xs i =
      let long = ap (λ (ys : List T). length (flat_map f ys)) (sym (take-append-drop i xs)) ∙ ap (λ (bs : List Bptr). length bs) (flat_map-append f (take i xs) (drop i xs)) ∙ length-append (flat_map f (take i xs)) (flat_map f (drop i xs)) in
      omega (arith, long)

  module _ {a b c : Account} (xs : List T) (i : ℕ) (d : T) (lt : i < length xs) (so_far : Costs 0 (length (flat_map f (take i xs))) a b) (one : Costs 0 (length (f (get_or xs i d))) b c) where
    pub freed_costs : Costs 0 (length (flat_map f (take (i + 1) xs))) a c
    freed_costs = costs_most 0 (length (flat_map f (take (i + 1) xs))) (omega arith) (omega (arith, take_len xs i d lt)) (costs_then so_far one)

    pub freed_all : Costs 0 (length (flat_map f xs)) a c
    freed_all = costs_most 0 (length (flat_map f xs)) (omega arith) (len_most xs (i + 1)) freed_costs
