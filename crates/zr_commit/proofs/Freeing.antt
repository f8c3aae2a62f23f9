-- Blocks that are given back one after the other.
use Rattle.std.proofs.Common.{◌≡◌, ◌∙◌, ◌+◌, ◌<◌, ◌≤◌, ℕ, List, [], ◌∷◌, length, take, drop, get_or, sym, ap, arith}
use Rattle.std.specs.List.{sum_by}
use Rattle.std.proofs.lemmas.List.{take-append-drop}
use Rattle.std.proofs.lemmas.List.Sums.{sum_by-append}
use Rattle.zr_bptr.specs.declared.Bptr.{Bptr}
use Rattle.zr_store.specs.Store.{Stored, Swaps, AreStored, one_at}
use Rattle.zr_root.proofs.Puts.{taken}

take_sum : (weight : Bptr → ℕ) (xs : List Bptr) (i : ℕ) (d : Bptr) → i < length xs → sum_by weight (take (i + 1) xs) ≡ sum_by weight (take i xs) + sum_by weight (get_or xs i d ∷ [])
take_sum weight xs i d lt = ap (sum_by weight) (taken d xs i lt) ∙ sum_by-append weight (take i xs) (get_or xs i d ∷ [])

take_most : (weight : Bptr → ℕ) (xs : List Bptr) (i : ℕ) → sum_by weight (take i xs) ≤ sum_by weight xs
take_most weight xs i =
    let sum = ap (sum_by weight) (sym (take-append-drop i xs)) ∙ sum_by-append weight (take i xs) (drop i xs) in
    omega (arith, sum)

-- the next block is still stored
pub freed_stored : (xs : List Bptr) (i : ℕ) (d : Bptr) (s n : Stored) → i < length xs → Swaps s n (take i xs) [] → AreStored xs s → AreStored (get_or xs i d ∷ []) n
freed_stored xs i d s n lt before held weight =
    let e = before.stored weight in
    let h = held weight in
    let t = take_sum weight xs i d lt in
    let m = take_most weight xs (i + 1) in
    omega (arith, e, h, t, m)

pub freed_more : (xs : List Bptr) (i : ℕ) (d : Bptr) (s n m : Stored) → i < length xs → Swaps s n (take i xs) [] → Swaps n m (get_or xs i d ∷ []) [] → Swaps s m (take (i + 1) xs) []
freed_more xs i d s n m lt before one = record {
  stored = λ weight. let e = before.stored weight in let f = one.stored weight in let t = take_sum weight xs i d lt in omega (arith, e, f, t);
  kept = λ b free stored.
      let e = before.stored (one_at b.at) in
      let t = take_sum (one_at b.at) xs i d lt in
      one.kept b (omega (arith, t, free)) (omega (arith, e, t, free, stored)) ∙ before.kept b (omega (arith, t, free)) stored;
}
