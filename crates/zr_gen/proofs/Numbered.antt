-- One more of the lines that name the objects in order.
use Rattle.std.proofs.Common.{◌≡◌, ℕ, ◌+◌, List, [], ◌∷◌, ◌++◌, map, append_assoc, arith}
use Rattle.std.specs.List.{range_with_len}
use Rattle.std.proofs.lemmas.List.FromFn.{map-range_with_len_more}

pub numbered-more : {X : Type 0} (f : ℕ → X) (n : ℕ) (start xs ys : List X) (x : X) → xs ≡ start ++ map f (range_with_len 0 n) → ys ≡ xs ++ x ∷ [] → x ≡ f n → ys ≡ start ++ map f (range_with_len 0 (n + 1))
numbered-more f n start xs ys x h p e =
    let more : map f (range_with_len 0 (n + 1)) ≡ map f (range_with_len 0 n) ++ f n ∷ [] = map-range_with_len_more f 0 n n (omega arith) in
    let joined : (start ++ map f (range_with_len 0 n)) ++ f n ∷ [] ≡ start ++ (map f (range_with_len 0 n) ++ f n ∷ []) = append_assoc start (map f (range_with_len 0 n)) (f n ∷ []) in
    cc
