-- Blocks one after another, and how many of them are new.
use Rattle.std.proofs.Common.{◌≡◌, ◌∙◌, ◌+◌, ◌-◌, ◌≤◌, ℕ, zero, suc, List, [], ◌∷◌, ◌++◌, ap, arith}
use Rattle.std.specs.Prelude.{is_some, if◌then◌else◌}
use Rattle.std.specs.List.{range_with_len}
use Rattle.std.proofs.lemmas.List.Sums.{sum_by-append, sum_by-cons}
use Rattle.zr_txg.specs.Changes.{Changes, change_in}
use Rattle.zr_change.specs.Changes.{new_in}

pub range_more : (a n : ℕ) → range_with_len a (suc n) ≡ range_with_len a n ++ (a + n) ∷ []
range_more a zero = ap (λ (k : ℕ). k ∷ []) (omega arith)
range_more a (suc n) = ap (λ (ks : List ℕ). a ∷ ks) (range_more (a + 1) n ∙ ap (λ (k : ℕ). range_with_len (a + 1) n ++ k ∷ []) (omega arith))

pub range_up : (first index : ℕ) → first ≤ index → range_with_len first (index + 1 - first) ≡ range_with_len first (index - first) ++ index ∷ []
range_up first index le =
    let n = index - first in
    let up : index + 1 - first ≡ suc n = omega (arith, le) in
    let at : first + n ≡ index = omega (arith, le) in
    ap (range_with_len first) up ∙ range_more first n ∙ ap (λ (k : ℕ). range_with_len first n ++ k ∷ []) at

-- one block more, which is new or not
pub new_more : (g : Changes) (id first index : ℕ) → first ≤ index → new_in g id (range_with_len first (index + 1 - first)) ≡ new_in g id (range_with_len first (index - first)) + (if is_some (change_in g id index) then 0 else 1)
new_more g id first index le =
    let weight : ℕ → ℕ = λ (k : ℕ). if is_some (change_in g id k) then 0 else 1 in
    let whole = ap (new_in g id) (range_up first index le) in
    let parts = sum_by-append weight (range_with_len first (index - first)) (index ∷ []) in
    let last = sum_by-cons weight index [] in
    omega (arith, whole, parts, last)
