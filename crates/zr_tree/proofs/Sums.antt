-- Sums over the pointers of a block.
use Rattle.std.proofs.Common.{◌≡◌, ◌≢◌, ◌+◌, ◌<◌, ◌≤◌, ℕ, zero, suc, List, [], ◌∷◌, length, set, refl, sym, ◌∙◌, ap, arith}
use Rattle.std.specs.List.{sum_by, flat_map}
use Rattle.std.proofs.lemmas.List.Sums.{sum_by-append, sum_by-cons}
use Rattle.zr_bptr.specs.declared.Bptr.{Bptr}
use Rattle.zr_bptr.specs.declared.Ptr.{Ptr}
use Rattle.zr_tree.specs.Trees.{slot}

-- a sum over lists that are joined is the sum of their sums
pub sum_flat : (weight : Bptr → ℕ) (f : Ptr → List Bptr) (ps : List Ptr) → sum_by weight (flat_map f ps) ≡ sum_by (λ p. sum_by weight (f p)) ps
sum_flat weight f [] = refl
sum_flat weight f (p ∷ ps) =
    sum_by-append weight (f p) (flat_map f ps) ∙ ap (λ n. sum_by weight (f p) + n) (sum_flat weight f ps) ∙ sym (sum_by-cons (λ q. sum_by weight (f q)) p ps)

pub sum_same : (f g : Ptr → ℕ) (ps : List Ptr) → ((j : ℕ) → j < length ps → g (slot ps j) ≡ f (slot ps j)) → sum_by g ps ≡ sum_by f ps
sum_same f g [] same = refl
sum_same f g (p ∷ ps) same =
    let first : g p ≡ f p = same 0 (omega arith) in
    let rest = sum_same f g ps (λ j lt. same (suc j) (omega arith)) in
    omega (arith, sum_by-cons g p ps, sum_by-cons f p ps, first, rest)

-- one pointer has changed, and the others weigh the same
pub sum_swap : (f g : Ptr → ℕ) (ps : List Ptr) (k : ℕ) (p : Ptr) → k < length ps → ((j : ℕ) → j < length ps → j ≢ k → g (slot ps j) ≡ f (slot ps j)) → sum_by g (set ps k p) + f (slot ps k) ≡ sum_by f ps + g p
sum_swap f g [] k p lt same = absurd (omega arith)
sum_swap f g (q ∷ ps) zero p lt same =
    let rest = sum_same f g ps (λ j l. same (suc j) (omega arith) (omega arith)) in
    omega (arith, sum_by-cons g p ps, sum_by-cons f q ps, rest)
sum_swap f g (q ∷ ps) (suc k) p lt same =
    let first : g q ≡ f q = same 0 (omega arith) (omega arith) in
    let rest = sum_swap f g ps k p (omega arith) (λ j l ne. same (suc j) (omega arith) (omega arith)) in
    omega (arith, sum_by-cons g q (set ps k p), sum_by-cons f q ps, first, rest)

pub one_of : (f : Ptr → ℕ) (ps : List Ptr) (k : ℕ) → k < length ps → f (slot ps k) ≤ sum_by f ps
one_of f [] k lt = absurd (omega arith)
one_of f (p ∷ ps) zero lt = omega (arith, sum_by-cons f p ps)
one_of f (p ∷ ps) (suc k) lt = let rest = one_of f ps k (omega arith) in omega (arith, sum_by-cons f p ps, rest)
