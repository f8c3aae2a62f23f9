-- Extents that go from a set in one array to pages and back.
use Rattle.std.proofs.Common.{◌≡◌, ℕ, zero, suc, ◌+◌, ◌-◌, ◌<◌, ◌≤◌, List, [], ◌∷◌, ◌++◌, length, take, drop, refl, sym, ap, subst, ◌∙◌, arith, append_assoc}
use Rattle.zr_base.specs.declared.space.Extent.{Extent}
use Rattle.zr_base.specs.Extents.{extent_at, IsMaximal, IsMaximalFrom}
use Rattle.zr_paged.specs.Pages.{all_of}
use Rattle.zr_paged.proofs.Joined.{lower, maximal_front}
use Rattle.zr_paged.proofs.Sides.{all_three}

-- the next extent stands above those before it
pub take_run : (low i : ℕ) (s page : List Extent) → IsMaximalFrom low (s ++ page) → i < length page → IsMaximalFrom low ((s ++ take i page) ++ extent_at page i ∷ [])
take_run low i [] [] m h = absurd (omega arith)
take_run low zero [] (p ∷ ps) m h = (m.0, m.1, m.2, tt)
take_run low (suc i) [] (p ∷ ps) m h = (m.0, m.1, m.2, take_run (p.start + p.len + 1) i [] ps m.3 (omega arith))
take_run low i (x ∷ s) page m h = (m.0, m.1, m.2, take_run (x.start + x.len + 1) i s page m.3 h)

drop_maximal : (low i : ℕ) (xs : List Extent) → IsMaximalFrom low xs → IsMaximal (drop i xs)
drop_maximal low zero xs m = lower 0 low xs (omega arith) m
drop_maximal low (suc i) [] m = tt
drop_maximal low (suc i) (x ∷ xs) m = drop_maximal (x.start + x.len + 1) i xs m.3

drop_cons : (i : ℕ) (xs : List Extent) → i < length xs → extent_at xs i ∷ drop (suc i) xs ≡ drop i xs
drop_cons i [] h = absurd (omega arith)
drop_cons zero (x ∷ xs) h = refl
drop_cons (suc i) (x ∷ xs) h = drop_cons i xs (omega arith)

-- an extent more from above
pub drop_more : (n : ℕ) (xs : List Extent) → 0 < n → n ≤ length xs → extent_at xs (n - 1) ∷ drop n xs ≡ drop (n - 1) xs
drop_more n xs some le =
    let same : suc (n - 1) ≡ n = omega (arith, some) in
    subst (λ (k : ℕ). extent_at xs (n - 1) ∷ drop k xs ≡ drop (n - 1) xs) same (drop_cons (n - 1) xs (omega (arith, some, le)))

pub drop_rises : (n : ℕ) (xs : List Extent) → IsMaximal xs → 0 < n → n ≤ length xs → IsMaximal (extent_at xs (n - 1) ∷ drop n xs)
drop_rises n xs m some le = subst (λ (l : List Extent). IsMaximal l) (sym (drop_more n xs some le)) (drop_maximal 0 (n - 1) xs m)

-- the extents of a node behind those of a set
pub one_by_one : (s : List Extent) (lows : List (List Extent)) (p : List Extent) (highs : List (List Extent)) → s ++ all_of (lows ++ p ∷ highs) ≡ ((s ++ all_of lows) ++ p) ++ all_of highs
one_by_one s lows p highs = ap (λ (l : List Extent). s ++ l) (all_three lows p highs) ∙ sym (append_assoc s (all_of lows) (p ++ all_of highs)) ∙ sym (append_assoc (s ++ all_of lows) p (all_of highs))

pub whole_rises : (s : List Extent) (lows : List (List Extent)) (p : List Extent) (highs : List (List Extent)) → IsMaximal (s ++ all_of (lows ++ p ∷ highs)) → IsMaximal (((s ++ all_of lows) ++ p) ++ all_of highs)
whole_rises s lows p highs m = subst (λ (l : List Extent). IsMaximal l) (one_by_one s lows p highs) m

pub page_rises : (s : List Extent) (lows : List (List Extent)) (p : List Extent) (highs : List (List Extent)) → IsMaximal (s ++ all_of (lows ++ p ∷ highs)) → IsMaximal ((s ++ all_of lows) ++ p)
page_rises s lows p highs m = maximal_front 0 ((s ++ all_of lows) ++ p) (all_of highs) (whole_rises s lows p highs m)

pub low_rises : (s : List Extent) (lows : List (List Extent)) (p : List Extent) (highs : List (List Extent)) → IsMaximal (s ++ all_of (lows ++ p ∷ highs)) → IsMaximal (s ++ all_of lows)
low_rises s lows p highs m = maximal_front 0 (s ++ all_of lows) p (page_rises s lows p highs m)

pub push_rises : (e : Extent) (lows : List (List Extent)) (p : List Extent) (highs : List (List Extent)) → lows ≡ [] → IsMaximal (e ∷ all_of (lows ++ p ∷ highs)) → IsMaximal (e ∷ p)
push_rises e lows p highs none m =
    maximal_front 0 (e ∷ p) (all_of highs) (subst (λ (ls : List (List Extent)). IsMaximal (e ∷ all_of (ls ++ p ∷ highs))) none m)
