-- Runs that are cut from maximal extents: they follow each other, have the units of the extents, and are told by them.
use Rattle.std.proofs.Common.{◌≡◌, ◌⊎◌, inl, inr, ℕ, ◌+◌, ◌<◌, ◌≤◌, List, [], ◌∷◌, ◌++◌, map, Bool, true, false, refl, sym, ap, subst, ◌∙◌, arith}
use Rattle.std.specs.Prelude.{nat_le, nat_lt, ◌&&◌, ◌||◌, if◌then◌else◌}
use Rattle.std.proofs.lemmas.Bool.Decides.{nat_tests}
use Rattle.zr_base.specs.declared.space.Extent.{Extent}
use Rattle.zr_base.specs.Extents.{in_extent, has_unit, unit_count, IsMaximalFrom}
use Rattle.zr_rules.specs.Logs.{taken_after, IsInTurn, IsCutFrom, AreCut}
use Rattle.zr_smap.specs.Cuts.{taken}

-- ---- runs in order

-- the runs are not empty, and none begins before the one before it ends
abbrev pub IsAscending : ℕ → List Extent → Type 0
IsAscending low [] = Unit {0}
IsAscending low (e ∷ es) = (low ≤ e.start) × (0 < e.len) × IsAscending (e.start + e.len) es

lower : (low high : ℕ) (rs : List Extent) → low ≤ high → IsAscending high rs → IsAscending low rs
lower low high [] le h = tt
lower low high (r ∷ rs) le h = (omega (arith, h.0), h.1, h.2)

inside : (e : Extent) (u : ℕ) → in_extent e u ≡ true → (e.start ≤ u) × (u < e.start + e.len)
inside e u h = (grind (arith, nat_tests, h), grind (arith, nat_tests, h))

not_true : (b : Bool) → (b ≡ true → ⊥) → b ≡ false
not_true true h = absurd (h refl)
not_true false h = refl

either : (b x : Bool) → (if b then true else x) ≡ true → (b ≡ true) ⊎ (x ≡ true)
either true x e = inl refl
either false x e = inr e

pub in_order : (low : ℕ) (rs : List Extent) (before : Bool) (u : ℕ) → IsAscending low rs → (before ≡ true → u < low) → IsInTurn before (map taken rs) u
in_order low [] before u h out = tt
in_order low (r ∷ rs) before u h out = (
  λ there. not_true before (λ had. let a = (inside r u there).0 in let b = out had in omega (arith, h.0)),
  in_order (r.start + r.len) rs (if in_extent r u then true else before) u h.2
      (λ now. elim (either (in_extent r u) before now) [ inl here ↦ (inside r u here).1 | inr had ↦ let b = out had in omega (arith, h.0) ]),
)

or_false : (b : Bool) → b ≡ (b || false)
or_false true = refl
or_false false = refl

regroup : (b x y : Bool) → ((if b then true else x) || y) ≡ (x || (b || y))
regroup true true y = refl
regroup true false y = refl
regroup false x y = refl

taken_from : (rs : List Extent) (before : Bool) (u : ℕ) → taken_after before (map taken rs) u ≡ (before || has_unit rs u)
taken_from [] before u = or_false before
taken_from (r ∷ rs) before u = taken_from rs (if in_extent r u then true else before) u ∙ regroup (in_extent r u) before (has_unit rs u)

pub taken_is : (rs : List Extent) (u : ℕ) → taken_after false (map taken rs) u ≡ has_unit rs u
taken_is rs u = taken_from rs false u

-- ---- the units of a cut

none_there : (from u : ℕ) → false ≡ (nat_le from u && nat_lt u (from + 0))
none_there from u = grind (arith, nat_tests)

joined_units : (a l c u : ℕ) → ((nat_le a u && nat_lt u (a + l)) || (nat_le (a + l) u && nat_lt u (a + l + c))) ≡ (nat_le a u && nat_lt u (a + (l + c)))
joined_units a l c u = grind (arith, nat_tests)

last_units : (a l u : ℕ) → ((nat_le a u && nat_lt u (a + l)) || false) ≡ (nat_le a u && nat_lt u (a + (l + 0)))
last_units a l u = grind (arith, nat_tests)

cut_units : (most from : ℕ) (rs : List Extent) (u : ℕ) → IsCutFrom most from rs → has_unit rs u ≡ (nat_le from u && nat_lt u (from + unit_count rs))
cut_units most from [] u h = none_there from u
cut_units most from (e ∷ []) u h = subst (λ (n : ℕ). (in_extent e u || false) ≡ (nat_le n u && nat_lt u (n + (e.len + 0)))) h.0 (last_units e.start e.len u)
cut_units most from (e ∷ f ∷ rs) u h =
    let rest = cut_units most (from + most) (f ∷ rs) u h.2 in
    let at : from + most ≡ e.start + e.len = omega (arith, h.0, h.1) in
    ap (λ (b : Bool). in_extent e u || b) rest
    ∙ (ap (λ (n : ℕ). in_extent e u || (nat_le n u && nat_lt u (n + unit_count (f ∷ rs)))) at
    ∙ (joined_units e.start e.len (unit_count (f ∷ rs)) u ∙ ap (λ (n : ℕ). nat_le n u && nat_lt u (n + (e.len + unit_count (f ∷ rs)))) h.0))

or_assoc : (a b c : Bool) → (a || (b || c)) ≡ ((a || b) || c)
or_assoc true b c = refl
or_assoc false b c = refl

has_both : (xs ys : List Extent) (u : ℕ) → has_unit (xs ++ ys) u ≡ (has_unit xs u || has_unit ys u)
has_both [] ys u = refl
has_both (x ∷ xs) ys u = ap (λ (b : Bool). in_extent x u || b) (has_both xs ys u) ∙ or_assoc (in_extent x u) (has_unit xs u) (has_unit ys u)

pub all_units : (most : ℕ) (es rs : List Extent) (u : ℕ) → AreCut most es rs → has_unit rs u ≡ has_unit es u
all_units most [] rs u h = ap (λ (xs : List Extent). has_unit xs u) h
all_units most (e ∷ es) rs u (front, rest, joined, here, later) =
    ap (λ (xs : List Extent). has_unit xs u) joined
    ∙ (has_both front rest u
    ∙ (ap (λ (b : Bool). b || has_unit rest u) (cut_units most e.start front u here.cut ∙ ap (λ (n : ℕ). nat_le e.start u && nat_lt u (e.start + n)) here.count)
    ∙ ap (λ (b : Bool). in_extent e u || b) (all_units most es rest u later)))

-- ---- the order of a cut

cut_ascending : (most from : ℕ) (rs rest : List Extent) → 0 < most → IsCutFrom most from rs → IsAscending (from + unit_count rs) rest → IsAscending from (rs ++ rest)
cut_ascending most from [] rest some h later = lower from (from + 0) rest (omega arith) later
cut_ascending most from (e ∷ []) rest some h later = (omega (arith, h.0), h.1, lower (e.start + e.len) (from + (e.len + 0)) rest (omega (arith, h.0)) later)
cut_ascending most from (e ∷ f ∷ rs) rest some h later =
    let at : from + most ≡ e.start + e.len = omega (arith, h.0, h.1) in
    let more : IsAscending (from + most) ((f ∷ rs) ++ rest) =
    cut_ascending most (from + most) (f ∷ rs) rest some h.2 (lower (from + most + unit_count (f ∷ rs)) (from + (e.len + unit_count (f ∷ rs))) rest (omega (arith, h.1)) later) in
    (omega (arith, h.0), omega (arith, h.1), subst (λ (n : ℕ). IsAscending n ((f ∷ rs) ++ rest)) at more)

pub ascending : (most low : ℕ) (es rs : List Extent) → 0 < most → IsMaximalFrom low es → AreCut most es rs → IsAscending low rs
ascending most low [] rs some m h = subst (IsAscending low) (sym h) tt
ascending most low (e ∷ es) rs some m (front, rest, joined, here, later) =
    subst (IsAscending low) (sym joined)
    (lower low e.start (front ++ rest) m.0
    (cut_ascending most e.start front rest some here.cut
    (lower (e.start + unit_count front) (e.start + e.len + 1) rest (omega (arith, here.count)) (ascending most (e.start + e.len + 1) es rest some m.3 later))))

-- ---- one cut

same_extent : (r t : Extent) → r.start ≡ t.start → r.len ≡ t.len → r ≡ t
same_extent r t e1 e2 = ap (λ (n : ℕ). record { start = n; len = r.len }) e1 ∙ ap (λ (n : ℕ). record { start = t.start; len = n }) e2

cut_some : (most from : ℕ) (t : Extent) (ts : List Extent) → 0 < most → IsCutFrom most from (t ∷ ts) → 0 < unit_count (t ∷ ts)
cut_some most from t [] some h = omega (arith, h.1)
cut_some most from t (f ∷ ts) some h = omega (arith, h.1)

same_cut : (most from : ℕ) (rs ts : List Extent) → 0 < most → IsCutFrom most from rs → IsCutFrom most from ts → unit_count rs ≡ unit_count ts → rs ≡ ts
same_cut most from [] [] some h k e = refl
same_cut most from [] (t ∷ ts) some h k e = absurd (omega (arith, cut_some most from t ts some k))
same_cut most from (r ∷ rs) [] some h k e = absurd (omega (arith, cut_some most from r rs some h))
same_cut most from (r ∷ []) (t ∷ []) some h k e = ap (λ (x : Extent). x ∷ []) (same_extent r t (h.0 ∙ sym k.0) (omega arith))
same_cut most from (r ∷ []) (t ∷ f ∷ ts) some h k e = absurd (omega (arith, h.2, k.1, cut_some most (from + most) f ts some k.2))
same_cut most from (r ∷ f ∷ rs) (t ∷ []) some h k e = absurd (omega (arith, k.2, h.1, cut_some most (from + most) f rs some h.2))
same_cut most from (r ∷ f ∷ rs) (t ∷ g ∷ ts) some h k e =
    ap (λ (x : Extent). x ∷ f ∷ rs) (same_extent r t (h.0 ∙ sym k.0) (h.1 ∙ sym k.1))
    ∙ ap (λ (xs : List Extent). t ∷ xs) (same_cut most (from + most) (f ∷ rs) (g ∷ ts) some h.2 k.2 (omega (arith, h.1, k.1)))

-- extents are cut in one way
pub same_cuts : (most : ℕ) (es rs ts : List Extent) → 0 < most → AreCut most es rs → AreCut most es ts → rs ≡ ts
same_cuts most [] rs ts some h k = h ∙ sym k
same_cuts most (e ∷ es) rs ts some (f1, r1, j1, h1, l1) (f2, r2, j2, h2, l2) =
    j1 ∙ (ap (λ (x : List Extent). x ++ r1) (same_cut most e.start f1 f2 some h1.cut h2.cut (h1.count ∙ sym h2.count))
    ∙ (ap (λ (x : List Extent). f2 ++ x) (same_cuts most es r1 r2 some l1 l2) ∙ sym j2))
