-- Lists of extents as late runs and as addresses.
use Rattle.std.proofs.Common.{◌≡◌, ℕ, ◌+◌, Bool, true, false, ◌||◌, not, ◌==◌, nat_lt, List, [], ◌∷◌, ◌++◌, map, refl, ◌∙◌, arith, ⊎_elim, if◌then◌else◌}
use Rattle.std.proofs.lemmas.Bool.{cases_lt}
use Rattle.std.proofs.lemmas.Bool.Decides.{nat_tests}
use Rattle.std.proofs.lemmas.List.Sums.{sum_by-cons, sum_by-append}
use Rattle.zr_base.specs.declared.space.Extent.{Extent}
use Rattle.zr_base.specs.declared.space.Dva.{Dva}
use Rattle.zr_base.specs.declared.space.LateRun.{LateRun}
use Rattle.zr_base.specs.Extents.{in_extent, has_unit, IsMaximalFrom}
use Rattle.zr_base.proofs.ExtentSets.{has_unit-below}
use Rattle.zr_rules.specs.Places.{one_if, hits_late, address_hits, in_address}
use Rattle.zr_rules.specs.Space.{has_late}
use Rattle.zr_units.specs.Uses.{Freed}
use Rattle.zr_space.specs.Views.{late_runs, addresses}

-- how often the extents have the unit
abbrev pub extent_hits : List Extent → ℕ → ℕ
extent_hits [] u = 0
extent_hits (e ∷ es) u = one_if (in_extent e u) + extent_hits es u

-- maximal extents have it once at most
pub once_in : (low u : ℕ) (es : List Extent) → IsMaximalFrom low es → extent_hits es u ≡ one_if (has_unit es u)
once_in low u [] m = refl
once_in low u (e ∷ es) m =
    let rest = once_in (e.start + e.len + 1) u es m.3 in
    ⊎_elim
    (λ lt. let none = has_unit-below (e.start + e.len + 1) u es m.3 (omega (arith, lt)) in grind (arith, nat_tests, rest, none))
    (λ ge. grind (arith, nat_tests, rest, ge))
    (cases_lt u (e.start + e.len))

pub some_in : (es : List Extent) (u : ℕ) → nat_lt 0 (extent_hits es u) ≡ has_unit es u
some_in [] u = refl
some_in (e ∷ es) u = grind (arith, nat_tests, some_in es u)

-- ---- late runs

abbrev pub as_runs : Bool → List Extent → List LateRun
as_runs meta es = map (λ (e : Extent). record { at = e; meta = meta }) es

runs_hits : (meta : Bool) (es : List Extent) (u : ℕ) → hits_late (as_runs meta es) u ≡ extent_hits es u
runs_hits meta [] u = refl
runs_hits meta (e ∷ es) u = omega (arith, runs_hits meta es u, sum_by-cons (λ (r : LateRun). one_if (in_extent r.at u)) (record { at = e; meta = meta }) (as_runs meta es))

pub late_hits_are : (f : Freed) (u : ℕ) → hits_late (late_runs f) u ≡ extent_hits f.blocks u + extent_hits f.meta u
late_hits_are f u = sum_by-append (λ (r : LateRun). one_if (in_extent r.at u)) (as_runs false f.blocks) (as_runs true f.meta) ∙ omega (arith, runs_hits false f.blocks u, runs_hits true f.meta u)

has_append : (meta : Bool) (xs ys : List LateRun) (u : ℕ) → has_late meta (xs ++ ys) u ≡ (has_late meta xs u || has_late meta ys u)
has_append meta [] ys u = refl
has_append meta (x ∷ xs) ys u = grind (arith, nat_tests, has_append meta xs ys u)

has_same : (meta : Bool) (es : List Extent) (u : ℕ) → has_late meta (as_runs meta es) u ≡ has_unit es u
has_same true [] u = refl
has_same false [] u = refl
has_same true (e ∷ es) u = grind (arith, nat_tests, has_same true es u)
has_same false (e ∷ es) u = grind (arith, nat_tests, has_same false es u)

has_other : (meta : Bool) (es : List Extent) (u : ℕ) → has_late (not meta) (as_runs meta es) u ≡ false
has_other true [] u = refl
has_other false [] u = refl
has_other true (e ∷ es) u = grind (arith, nat_tests, has_other true es u)
has_other false (e ∷ es) u = grind (arith, nat_tests, has_other false es u)

pub late_blocks_are : (f : Freed) (u : ℕ) → has_late false (late_runs f) u ≡ has_unit f.blocks u
late_blocks_are f u = grind (arith, nat_tests, has_append false (as_runs false f.blocks) (as_runs true f.meta) u, has_same false f.blocks u, has_other true f.meta u)

pub late_meta_are : (f : Freed) (u : ℕ) → has_late true (late_runs f) u ≡ has_unit f.meta u
late_meta_are f u = grind (arith, nat_tests, has_append true (as_runs false f.blocks) (as_runs true f.meta) u, has_other false f.blocks u, has_same true f.meta u)

-- ---- addresses

pub addresses_hits : (k d u : ℕ) (es : List Extent) → address_hits (addresses k es) d u ≡ (if k == d then extent_hits es u else 0)
addresses_hits k d u [] = grind (arith, nat_tests)
addresses_hits k d u (e ∷ es) =
    let rest = addresses_hits k d u es in
    let more = sum_by-cons (λ (a : Dva). one_if (in_address a d u)) (record { dev = k; start = e.start; len = e.len }) (addresses k es) in
    grind (arith, nat_tests, rest, more)

pub hits_append : (xs ys : List Dva) (d u : ℕ) → address_hits (xs ++ ys) d u ≡ address_hits xs d u + address_hits ys d u
hits_append xs ys d u = sum_by-append (λ (a : Dva). one_if (in_address a d u)) xs ys
