-- The longest extent of a list.
use Rattle.std.proofs.Common.{ℕ, zero, suc, ◌<◌, ◌≤◌, List, [], ◌∷◌, length, arith, ⊎_elim}
use Rattle.std.proofs.lemmas.Bool.{cases_lt}
use Rattle.zr_base.specs.declared.space.Extent.{Extent}
use Rattle.zr_base.specs.Extents.{extent_at, longest_len, unit_count}
use Rattle.zr_ranges.specs.Ranges.{HasRunOf}

-- no extent is longer
pub longest_above : (es : List Extent) (i : ℕ) → i < length es → (extent_at es i).len ≤ longest_len es
longest_above [] i h = absurd (omega arith)
longest_above (e ∷ es) zero h = omega arith
longest_above (e ∷ es) (suc i) h = omega (arith, longest_above es i (omega arith))

-- one is as long
pub longest_there : (es : List Extent) → 0 < longest_len es → HasRunOf es (longest_len es)
longest_there [] some = absurd (omega arith)
longest_there (e ∷ es) some =
    ⊎_elim
    (λ lt.
    let rest : HasRunOf es (longest_len es) = longest_there es (omega arith) in
    record { index = suc rest.index; inside = omega (arith, rest.inside); as_long = omega (arith, rest.as_long) })
    (λ ge. record { index = zero; inside = omega arith; as_long = omega arith })
    (cases_lt e.len (longest_len es))

-- it has no more units than all together
pub longest_bound : (es : List Extent) → longest_len es ≤ unit_count es
longest_bound [] = omega arith
longest_bound (e ∷ es) = omega (arith, longest_bound es)
