-- A set that is written anew replays to itself.
use Rattle.std.proofs.Common.{◌≡◌, ℕ, ◌+◌, ◌<◌, ◌≤◌, Bool, true, false, ◌&&◌, ◌||◌, List, [], ◌∷◌, ◌++◌, refl, sym, ap, subst, ◌∙◌, arith, if◌then◌else◌}
use Rattle.std.specs.Prelude.{nat_le, nat_lt}
use Rattle.std.proofs.lemmas.Bool.Decides.{nat_tests}
use Rattle.std.proofs.lemmas.Grind.{common_steps}
use Rattle.zr_base.specs.declared.space.Extent.{Extent}
use Rattle.zr_base.specs.Extents.{has_unit, in_extent, unit_count, IsMaximal, IsMaximalFrom}
use Rattle.zr_rules.specs.Logs.{taken_after, IsInTurn, IsReplay, IsCutFrom, AreCut}
use Rattle.zr_smap.specs.Laws.{takes}

-- the runs rise from the unit on, and do not overlap
abbrev Rises : ℕ → List Extent → Type 0
Rises low [] = Unit {0}
Rises low (e ∷ es) = (low ≤ e.start) × Rises (e.start + e.len) es

-- .. and end by another
abbrev RisesTo : ℕ → ℕ → List Extent → Type 0
RisesTo low high [] = low ≤ high
RisesTo low high (e ∷ es) = (low ≤ e.start) × RisesTo (e.start + e.len) high es

sooner : (low from : ℕ) (es : List Extent) → low ≤ from → Rises from es → Rises low es
sooner low from [] le r = tt
sooner low from (e ∷ es) le r = (omega (arith, le, r.0), r.1)

sooner_to : (low from high : ℕ) (es : List Extent) → low ≤ from → RisesTo from high es → RisesTo low high es
sooner_to low from high [] le r = omega (arith, le, r)
sooner_to low from high (e ∷ es) le r = (omega (arith, le, r.0), r.1)

rises_append : (low high : ℕ) (xs ys : List Extent) → RisesTo low high xs → Rises high ys → Rises low (xs ++ ys)
rises_append low high [] ys r s = sooner low high ys r s
rises_append low high (x ∷ xs) ys r s = (r.0, rises_append (x.start + x.len) high xs ys r.1 s)

has_both : (xs ys : List Extent) (u : ℕ) → has_unit (xs ++ ys) u ≡ (has_unit xs u || has_unit ys u)
has_both [] ys u = refl
has_both (x ∷ xs) ys u = grind (arith, common_steps, has_both xs ys u)

-- an extent that is cut from its front
cut_rises : (most from high : ℕ) (runs : List Extent) → IsCutFrom most from runs → from + unit_count runs ≡ high → RisesTo from high runs
cut_rises most from high [] cut is = omega (arith, is)
cut_rises most from high (e ∷ []) cut is = (omega (arith, cut.0), omega (arith, cut.0, is))
cut_rises most from high (e ∷ (f ∷ es)) cut is =
    let rest : RisesTo (from + most) high (f ∷ es) = cut_rises most (from + most) high (f ∷ es) cut.2 (omega (arith, is, cut.1)) in
    (omega (arith, cut.0), sooner_to (e.start + e.len) (from + most) high (f ∷ es) (omega (arith, cut.0, cut.1)) rest)

cut_has : (most from high u : ℕ) (runs : List Extent) → IsCutFrom most from runs → from + unit_count runs ≡ high → has_unit runs u ≡ (nat_le from u && nat_lt u high)
cut_has most from high u [] cut is = grind (arith, nat_tests, is)
cut_has most from high u (e ∷ []) cut is =
    let start = cut.0 in
    grind (arith, nat_tests, is, start)
cut_has most from high u (e ∷ (f ∷ es)) cut is =
    let start = cut.0 in
    let len = cut.1 in
    let rest : has_unit (f ∷ es) u ≡ (nat_le (from + most) u && nat_lt u high) = cut_has most (from + most) high u (f ∷ es) cut.2 (omega (arith, is, cut.1)) in
    let within : from + most ≤ high = omega (arith, is, len) in
    grind (arith, nat_tests, start, len, rest, within)

-- all extents
all_rise : (most low : ℕ) (es runs : List Extent) → IsMaximalFrom low es → AreCut most es runs → Rises low runs
all_rise most low [] runs m cut = subst (λ (l : List Extent). Rises low l) (sym cut) tt
all_rise most low (e ∷ es) runs m cut =
    let rest : Rises (e.start + e.len) cut.1 = sooner (e.start + e.len) (e.start + e.len + 1) cut.1 (omega arith) (all_rise most (e.start + e.len + 1) es cut.1 m.3 cut.4) in
    let front : RisesTo low (e.start + e.len) cut.0 = sooner_to low e.start (e.start + e.len) cut.0 m.0 (cut_rises most e.start (e.start + e.len) cut.0 cut.3.cut (omega (arith, cut.3.count))) in
    subst (λ (l : List Extent). Rises low l) (sym cut.2) (rises_append low (e.start + e.len) cut.0 cut.1 front rest)

all_have : (most u : ℕ) (es runs : List Extent) → AreCut most es runs → has_unit runs u ≡ has_unit es u
all_have most u [] runs cut = ap (λ (l : List Extent). has_unit l u) cut
all_have most u (e ∷ es) runs cut =
    let rest : has_unit cut.1 u ≡ has_unit es u = all_have most u es cut.1 cut.4 in
    let front : has_unit cut.0 u ≡ in_extent e u = cut_has most e.start (e.start + e.len) u cut.0 cut.3.cut (omega (arith, cut.3.count)) in
    let both : has_unit (cut.0 ++ cut.1) u ≡ (has_unit cut.0 u || has_unit cut.1 u) = has_both cut.0 cut.1 u in
    ap (λ (l : List Extent). has_unit l u) cut.2 ∙ grind (arith, common_steps, rest, front, both)

-- what changes that only take leave
taken_is : (before : Bool) (u : ℕ) (runs : List Extent) → taken_after before (takes runs) u ≡ (before || has_unit runs u)
taken_is true u [] = refl
taken_is false u [] = refl
taken_is before u (e ∷ es) = by_case before (in_extent e u) (has_unit es u) (taken_after (if in_extent e u then true else before) (takes es) u) (taken_is (if in_extent e u then true else before) u es)
  where
    by_case : (before in_e rest after : Bool) → after ≡ ((if in_e then true else before) || rest) → after ≡ (before || (in_e || rest))
    by_case true true rest after is = is
    by_case true false rest after is = is
    by_case false true rest after is = is
    by_case false false rest after is = is

in_turn : (before : Bool) (low u : ℕ) (runs : List Extent) → Rises low runs → (before ≡ true → u < low) → IsInTurn before (takes runs) u
in_turn before low u [] r past = tt
in_turn before low u (e ∷ es) r past =
    let from : low ≤ e.start = r.0 in (
      first before (in_extent e u) (λ i b. absurd (grind (arith, nat_tests, i, past b, from))),
      in_turn (if in_extent e u then true else before) (e.start + e.len) u es r.1 (next before (in_extent e u) (λ i. grind (arith, nat_tests, i)) (λ b. omega (arith, past b, from))),
    )
  where
    first : (before in_e : Bool) → (in_e ≡ true → before ≡ true → ⊥) → in_e ≡ true → before ≡ false
    first true in_e none is = absurd (none is refl)
    first false in_e none is = refl

    next : {P : Type 0} (before in_e : Bool) → (in_e ≡ true → P) → (before ≡ true → P) → (if in_e then true else before) ≡ true → P
    next before true one two is = one refl
    next before false one two is = two is

pub anew_replays : (most : ℕ) (es runs : List Extent) → IsMaximal es → AreCut most es runs → IsReplay (takes runs) es
anew_replays most es runs m cut = record {
  turns = λ u. in_turn false 0 u runs (all_rise most 0 es runs m cut) (λ is. absurd (cc));
  members = λ u. sym (taken_is false u runs ∙ all_have most u es runs cut);
  maximal = m;
}
