-- Placements among the free runs of one metaslab.
use Rattle.std.proofs.Common.{◌≡◌, ◌⊎◌, ℕ, ◌+◌, ◌<◌, ◌≤◌, true, ◌&&◌, List, [], ◌∷◌, length, inl, inr, refl, arith, Some}
use Rattle.std.proofs.lemmas.Bool.{cases_lt}
use Rattle.std.proofs.lemmas.Bool.Decides.{nat_tests}
use Rattle.zr_base.specs.declared.space.Dva.{Dva}
use Rattle.zr_base.specs.declared.space.Extent.{Extent}
use Rattle.zr_base.specs.declared.space.Policy.TheVariants as policy
use Rattle.zr_base.specs.Extents.{extent_at, has_unit, HasAll, IsMaximal, IsMaximalFrom, longest_len}
use Rattle.zr_base.proofs.ExtentSets.{has_unit-below, has_unit-at}
use Rattle.zr_rules.specs.Choices.{named_run}
use Rattle.zr_rules.specs.Placement.{IsPlacement, IsBefore, in_metaslab}
use Rattle.zr_laws.specs.Examples.{free_on_second, on_second}

-- each run ends below 512
abbrev pub IsLow : List Extent → Type 0
IsLow [] = Unit {0}
IsLow (e ∷ es) = (e.start + e.len ≤ 512) × IsLow es

low_units : (es : List Extent) → IsLow es → (u : ℕ) → has_unit es u ≡ (has_unit es u && in_metaslab 0 u)
low_units [] low u = refl
low_units (e ∷ es) low u = grind (arith, nat_tests, low.0, low_units es low.1 u)

second_alone : (runs : List Extent) (want d m dev : ℕ) → dev ≡ 1 → ((free_on_second runs).serves d ≡ true) → (d ≡ dev) ⊎ IsBefore (free_on_second runs) dev d
second_alone runs want d m dev is serves = inl (grind (arith, nat_tests))

-- the front of the run that comes first
pub placed : (runs : List Extent) (want index start : ℕ) → IsMaximal runs → IsLow runs → index < length runs → want ≤ (extent_at runs index).len → Some index ≡ named_run policy.First want runs → start ≡ (extent_at runs index).start → IsPlacement (free_on_second runs) policy.First want (on_second start want)
placed runs want index start maximal low inside fits named front = record {
  len = refl;
  known = omega arith;
  serves = refl;
  metaslab = 0;
  runs = runs;
  index = index;
  are_runs = record { members = λ u. low_units runs low u; maximal = maximal };
  inside = inside;
  fits = fits;
  named = λ _. named;
  front = front;
  first_metaslab = λ m run. omega arith;
  first_device = λ d m known serves run. second_alone runs want d m 1 refl serves;
}

-- units in a row are no more than the longest run has
in_a_row : (low s n : ℕ) (es : List Extent) → IsMaximalFrom low es → HasAll es (record { start = s; len = n }) → n ≤ longest_len es
in_a_row low s n [] maximal all =
    elim (cases_lt 0 n) [ inl some ↦ absurd (grind (arith, nat_tests, all s)) | inr none ↦ omega (arith, none) ]
in_a_row low s n (e ∷ es) maximal all =
    elim (cases_lt s (e.start + e.len)) [
      | inl below ↦ elim (cases_lt (e.start + e.len) (s + n)) [
        | inl past ↦ absurd (grind (arith, nat_tests, all (e.start + e.len), has_unit-below (e.start + e.len + 1) (e.start + e.len) es maximal.3))
        | inr within ↦ elim (cases_lt s e.start) [
          | inl before ↦ elim (cases_lt 0 n) [
            | inl some ↦ absurd (grind (arith, nat_tests, all s, has_unit-below (e.start + e.len + 1) s es maximal.3))
            | inr none ↦ omega (arith, none)
          ]
          | inr from ↦ omega (arith, within, from)
        ]
      ]
      | inr above ↦
          let rest = in_a_row (e.start + e.len + 1) s n es maximal.3 (λ u t. grind (arith, nat_tests, all u t)) in
          omega (arith, rest)
    ]

pub none_longer : (runs : List Extent) (want : ℕ) (at : Dva) → IsMaximal runs → longest_len runs < want → IsPlacement (free_on_second runs) policy.First want at → ⊥
none_longer runs want at maximal more placement =
    let all : HasAll runs (record { start = at.start; len = want }) = λ u t.
    let there : has_unit placement.runs u ≡ true = has_unit-at placement.index u placement.runs (record { start = 0; len = 0 }) placement.inside (grind (arith, nat_tests, t, placement.fits, placement.front)) in
    grind (arith, nat_tests, placement.are_runs.members u, there) in
    let most = in_a_row 0 at.start want runs maximal all in
    omega (arith, most, more)
