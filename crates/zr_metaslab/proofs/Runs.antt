-- The runs of a metaslab.
use Rattle.std.proofs.Common.{◌≡◌, ℕ, ◌+◌, ◌*◌, ◌≤◌, ◌<◌, List, [], ◌∷◌, true, length, min, arith, refl, Some, subst, ◌⊎◌, inl, inr, ◌-◌}
use Rattle.std.proofs.lemmas.Bool.Decides.{nat_tests}
use Rattle.zr_base.specs.declared.space.Extent.{Extent}
use Rattle.zr_base.specs.declared.space.Policy.{Policy}
use Rattle.zr_base.specs.Extents.{IsMaximal, IsMaximalFrom, extent_at, has_unit, HasAll, RemovesUnits}
use Rattle.zr_rules.specs.Choices.{AreRuns, AreRunsFrom, IsPick}
use Rattle.zr_metaslab.specs.Metaslabs.{TakesRun, AreInside}

maximal_runs : (low high : ℕ) (es : List Extent) → low ≤ high → IsMaximalFrom high es → AreRunsFrom low es
maximal_runs low high [] le m = tt
maximal_runs low high (e ∷ es) le m = (omega arith, omega arith, maximal_runs (e.start + e.len) (e.start + e.len + 1) es (omega arith) m.3)

pub are_runs : (es : List Extent) → IsMaximal es → AreRuns es
are_runs es m = maximal_runs 0 0 es (omega arith) m

half : (low high : ℕ) (es : List Extent) → IsMaximalFrom low es → ((u : ℕ) → has_unit es u ≡ true → u < high) → low ≤ high + 1 → 2 * length es + low ≤ high + 1
half low high [] m all le = omega arith
half low high (e ∷ es) m all le =
    let last : e.start + e.len - 1 < high = all (e.start + e.len - 1) (grind (arith, nat_tests, m.1)) in
    let rest : 2 * length es + (e.start + e.len + 1) ≤ high + 1 = half (e.start + e.len + 1) high es m.3 (λ u h. all u (grind (arith, nat_tests, h))) (omega (arith, m.1)) in
    omega (arith, m.0, m.1)

up : (low base : ℕ) (es : List Extent) → IsMaximalFrom low es → ((u : ℕ) → has_unit es u ≡ true → base ≤ u) → (length es < 1) ⊎ IsMaximalFrom base es
up low base [] m all = inl (omega arith)
up low base (e ∷ es) m all = inr (all e.start (grind (arith, nat_tests, m.1)), m.1, m.2, m.3)

-- a metaslab has at most 256 maximal runs
pub runs_bound : (base : ℕ) (es : List Extent) → IsMaximal es → AreInside base es → length es ≤ 256
runs_bound base es m inside = elim (up 0 base es m inside.from) [ inl few ↦ omega arith | inr from ↦ let b : 2 * length es + base ≤ base + 512 + 1 = half base (base + 512) es from inside.to (omega arith) in omega arith ]

-- the front of what is picked is taken
pub takes : (old runs new : List Extent) (policy : Policy) (want i : ℕ) (e : Extent) → runs ≡ old → IsPick policy want runs (Some i) → e.start ≡ (extent_at old i).start → e.len ≡ min want (extent_at old i).len → HasAll old e → RemovesUnits old new e → TakesRun old new policy want e
takes old runs new policy want i e same pick start len were removed =
    let P : List Extent → Type 0 = λ t. IsPick policy want t (Some i) in
    let here : IsPick policy want old (Some i) = subst P same pick in
    record {
      index = i;
      inside = here.index i refl;
      fits = here.fits i refl;
      named = here.named;
      start = start;
      len = omega (arith, len, here.fits i refl);
      were_free = were;
      removed = removed;
    }
