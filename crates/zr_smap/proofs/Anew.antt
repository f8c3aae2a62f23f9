-- The words that a set can be written anew with.
use Rattle.std.proofs.Common.{◌≡◌, ◌⊎◌, ℕ, zero, suc, ◌+◌, ◌-◌, ◌*◌, ◌<◌, ◌≤◌, inl, inr, List, [], ◌∷◌, ◌++◌, length, min, arith, ⊎_elim, refl}
use Rattle.std.proofs.lemmas.Bool.{cases_lt, cases_eq}
use Rattle.std.proofs.lemmas.Bool.Decides.{nat_tests}
use Rattle.zr_base.specs.declared.space.Extent.{Extent}
use Rattle.zr_base.specs.Extents.{unit_count, IsMaximal}
use Rattle.zr_rules.specs.Logs.{IsCutFrom, IsCut, AreCut, IsAnew, longest_run}
use Rattle.zr_rules.specs.Owed.{set_words}
use Rattle.zr_smap.specs.Cuts.{taken_words, IsInReach}
use Rattle.zr_smap.proofs.Cutting.{cut_before, is_anew, anew_length}

-- a run in pieces
record Pieces (most from len : ℕ) : Type 0 where
  runs : List Extent
  cut : IsCutFrom most from runs
  count : unit_count runs ≡ len

pieces : (fuel most from len : ℕ) → 0 < most → len ≤ fuel → Pieces most from len
pieces fuel most from zero some le = record { runs = []; cut = tt; count = refl }
pieces zero most from (suc len) some le = absurd (omega (arith, le))
pieces (suc fuel) most from (suc len) some le =
    let n : ℕ = min most (suc len) in
    let e : Extent = record { start = from; len = n } in
    let rest = pieces fuel most (from + n) (suc len - n) some (omega (arith, le, some)) in
    let count = rest.count in
    record {
      runs = e ∷ rest.runs;
      cut = cut_before most from e rest.runs some refl (omega (arith, some)) (omega arith)
          (⊎_elim (λ lt. inr (omega (arith, lt))) (λ ge. inl (omega (arith, ge, count))) (cases_lt most (suc len))) rest.cut;
      count = omega (arith, count);
    }

-- extents in pieces
record Cuts (most : ℕ) (es : List Extent) : Type 0 where
  runs : List Extent
  cut : AreCut most es runs

cuts : (most : ℕ) (es : List Extent) → 0 < most → Cuts most es
cuts most [] some = record { runs = []; cut = refl }
cuts most (e ∷ es) some =
    let here = pieces e.len most e.start e.len some (omega arith) in
    let rest = cuts most es some in
    record {
      runs = here.runs ++ rest.runs;
      cut = (here.runs, rest.runs, refl, record { cut = here.cut; count = here.count }, rest.cut);
    }

some_run : (version : ℕ) → 0 < longest_run version
some_run version = ⊎_elim (λ one. grind (arith, nat_tests, one)) (λ two. grind (arith, nat_tests, two)) (cases_eq version 1)

-- a set that the version can spell has words that it is written anew with, as many as are reckoned
pub can_be_anew : (version dev : ℕ) (es : List Extent) → (version ≡ 1) ⊎ (version ≡ 2) → IsMaximal es → IsInReach version es → (words : List ℕ) × IsAnew version dev es words × (length words ≡ set_words version es)
can_be_anew version dev es which m within =
    let c = cuts (longest_run version) es (some_run version) in
    let words : List ℕ = taken_words dev c.runs in
    let anew : IsAnew version dev es words = is_anew version dev (longest_run version) es words which refl (some_run version) m within (record { runs = c.runs; cut = c.cut; words_are = refl }) in
    (words, anew, anew_length version dev es words which m within anew)
