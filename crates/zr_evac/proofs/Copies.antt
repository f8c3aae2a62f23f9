-- Destinations without the copies of marked units.
use Rattle.std.proofs.Common.{◌≡◌, ℕ, zero, suc, ◌+◌, ◌-◌, ◌≤◌, ◌<◌, ◌^◌, true, false, List, [], ◌∷◌, ◌++◌, length, take, arith, ⊎_elim, add-one}
use Rattle.std.proofs.lemmas.Bool.{cases_lt}
use Rattle.std.proofs.lemmas.List.Sums.{sum_by-cons}
use Rattle.std.proofs.lemmas.Bool.Decides.{nat_tests}
use Rattle.zr_base.specs.declared.space.Extent.{Extent}
use Rattle.zr_base.specs.declared.space.Entry.{Entry}
use Rattle.zr_base.specs.Extents.{has_unit, in_extent, HasAll}
use Rattle.zr_rules.specs.Mappings.{entry_at}
use Rattle.zr_rules.specs.Places.{one_if}
use Rattle.zr_evac.specs.Evacuations.{AreLawful, hits_at, copies_at, is_at, is_copy_in}

-- an extent more
pub hits_more : (ps : List (ℕ × Extent)) (p : ℕ × Extent) (d u : ℕ) → hits_at (ps ++ p ∷ []) d u ≡ hits_at ps d u + one_if (is_at p d u)
hits_more [] p d u = omega arith
hits_more (q ∷ ps) p d u = omega (arith, hits_more ps p d u)

pub lawful_more : (ps : List (ℕ × Extent)) (p : ℕ × Extent) → AreLawful ps → 0 < p.1.len → p.1.start + p.1.len ≤ 2 ^ 62 → AreLawful (ps ++ p ∷ [])
lawful_more [] p all some fits = (some, fits, tt)
lawful_more (q ∷ ps) p all some fits = (all.0, all.1, lawful_more ps p all.2 some fits)

-- an entry more
copies_cons : (marks : List Extent) (e : Entry) (es : List Entry) (d u : ℕ) → copies_at marks (e ∷ es) d u ≡ one_if (is_copy_in marks e e.len d u) + copies_at marks es d u
copies_cons marks e es d u = sum_by-cons (λ (x : Entry). one_if (is_copy_in marks x x.len d u)) e es

copies_suc : (marks : List Extent) (es : List Entry) (i d u : ℕ) → i < length es → copies_at marks (take (suc i) es) d u ≡ copies_at marks (take i es) d u + one_if (is_copy_in marks (entry_at es i) (entry_at es i).len d u)
copies_suc marks [] i d u there = absurd (omega arith)
copies_suc marks (e ∷ es) zero d u there = omega (arith, copies_cons marks e [] d u)
copies_suc marks (e ∷ es) (suc i) d u there = omega (arith, copies_suc marks es i d u (omega arith), copies_cons marks e (take i es) d u, copies_cons marks e (take (suc i) es) d u)

pub copies_more : (marks : List Extent) (es : List Entry) (i d u : ℕ) → i < length es → copies_at marks (take (i + 1) es) d u ≡ copies_at marks (take i es) d u + one_if (is_copy_in marks (entry_at es i) (entry_at es i).len d u)
copies_more marks es i d u there = rw add-one (copies_suc marks es i d u there)

-- a gap without marks, and the marks behind it
pub record IsGap (marks : List Extent) (at : ℕ) (marked : Extent) : Type 0 where
  pub from : at ≤ marked.start
  pub gap : (u : ℕ) → at ≤ u → u < marked.start → has_unit marks u ≡ false
  pub marked_is : HasAll marks marked

-- no more copies than those of the gap
pub gap_more : (marks : List Extent) (e : Entry) (at : ℕ) (marked : Extent) (d u : ℕ) → IsGap marks at marked → e.src ≤ at → one_if (is_copy_in marks e (at - e.src) d u) + one_if (is_at (e.dev, record { start = e.dst + (at - e.src); len = marked.start - at }) d u) ≡ one_if (is_copy_in marks e (marked.start + marked.len - e.src) d u)
gap_more marks e at marked d u g from =
    let le = g.from in
    let src : ℕ = e.src + (u - e.dst) in
    ⊎_elim
    (λ low. grind (arith, nat_tests, low))
    (λ high.
    ⊎_elim
    (λ before. grind (arith, nat_tests, high, before, le, from))
    (λ after.
    ⊎_elim
    (λ in_gap.
    let none : has_unit marks (e.src + (u - e.dst)) ≡ false = g.gap (e.src + (u - e.dst)) (omega (arith, after, high, from)) in_gap in
    grind (arith, nat_tests, high, after, le, from, none, in_gap))
    (λ past.
    ⊎_elim
    (λ in_marks.
    let inside : in_extent marked (e.src + (u - e.dst)) ≡ true = grind (arith, nat_tests, past, in_marks) in
    let has : has_unit marks (e.src + (u - e.dst)) ≡ true = g.marked_is (e.src + (u - e.dst)) inside in
    grind (arith, nat_tests, high, after, le, from, has, past))
    (λ beyond. grind (arith, nat_tests, high, after, le, from, beyond, past))
    (cases_lt (e.src + (u - e.dst)) (marked.start + marked.len)))
    (cases_lt (e.src + (u - e.dst)) marked.start))
    (cases_lt u (e.dst + (at - e.src))))
    (cases_lt u e.dst)
