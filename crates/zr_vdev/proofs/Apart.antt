-- Addresses without a common unit.
use Rattle.std.proofs.Common.{◌≡◌, ℕ, ◌<◌, ◌==◌, ◌&&◌, ◌||◌, max, Bool, true, false, not, List, [], ◌∷◌, Some, inl, inr, arith, sym, ◌∙◌, refl, ap}
use Rattle.std.specs.Prelude.{IsTrue}
use Rattle.std.specs.List.{list_any}
use Rattle.std.proofs.lemmas.List.Folds.{list_any-append}
use Rattle.std.proofs.lemmas.Bool.Decides.{nat_tests}
use Rattle.zr_base.specs.declared.space.Dva.{Dva}
use Rattle.zr_base.specs.declared.space.Extent.{Extent}
use Rattle.zr_base.specs.Extents.{in_extent}
use Rattle.zr_chain.specs.declared.visit.Visited.{Visited}
use Rattle.zr_chain.specs.declared.visit.Visited.TheVariants.{Hop, Piece}
use Rattle.zr_chain.specs.Visits.{Visits, as_part}
use Rattle.zr_chain.proofs.Ways.{cases_bool}
use Rattle.zr_rules.specs.Devices.{Devices}
use Rattle.zr_rules.specs.Places.{one_if, in_address}
use Rattle.zr_rules.specs.Resolve.{is_resolved}
use Rattle.zr_cache.specs.Entries.{meets}
use Rattle.zr_space.specs.Freeing.{end_hits}
use Rattle.zr_space.proofs.Freeing.{ends_are}
use Rattle.zr_vdev.specs.Stores.{IsApart, shares}
use Rattle.zr_vdev.proofs.Leading.{false_true, leads_some, some_leads}

any_cons : (p : Visited → Bool) (v : Visited) (vs : List Visited) → list_any p (v ∷ vs) ≡ (p v || list_any p vs)
any_cons p v vs = list_any-append p (v ∷ []) vs ∙ grind (arith, nat_tests)

-- two runs with a common unit have the one at which the later begins
common : (l : Dva) (dev : ℕ) (g : Extent) (d u : ℕ) → in_address l d u ≡ true → ((dev == d) && in_extent g u) ≡ true → ((l.dev == dev) && (in_extent (record { start = l.start; len = l.len }) (max l.start g.start) && in_extent g (max l.start g.start))) ≡ true
common l dev g d u inside has = grind (arith, nat_tests, inside, has)

-- no part that is there has a unit of an address with which it shares none
pub shares_none : (l : Dva) (vs : List Visited) (d u : ℕ) → list_any (shares l) vs ≡ false → in_address l d u ≡ true → end_hits vs d u ≡ 0
shares_none l [] d u none inside = refl
shares_none l (Hop dev g ∷ vs) d u none inside =
    let both = any_cons (shares l) (Hop dev g) vs in
    shares_none l vs d u (grind (arith, nat_tests, both, none)) inside
shares_none l (Piece split dev g ∷ vs) d u none inside =
    let both = any_cons (shares l) (Piece split dev g) vs in
    let rest = shares_none l vs d u (grind (arith, nat_tests, both, none)) inside in
    let apart : ((l.dev == dev) && (in_extent (record { start = l.start; len = l.len }) (max l.start g.start) && in_extent g (max l.start g.start))) ≡ false = grind (arith, nat_tests, both, none) in
    elim (cases_bool ((dev == d) && in_extent g u)) [
      | inl both ↦ absurd (false_true (sym apart ∙ common l dev g d u inside both))
      | inr out ↦ rw out (omega (arith, rest))
    ]

-- and else there is one
pub record Shared (l : Dva) (vs : List Visited) : Type 0 where
  pub unit : ℕ
  pub inside : in_address l l.dev unit ≡ true
  pub hit : 0 < end_hits vs l.dev unit

pub shares_some : (l : Dva) (vs : List Visited) → list_any (shares l) vs ≡ true → Shared l vs
shares_some l [] some = absurd (false_true some)
shares_some l (Hop dev g ∷ vs) some =
    let both = any_cons (shares l) (Hop dev g) vs in
    let rest = shares_some l vs (grind (arith, nat_tests, both, some)) in
    record { unit = rest.unit; inside = rest.inside; hit = rest.hit }
shares_some l (Piece split dev g ∷ vs) some =
    let both = any_cons (shares l) (Piece split dev g) vs in
    elim (cases_bool ((l.dev == dev) && (in_extent (record { start = l.start; len = l.len }) (max l.start g.start) && in_extent g (max l.start g.start)))) [
      | inl here ↦
          let here_is : ((dev == l.dev) && in_extent g (max l.start g.start)) ≡ true = grind (arith, nat_tests, here) in
          let one = ap one_if here_is in
          record { unit = max l.start g.start; inside = grind (arith, nat_tests, here); hit = omega (arith, one) }
      | inr other ↦
          let rest = shares_some l vs (grind (arith, nat_tests, both, some, other)) in
          let hit = rest.hit in
          record { unit = rest.unit; inside = rest.inside; hit = omega (arith, hit) }
    ]

-- the parts of an address tell whether it leads to units of another
module _ (ds : Devices) (l a : Dva) (old new : List Visited) (all : is_resolved ds a ≡ true) (v : Visits ds a old new) where
  apart_unless : list_any (shares l) v.visits ≡ false → IsApart ds (Some l) a
  apart_unless none d u leads = elim (cases_bool (in_address l d u)) [
    | inl inside ↦
        let z = shares_none l v.visits d u none inside in
        let e = ends_are ds a old new d u all v in
        let some = leads_some ds a d u leads in
        absurd (omega (arith, z, e, some))
    | inr out ↦ out
  ]

  not_apart : list_any (shares l) v.visits ≡ true → IsApart ds (Some l) a → ⊥
  not_apart some apart =
      let s = shares_some l v.visits some in
      let e = ends_are ds a old new l.dev s.unit all v in
      let hit = s.hit in
      false_true (sym (apart l.dev s.unit (some_leads ds a l.dev s.unit (omega (arith, e, hit)))) ∙ s.inside)

  pub apart_is : (b : Bool) → b ≡ list_any (shares l) v.visits → (IsTrue (not b) → IsApart ds (Some l) a) × (IsApart ds (Some l) a → IsTrue (not b))
  apart_is true is = (λ yes. absurd (false_true yes), λ apart. absurd (not_apart (sym is) apart))
  apart_is false is = (λ yes. apart_unless (sym is), λ apart. refl)

-- ---- runs

-- addresses that have a common unit have the one at which the later begins
overlap : (l a : Dva) → meets (as_part l) (as_part a) ≡ true → 0 < l.len → 0 < a.len → (in_address a l.dev (max l.start a.start) ≡ true) × (in_address l l.dev (max l.start a.start) ≡ true)
overlap l a is some more = (grind (arith, nat_tests, is, some, more), grind (arith, nat_tests, is, some, more))

-- runs of addresses without a common unit do not meet
pub parts_apart : (l a : Dva) → 0 < l.len → 0 < a.len → ((d u : ℕ) → in_address a d u ≡ true → in_address l d u ≡ false) → meets (as_part l) (as_part a) ≡ false
parts_apart l a some more apart = elim (cases_bool (meets (as_part l) (as_part a))) [
  | inl is ↦ let both = overlap l a is some more in absurd (false_true (sym (apart l.dev (max l.start a.start) both.0) ∙ both.1))
  | inr apart_all ↦ apart_all
]

-- a unit that an address does not have is no part of it
pub unit_apart : (l : Dva) (d u : ℕ) → 0 < l.len → in_address l d u ≡ false → meets (as_part l) (as_part (record { dev = d; start = u; len = 1 })) ≡ false
unit_apart l d u some out = grind (arith, nat_tests, some, out)
