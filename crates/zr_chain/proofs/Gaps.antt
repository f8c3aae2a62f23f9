-- Where all parts were visited, no unit on the way lacks an entry.
use Rattle.std.proofs.Common.{◌≡◌, ℕ, ◌+◌, ◌-◌, ◌<◌, ◌≤◌, ◌⊎◌, Bool, true, false, ◌&&◌, ◌||◌, List, [], ◌∷◌, ◌++◌, inl, inr, refl, sym, ap, ap₂, ◌∙◌, arith, ⊎_elim, Some}
use Rattle.std.specs.Prelude.{◌==◌, if◌then◌else◌}
use Rattle.std.specs.List.{AllByRecursion, list_any}
use Rattle.std.proofs.lemmas.Bool.{cases_lt, false≢true}
use Rattle.std.proofs.lemmas.Bool.Decides.{nat_tests}
use Rattle.zr_base.specs.declared.space.Entry.{Entry}
use Rattle.zr_rules.specs.Places.{Place, is_gone, is_place}
use Rattle.zr_rules.specs.Devices.{Devices, state_at}
use Rattle.zr_rules.specs.Mappings.{target, in_source, has_source}
use Rattle.zr_rules.specs.Resolve.{IsRanked, passed_units}
use Rattle.zr_imap.specs.declared.image.Piece.{Piece as Part}
use Rattle.zr_imap.specs.Searches.{FollowFrom, piece_target}
use Rattle.zr_chain.specs.declared.visit.Visited.{Visited}
use Rattle.zr_chain.specs.declared.visit.Visited.TheVariants.{Hop, Piece}
use Rattle.zr_chain.specs.Visits.{AreVisits, PassesUnit, parts_behind}
use Rattle.zr_chain.proofs.Ways.{cases_bool, passed_gone, passed_there}
use Rattle.zr_chain.proofs.Parts.{parts_are, target_first, target_later}
use Rattle.zr_chain.proofs.Places.{each_append}
use Rattle.zr_chain.proofs.Passed.{known_behind}

abbrev pub LacksNone : Devices → Part → Type 0
LacksNone ds p = (d u : ℕ) → PassesUnit ds p d u → ⊥

or-true : (x : Bool) → (x || true) ≡ true
or-true true = refl
or-true false = refl

-- a unit that went somewhere has an entry
has_target : (es : List Entry) (u : ℕ) (x : Place) → target es u ≡ Some x → has_source es u ≡ true
has_target [] u x is = absurd (cc)
has_target (e ∷ es) u x is = ⊎_elim
    (λ got. rw got refl)
    (λ not_it.
    let step : (if in_source e u then Some (e.dev, e.dst + (u - e.src)) else target es u) ≡ target es u = rw not_it refl in
    let rest : has_source es u ≡ true = has_target es u x (sym step ∙ is) in
    ap (λ (b : Bool). in_source e u || b) rest ∙ or-true (in_source e u))
    (cases_bool (in_source e u))

-- the part that has a unit
pub record IsFound (P : Part → Type 0) (qs : List Part) (k : ℕ) : Type 0 where
  pub part : Part
  pub holds : P part
  pub place : ℕ
  pub within : place < part.at.len
  pub at : piece_target qs k ≡ Some (part.dev, part.at.start + place)

found : (P : Part → Type 0) (from end k : ℕ) (qs : List Part) → AllByRecursion P qs → FollowFrom from end qs → from ≤ k → k < end → IsFound P qs k
found P from end k [] all follow ge lt = absurd (omega (arith, follow))
found P from end k (q ∷ qs) all follow ge lt = ⊎_elim
    (λ in_it. record { part = q; holds = all.0; place = k - q.split; within = omega (arith, follow.0); at = target_first q qs k in_it })
    (λ past.
    let rest : IsFound P qs k = found P (q.split + q.at.len) end k qs all.1 follow.2 past lt in
    record { part = rest.part; holds = rest.holds; place = rest.place; within = rest.within; at = target_later q qs k past ∙ rest.at })
    (cases_lt k (q.split + q.at.len))

or_cases : (x y : Bool) → (x || y) ≡ true → (x ≡ true) ⊎ (y ≡ true)
or_cases true y h = inl refl
or_cases false y h = inr h

same_place : (a b c d : ℕ) → ((a == c) && (b == d)) ≡ true → (a ≡ c) × (b ≡ d)
same_place a b c d h = (grind (arith, nat_tests), grind (arith, nat_tests))

-- a part of a removed device, of whose parts none passes a gap
gone_lacks : (ds : Devices) (p q : Part) (place k d u : ℕ) → IsRanked ds → p.dev < ds.count → is_gone (state_at ds p.dev) ≡ true → target (ds.entries p.dev) (p.at.start + k) ≡ Some (q.dev, q.at.start + place) → place < q.at.len → LacksNone ds q →
    list_any (λ r. is_place r d u) (passed_units ds p.dev (p.at.start + k)) ≡ true → has_source (ds.entries d) u ≡ false → ⊥
gone_lacks ds p q place k d u ranked known gone is within none passes missing =
    let way = passed_gone ds p.dev (p.at.start + k) (q.dev, q.at.start + place) ranked known gone is in
    let parts : (is_place (p.dev, p.at.start + k) d u || list_any (λ r. is_place r d u) (passed_units ds q.dev (q.at.start + place))) ≡ true = sym (ap (λ (t : List Place). list_any (λ r. is_place r d u) t) way) ∙ passes in
    ⊎_elim
    (λ first.
    let same = same_place p.dev (p.at.start + k) d u first in
    let has : has_source (ds.entries d) u ≡ true = ap₂ (λ (e v : ℕ). has_source (ds.entries e) v) (sym same.0) (sym same.1) ∙ has_target (ds.entries p.dev) (p.at.start + k) (q.dev, q.at.start + place) is in
    false≢true (sym missing ∙ has))
    (λ later. none d u (record { place = place; within = within; passes = later; missing = missing }))
    (or_cases (is_place (p.dev, p.at.start + k) d u) (list_any (λ r. is_place r d u) (passed_units ds q.dev (q.at.start + place))) parts)

there_lacks : (ds : Devices) (p : Part) → is_gone (state_at ds p.dev) ≡ false → LacksNone ds p
there_lacks ds p there d u gap = false≢true (sym (ap (λ (t : List Place). list_any (λ r. is_place r d u) t) (passed_there ds p.dev (p.at.start + gap.place) there)) ∙ gap.passes)

-- the offset of a part says nothing of its way
front_lacks : (ds : Devices) (s : ℕ) (qs left : List Part) → AllByRecursion (LacksNone ds) (parts_behind s qs ++ left) → AllByRecursion (LacksNone ds) qs × AllByRecursion (LacksNone ds) left
front_lacks ds s [] left h = (tt, h)
front_lacks ds s (q ∷ qs) left h =
    let rest = front_lacks ds s qs left h.1 in
    ((λ d u gap. h.0 d u (record { place = gap.place; within = gap.within; passes = gap.passes; missing = gap.missing }), rest.0), rest.1)

-- what was visited to its end lacks no entry
pub no_gaps : (ds : Devices) (vs : List Visited) (left : List Part) → IsRanked ds → AreVisits ds left vs → AllByRecursion (λ (q : Part). q.dev < ds.count) left → AllByRecursion (LacksNone ds) left
no_gaps ds [] [] ranked h known = tt
no_gaps ds [] (p ∷ left) ranked h known = absurd (cc)
no_gaps ds (v ∷ vs) [] ranked h known = absurd h
no_gaps ds (Piece split dev e ∷ vs) (p ∷ left) ranked h known = (there_lacks ds p h.0, no_gaps ds vs left ranked h.2 known.1)
no_gaps ds (Hop dev e ∷ vs) (p ∷ left) ranked h known =
    let all = each_append (λ (q : Part). q.dev < ds.count) (parts_behind p.split h.3) left (known_behind ds p h.3 ranked h.0 (parts_are ds p h.3 ranked h.0 h.4)) known.1 in
    let below = front_lacks ds p.split h.3 left (no_gaps ds vs (parts_behind p.split h.3 ++ left) ranked h.5 all) in (
      λ d u gap.
          let at : IsFound (LacksNone ds) h.3 gap.place = found (LacksNone ds) 0 p.at.len gap.place h.3 below.0 h.4.follow (omega arith) gap.within in
          gone_lacks ds p at.part at.place gap.place d u ranked known.0 h.0 (sym (h.4.targets gap.place gap.within) ∙ at.at) at.within at.holds gap.passes gap.missing,
      below.1,
    )
