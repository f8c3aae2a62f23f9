-- An address that may be freed passes no unit twice, and its visits have units and entries.
use Rattle.std.proofs.Common.{◌≡◌, ◌⊎◌, inl, inr, ℕ, zero, suc, ◌+◌, ◌-◌, ◌≤◌, ◌<◌, true, false, ◌==◌, List, [], ◌∷◌, ◌++◌, map, Option, Some, None, refl, ◌∙◌, sym, ap, ap₂, subst, ⊎_elim, arith}
use Rattle.std.specs.Prelude.{is_some, option_and_then}
use Rattle.std.specs.List.{AllByRecursion, range_with_len, sum_by}
use Rattle.std.proofs.lemmas.List.Sums.{sum_by-cons}
use Rattle.std.proofs.lemmas.Bool.{cases_lt}
use Rattle.std.proofs.lemmas.Bool.Decides.{nat_tests}
use Rattle.zr_base.specs.declared.space.Dva.{Dva}
use Rattle.zr_base.specs.declared.space.Entry.{Entry}
use Rattle.zr_base.specs.declared.space.Extent.{Extent}
use Rattle.zr_rules.specs.Places.{Place, one_if, is_gone, is_place}
use Rattle.zr_rules.specs.Devices.{Devices, state_at}
use Rattle.zr_rules.specs.Mappings.{has_source, in_source, target}
use Rattle.zr_rules.specs.Resolve.{IsRanked, resolved, is_at, is_resolved, passed_units, pass_hits, resolve_hits}
use Rattle.zr_imap.specs.declared.image.Piece.{Piece as Part}
use Rattle.zr_imap.specs.Searches.{IsImage, FollowFrom, piece_target}
use Rattle.zr_indirect.specs.Mapped.{HasEntries}
use Rattle.zr_chain.specs.declared.visit.Visited.{Visited}
use Rattle.zr_chain.specs.declared.visit.Visited.TheVariants.{Hop, Piece}
use Rattle.zr_chain.specs.Visits.{AreVisits, Visits, as_part, parts_behind}
use Rattle.zr_chain.proofs.Parts.{target_first, target_later}
use Rattle.zr_chain.proofs.Places.{each_append}
use Rattle.zr_chain.proofs.Ranks.{later_count}
use Rattle.zr_chain.proofs.Ways.{cases_bool, cases_option, step_of, resolved_gone, passed_gone, passed_there}
use Rattle.zr_space.specs.FreeVisits.{IsMapped}
use Rattle.zr_space.proofs.Freeables.{leads_each, none_some}

-- how often the unit of the one place passes the other
abbrev way : Devices → ℕ → ℕ → Place → ℕ
way ds d w p = sum_by (λ (q : Place). one_if (is_place q d w)) (passed_units ds p.0 p.1)

-- a unit that leads somewhere, of a device that is gone, went somewhere
pub record WentTo (ds : Devices) (d u : ℕ) : Type 0 where
  place : Place
  is : target (ds.entries d) u ≡ Some place
  leads : resolved ds d u ≡ resolved ds place.0 place.1

went : (ds : Devices) (d u : ℕ) → IsRanked ds → d < ds.count → is_gone (state_at ds d) ≡ true → is_some (resolved ds d u) ≡ true → WentTo ds d u
went ds d u ranked known gone some = by (target (ds.entries d) u) refl
  where
    step : resolved ds d u ≡ option_and_then (λ (p : Place). resolved ds p.0 p.1) (target (ds.entries d) u)
    step = resolved_gone ds d u ranked known gone

    by : (o : Option Place) → target (ds.entries d) u ≡ o → WentTo ds d u
    by None is = absurd (none_some (resolved ds d u) (step ∙ ap (option_and_then (λ (p : Place). resolved ds p.0 p.1)) is) some)
    by (Some p) is = record { place = p; is = is; leads = step ∙ ap (option_and_then (λ (p : Place). resolved ds p.0 p.1)) is }

way_next : (ds : Devices) (d w e v : ℕ) (p : Place) → IsRanked ds → e < ds.count → is_gone (state_at ds e) ≡ true → target (ds.entries e) v ≡ Some p → way ds d w (e, v) ≡ one_if (is_place (e, v) d w) + way ds d w p
way_next ds d w e v p ranked known gone is =
    ap (λ (ps : List Place). sum_by (λ (q : Place). one_if (is_place q d w)) ps) (passed_gone ds e v p ranked known gone is)
    ∙ sum_by-cons (λ (q : Place). one_if (is_place q d w)) (e, v) (passed_units ds p.0 p.1)

other_place : (f : ℕ → ℕ) (e v d w : ℕ) → f e < f d → is_place (e, v) d w ≡ false
other_place f e v d w lt = ⊎_elim (λ yes. absurd (no (grind (arith, nat_tests, yes)))) (λ no. no) (cases_bool (is_place (e, v) d w))
  where
    no : e ≡ d → ⊥
    no same = let is = ap f same in absurd (omega (arith, lt, is))

-- a device of which fewer come after is not passed any more
way_none : (n : ℕ) (ds : Devices) (d w e v : ℕ) → IsRanked ds → e < ds.count → later_count ds e < n → later_count ds e < later_count ds d → is_some (resolved ds e v) ≡ true → way ds d w (e, v) ≡ 0
way_none zero ds d w e v ranked known lt fewer some = absurd (omega (arith, lt))
way_none (suc n) ds d w e v ranked known lt fewer some = ⊎_elim
    (λ gone.
    let to = went ds e v ranked known gone some in
    let step = step_of ds e v to.place ranked gone to.is in
    let f = step.fewer in
    let rest = way_none n ds d w to.place.0 to.place.1 ranked step.known (omega (arith, lt, f)) (omega (arith, f, fewer)) (ap (λ (o : Option Place). is_some o) (sym to.leads) ∙ some) in
    let not : one_if (is_place (e, v) d w) ≡ 0 = ap one_if (other_place (later_count ds) e v d w fewer) in
    let next = way_next ds d w e v to.place ranked known gone to.is in
    omega (arith, rest, not, next))
    (λ there. ap (λ (ps : List Place). sum_by (λ (q : Place). one_if (is_place q d w)) ps) (passed_there ds e v there))
    (cases_bool (is_gone (state_at ds e)))

-- a unit passes another not at all, or once and leads where that leads
abbrev Passes : Devices → ℕ → ℕ → ℕ → ℕ → Type 0
Passes ds d w e v = (way ds d w (e, v) ≡ 0) ⊎ ((way ds d w (e, v) ≡ 1) × (resolved ds e v ≡ resolved ds d w))

way_once : (n : ℕ) (ds : Devices) (d w e v : ℕ) → IsRanked ds → e < ds.count → later_count ds e < n → is_some (resolved ds e v) ≡ true → Passes ds d w e v
way_once zero ds d w e v ranked known lt some = absurd (omega (arith, lt))
way_once (suc n) ds d w e v ranked known lt some = ⊎_elim
    (λ gone.
    let to = went ds e v ranked known gone some in
    let step = step_of ds e v to.place ranked gone to.is in
    let f = step.fewer in
    let leads : is_some (resolved ds to.place.0 to.place.1) ≡ true = ap (λ (o : Option Place). is_some o) (sym to.leads) ∙ some in
    let next = way_next ds d w e v to.place ranked known gone to.is in
    ⊎_elim
    (λ here.
    let dev : e ≡ d = grind (arith, nat_tests, here) in
    let unit : v ≡ w = grind (arith, nat_tests, here) in
    let same = ap (later_count ds) dev in
    let rest = way_none n ds d w to.place.0 to.place.1 ranked step.known (omega (arith, lt, f)) (omega (arith, f, same)) leads in
    let one : one_if (is_place (e, v) d w) ≡ 1 = ap one_if here in
    inr (omega (arith, rest, one, next), ap₂ (resolved ds) dev unit))
    (λ other.
    let none : one_if (is_place (e, v) d w) ≡ 0 = ap one_if other in
    ⊎_elim
    (λ no. inl (omega (arith, none, no, next)))
    (λ yes. inr (let y = yes.0 in omega (arith, none, y, next), to.leads ∙ yes.1))
    (way_once n ds d w to.place.0 to.place.1 ranked step.known (omega (arith, lt, f)) leads))
    (cases_bool (is_place (e, v) d w)))
    (λ there. inl (ap (λ (ps : List Place). sum_by (λ (q : Place). one_if (is_place q d w)) ps) (passed_there ds e v there)))
    (cases_bool (is_gone (state_at ds e)))

is_itself : (p : Place) → is_at (Some p) p.0 p.1 ≡ true
is_itself p = grind (arith, nat_tests)

-- the units from this one on pass a unit as often at most as they lead where it leads
ways_few : (ds : Devices) (d w dev from n : ℕ) (p : Place) → IsRanked ds → dev < ds.count → ((v : ℕ) → from ≤ v → v < from + n → is_some (resolved ds dev v) ≡ true) → resolved ds d w ≡ Some p
    → sum_by (way ds d w) (map (λ (v : ℕ). (dev, v)) (range_with_len from n)) ≤ sum_by (λ (q : Option Place). one_if (is_at q p.0 p.1)) (map (λ (q : Place). resolved ds q.0 q.1) (map (λ (v : ℕ). (dev, v)) (range_with_len from n)))
ways_few ds d w dev from zero p ranked known all to = omega arith
ways_few ds d w dev from (suc n) p ranked known all to =
    let rest = ways_few ds d w dev (from + 1) n p ranked known (λ v ge lt. all v (omega (arith, ge)) (omega (arith, lt))) to in
    let one = sum_by-cons (way ds d w) (dev, from) (map (λ (v : ℕ). (dev, v)) (range_with_len (from + 1) n)) in
    let two = sum_by-cons (λ (q : Option Place). one_if (is_at q p.0 p.1)) (resolved ds dev from) (map (λ (q : Place). resolved ds q.0 q.1) (map (λ (v : ℕ). (dev, v)) (range_with_len (from + 1) n))) in
    let first : way ds d w (dev, from) ≤ one_if (is_at (resolved ds dev from) p.0 p.1) = ⊎_elim
    (λ none. omega (arith, none))
    (λ is.
    let w1 = is.0 in
    let at : one_if (is_at (resolved ds dev from) p.0 p.1) ≡ 1 = ap (λ (o : Option Place). one_if (is_at o p.0 p.1)) (is.1 ∙ to) ∙ ap one_if (is_itself p) in
    omega (arith, w1, at))
    (way_once (suc (later_count ds dev)) ds d w dev from ranked known (omega arith) (all from (omega arith) (omega arith))) in
    omega (arith, rest, one, two, first)

-- and none passes one that leads nowhere
ways_zero : (ds : Devices) (d w dev from n : ℕ) → IsRanked ds → dev < ds.count → ((v : ℕ) → from ≤ v → v < from + n → is_some (resolved ds dev v) ≡ true) → resolved ds d w ≡ None → sum_by (way ds d w) (map (λ (v : ℕ). (dev, v)) (range_with_len from n)) ≡ 0
ways_zero ds d w dev from zero ranked known all none = refl
ways_zero ds d w dev from (suc n) ranked known all none =
    let rest = ways_zero ds d w dev (from + 1) n ranked known (λ v ge lt. all v (omega (arith, ge)) (omega (arith, lt))) none in
    let one = sum_by-cons (way ds d w) (dev, from) (map (λ (v : ℕ). (dev, v)) (range_with_len (from + 1) n)) in
    let some = all from (omega arith) (omega arith) in
    let first : way ds d w (dev, from) ≡ 0 = ⊎_elim
    (λ no. no)
    (λ is. absurd (none_some (resolved ds dev from) (is.1 ∙ none) some))
    (way_once (suc (later_count ds dev)) ds d w dev from ranked known (omega arith) some) in
    omega (arith, rest, one, first)

-- an address that leads nowhere twice passes nothing twice
pub passed_once : (ds : Devices) (a : Dva) (d w : ℕ) → IsRanked ds → a.dev < ds.count → is_resolved ds a ≡ true → ((e v : ℕ) → resolve_hits ds a e v ≤ 1) → pass_hits ds a d w ≤ 1
passed_once ds a d w ranked known all once = ⊎_elim
    (λ none. let z = ways_zero ds d w a.dev a.start a.len ranked known each none in omega (arith, z))
    (λ (p : (p : Place) × (resolved ds d w ≡ Some p)). let few = ways_few ds d w a.dev a.start a.len p.0 ranked known each p.1 in let one = once p.0.0 p.0.1 in omega (arith, few, one))
    (cases_option (resolved ds d w))
  where
    each : (v : ℕ) → a.start ≤ v → v < a.start + a.len → is_some (resolved ds a.dev v) ≡ true
    each v ge lt =
        let at : a.start + (v - a.start) ≡ v = omega (arith, ge) in
        ap (λ (i : ℕ). is_some (resolved ds a.dev i)) (sym at) ∙ leads_each ds a all (v - a.start) (omega (arith, ge, lt))

-- ---- units and entries

target_source : (es : List Entry) (u : ℕ) (p : Place) → target es u ≡ Some p → has_source es u ≡ true
target_source [] u p is = absurd (cc)
target_source (e ∷ es) u p is = ⊎_elim
    (λ got. rw got refl)
    (λ not. let rest = target_source es u p (sym (rw not refl) ∙ is) in rw not rest)
    (cases_bool (in_source e u))

has_target : (k : ℕ) (qs : List Part) (from end : ℕ) → FollowFrom from end qs → from ≤ k → k < end → (x : Place) × (piece_target qs k ≡ Some x)
has_target k [] from end follow ge lt = absurd (omega (arith, follow, ge, lt))
has_target k (q ∷ qs) from end follow ge lt = ⊎_elim
    (λ in_it. ((q.dev, q.at.start + (k - q.split)), target_first q qs k in_it))
    (λ past. let rest = has_target k qs (q.split + q.at.len) end follow.2 past lt in (rest.0, target_later q qs k past ∙ rest.1))
    (cases_lt k (q.split + q.at.len))

-- each unit of an extent that has an image has an entry
pub image_entries : (es : List Entry) (e : Extent) (qs : List Part) → IsImage es e qs → HasEntries es e
image_entries es e qs image u inside =
    let ge : e.start ≤ u = grind (arith, nat_tests, inside) in
    let lt : u - e.start < e.len = grind (arith, nat_tests, inside) in
    let x = has_target (u - e.start) qs 0 e.len image.follow (omega arith) lt in
    let at : e.start + (u - e.start) ≡ u = omega (arith, ge) in
    target_source es u x.0 (ap (target es) (sym at) ∙ (sym (image.targets (u - e.start) lt) ∙ x.1))

some_behind : (split from end : ℕ) (qs : List Part) → FollowFrom from end qs → AllByRecursion (λ (q : Part). 0 < q.at.len) (parts_behind split qs)
some_behind split from end [] follow = tt
some_behind split from end (q ∷ qs) follow = (follow.1, some_behind split (q.split + q.at.len) end qs follow.2)

visits_mapped : (ds : Devices) (vs : List Visited) (left : List Part) → AreVisits ds left vs → AllByRecursion (λ (q : Part). 0 < q.at.len) left → AllByRecursion (IsMapped ds) vs
visits_mapped ds [] left h some = tt
visits_mapped ds (v ∷ vs) [] h some = absurd h
visits_mapped ds (Piece split d e ∷ vs) (p ∷ left) h some =
    let len : p.at.len ≡ e.len = ap (λ (q : Part). q.at.len) h.1 in
    let own = some.0 in
    (omega (arith, own, len), visits_mapped ds vs left h.2 some.1)
visits_mapped ds (Hop d e ∷ vs) (p ∷ left) h some =
    let own : 0 < e.len = subst (λ (x : Extent). 0 < x.len) (sym h.2) some.0 in
    let entries : HasEntries (ds.entries d) e = subst (λ (i : ℕ). HasEntries (ds.entries i) e) (sym h.1) (subst (λ (x : Extent). HasEntries (ds.entries p.dev) x) (sym h.2) (image_entries (ds.entries p.dev) p.at h.3 h.4)) in
    ((own, entries), visits_mapped ds vs (parts_behind p.split h.3 ++ left) h.5 (each_append (λ (q : Part). 0 < q.at.len) (parts_behind p.split h.3) left (some_behind p.split 0 p.at.len h.3 h.4.follow) some.1))

pub all_mapped : (ds : Devices) (a : Dva) (old new : List Visited) → 0 < a.len → (v : Visits ds a old new) → AllByRecursion (IsMapped ds) v.visits
all_mapped ds a old new some v =
    let not : (a.len == 0) ≡ false = grind (arith, nat_tests, some) in
    let order : AreVisits ds (as_part a ∷ []) v.visits = subst (λ (left : List Part). AreVisits ds left v.visits) (rw not refl) v.order in
    visits_mapped ds v.visits (as_part a ∷ []) order (some, tt)
