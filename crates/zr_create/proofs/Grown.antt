-- What the disks hold of blocks and of metadata once a pool has a device more: all that they held before.
use Rattle.std.proofs.Common.{◌≡◌, ◌∙◌, ◌⊎◌, inl, inr, ℕ, zero, suc, ◌+◌, ◌<◌, ◌≤◌, Bool, true, false, nat_lt, List, [], ◌∷◌, ◌++◌, length, map, Option, None, Some, refl, sym, ap, subst, arith}
use Rattle.std.specs.Prelude.{◌&&◌, ◌==◌, All, if◌then◌else◌, is_some, option_and_then, slice_index}
use Rattle.std.specs.List.{flat_map, list_all, list_any, range_with_len, sum_by}
use Rattle.std.proofs.lemmas.Bool.Decides.{nat_tests}
use Rattle.std.proofs.Math.Seq.{get_or-append_seam}
use Rattle.std.proofs.lemmas.Bool.{cases_eq, cases_lt}
use Rattle.std.proofs.lemmas.List.{append-nil, get_or_append_left, length-append}
use Rattle.std.proofs.lemmas.List.Elements.{All-cons, All-head, All-nil, All-tail}
use Rattle.std.proofs.lemmas.List.Sums.{sum_by-cons}
use Rattle.std.proofs.lemmas.Option.{option_and_then_some}
use Rattle.zr_base.specs.declared.space.DevPart.{DevPart}
use Rattle.zr_base.specs.declared.space.DevState.TheVariants.{On}
use Rattle.zr_base.specs.declared.space.Dva.{Dva}
use Rattle.zr_base.specs.declared.space.Entry.{Entry}
use Rattle.zr_base.specs.Extents.{has_unit}
use Rattle.zr_bptr.specs.declared.Bptr.{Bptr}
use Rattle.zr_cache.specs.declared.table.Cache.{Cache}
use Rattle.zr_rules.specs.Devices.{state_at}
use Rattle.zr_rules.specs.Equation.{devices_in, live_hits, way_hits, ways_in, fresh_in, Spends}
use Rattle.zr_rules.specs.Mappings.{entry_at, target}
use Rattle.zr_rules.specs.Places.{Place, count_below, is_fresh, is_gone, is_leaving, is_place, no_part, one_if, part_of, places_of, state_of_dev}
use Rattle.zr_rules.specs.Resolve.{is_there, is_at, leads_to, pass_hits, passed, passed_units, resolve, resolve_hits, resolved, resolved_units, is_resolved}
use Rattle.zr_rules.specs.Roles.{Role, is_live_role, is_copy_role}
use Rattle.zr_rules.specs.Roles.Role.{Absent, Free}
use Rattle.zr_rules.specs.Space.{Space, has_place, role_at}
use Rattle.zr_rules.specs.Steps as steps
use Rattle.zr_space.specs.Drops.{IsMeta}
use Rattle.zr_space.specs.Live.{IsFreeable}
use Rattle.zr_space.proofs.Paths.{part_past}
use Rattle.zr_store.specs.Store.{Stored, Swaps, Now}
use Rattle.zr_store.proofs.Meeting.{at_each}
use Rattle.zr_vdev.specs.Alike.{IsCopyAt}
use Rattle.zr_vdev.specs.Caches.{AreRead}
use Rattle.zr_vdev.specs.Runs.{view_of}
use Rattle.zr_vdev.specs.Stores.{HoldsBlocks, IsAll, IsInUse, IsStoredAt, MayGoBack, addresses_of, is_current}
use Rattle.zr_vdev.specs.declared.kind.Kind.{Kind}
use Rattle.zr_vdev.specs.declared.kind.Kind.TheVariants.{Block, Meta}
use Rattle.zr_vdev.proofs.Moves.{bytes_now, each_resolves, holds_all}
use Rattle.zr_view.specs.Views.{slot_of, unit_bytes, place_bytes, address_bytes}
use Rattle.zr_create.proofs.Taken.{new_part}

pub false_true : false ≡ true → ⊥
false_true e = cc

both : (a b : Bool) → (a && b) ≡ true → (a ≡ true) × (b ≡ true)
both true b h = (refl, h)
both false b h = cc

if_false : {A : Type 0} (b : Bool) (x y : A) → b ≡ false → (if b then x else y) ≡ y
if_false true x y h = cc
if_false false x y h = refl

cases_bool : (b : Bool) → (b ≡ true) ⊎ (b ≡ false)
cases_bool true = inl refl
cases_bool false = inr refl

nothing_some : (p : Place) → None ≡ Some p → ⊥
nothing_some p e = cc

some_same : (p q : Place) → Some p ≡ Some q → p ≡ q
some_same p q e = cc

-- a unit of a device that has it not is absent
pub absent : (s : Space) (d u : ℕ) → has_place s d u ≡ false → role_at s d u ≡ Absent
unfolding role_at
absent s d u none = rw none refl

count_same : (n : ℕ) (f g : ℕ → Bool) → ((k : ℕ) → f k ≡ g k) → count_below n f ≡ count_below n g
count_same zero f g same = refl
count_same (suc n) f g same = let rest = count_same n f g same in let last = ap one_if (same n) in omega (arith, rest, last)

module _ (s t : Space) (units txg : ℕ) (adds : steps.AddsDevice s t units txg) where
  more : length t.parts.devs ≡ length s.parts.devs + 1
  more = ap (λ (ps : List DevPart). length ps) adds.devs ∙ length-append s.parts.devs (new_part units txg ∷ [])

  pub part_stays : (d : ℕ) → d < length s.parts.devs → part_of t.parts.devs d ≡ part_of s.parts.devs d
  part_stays d lt = ap (λ (ps : List DevPart). part_of ps d) adds.devs ∙ get_or_append_left s.parts.devs (new_part units txg ∷ []) no_part d lt

  -- a device that is gone was there before
  gone_before : (d : ℕ) → is_gone (state_of_dev s.parts.devs d) ≡ true → d < length s.parts.devs
  gone_before d gone = elim (cases_lt d (length s.parts.devs)) [
    | inl lt ↦ lt
    | inr le ↦ absurd (false_true (sym (ap (λ (p : DevPart). is_gone p.row.state) (part_past s.parts.devs d le)) ∙ gone))
  ]

  -- ---- where an address leads

  there_is : (d u : ℕ) → is_there (devices_in s) d u ≡ true → (d < length s.parts.devs) × (u < (part_of s.parts.devs d).row.units)
  there_is d u there = (grind (arith, nat_tests, there), grind (arith, nat_tests, there))

  there_still : (d u : ℕ) → is_there (devices_in s) d u ≡ true → is_there (devices_in t) d u ≡ true
  there_still d u there =
      let within = there_is d u there in
      let known = within.0 in
      let low = within.1 in
      let same = ap (λ (p : DevPart). p.row.units) (part_stays d known) in
      grind (arith, nat_tests, known, low, same, more)

  state_stays : (d : ℕ) → d < length s.parts.devs → is_gone (state_at (devices_in t) d) ≡ is_gone (state_at (devices_in s) d)
  state_stays d lt = ap (λ (p : DevPart). is_gone p.row.state) (part_stays d lt)

  -- the way of a unit that leads somewhere is the way that it was, and ends on a device of before
  record IsSameWay (n m d u : ℕ) (p : Place) : Type 0 where
    leads : resolve m (devices_in t) d u ≡ Some p
    passes : passed m (devices_in t) d u ≡ passed n (devices_in s) d u
    known : p.0 < length s.parts.devs

  way_there : (n m d u : ℕ) (p : Place) → n ≤ m → is_gone (state_at (devices_in s) d) ≡ false → resolve (suc n) (devices_in s) d u ≡ Some p → IsSameWay (suc n) (suc m) d u p
  way_there n m d u p le here leads = elim (cases_bool (is_there (devices_in s) d u)) [
    | inl there ↦
        let within = there_is d u there in
        let here_now = state_stays d within.0 ∙ here in
        let is : Some (d, u) ≡ Some p = sym (rw here rw there refl) ∙ leads in
        record {
          leads = rw here_now rw (there_still d u there) is;
          passes = rw here_now rw here refl;
          known = subst (λ (q : Place). q.0 < length s.parts.devs) (some_same (d, u) p is) within.0;
        }
    | inr out ↦ let none : None ≡ Some p = sym (rw here rw out refl) ∙ leads in absurd (nothing_some p none)
  ]

  way_through : (n m d u : ℕ) (p q : Place) → is_gone (state_at (devices_in s) d) ≡ true → target ((devices_in s).entries d) u ≡ Some q → IsSameWay n m q.0 q.1 p → IsSameWay (suc n) (suc m) d u p
  way_through n m d u p q gone to rest =
      let known = gone_before d gone in
      let gone_now : is_gone (state_at (devices_in t) d) ≡ true = state_stays d known ∙ gone in
      let to_now : target ((devices_in t).entries d) u ≡ Some q = ap (λ (x : DevPart). target x.entries u) (part_stays d known) ∙ to in
      let was : passed (suc n) (devices_in s) d u ≡ (d, u) ∷ passed n (devices_in s) q.0 q.1 = rw (gone, to) (ap (λ (ps : List Place). (d, u) ∷ ps) (append-nil (passed n (devices_in s) q.0 q.1))) in
      let is : passed (suc m) (devices_in t) d u ≡ (d, u) ∷ passed m (devices_in t) q.0 q.1 = rw (gone_now, to_now) (ap (λ (ps : List Place). (d, u) ∷ ps) (append-nil (passed m (devices_in t) q.0 q.1))) in
      record {
        leads = rw (gone_now, to_now) rest.leads;
        passes = is ∙ (ap (λ (ps : List Place). (d, u) ∷ ps) rest.passes ∙ sym was);
        known = rest.known;
      }

  way_still : (n m d u : ℕ) (p : Place) → n ≤ m → resolve n (devices_in s) d u ≡ Some p → IsSameWay n m d u p
  way_still zero m d u p le leads = absurd (nothing_some p leads)
  way_still (suc n) zero d u p le leads = absurd (omega (arith, le))
  way_still (suc n) (suc m) d u p le leads = elim (cases_bool (is_gone (state_at (devices_in s) d))) [
    | inr here ↦ way_there n m d u p (omega (arith, le)) here leads
    | inl gone ↦
        let step : option_and_then (λ (q : Place). resolve n (devices_in s) q.0 q.1) (target ((devices_in s).entries d) u) ≡ Some p = sym (rw gone refl) ∙ leads in
        option_and_then_some (λ (q : Place). resolve n (devices_in s) q.0 q.1) (target ((devices_in s).entries d) u) p step
        (λ q to rest. way_through n m d u p q gone to (way_still n m q.0 q.1 p (omega (arith, le)) rest))
  ]

  -- so it is of each unit that leads somewhere
  record IsStill (d u : ℕ) : Type 0 where
    leads : resolved (devices_in t) d u ≡ resolved (devices_in s) d u
    passes : passed_units (devices_in t) d u ≡ passed_units (devices_in s) d u
    slot : (slots now_slots : List (Option ℕ)) → ((e : ℕ) → e < length s.parts.devs → slot_of now_slots e ≡ slot_of slots e) → (disks : List (List ℕ))
        → place_bytes (view_of disks now_slots t) (resolved (devices_in s) d u) ≡ place_bytes (view_of disks slots s) (resolved (devices_in s) d u)
    known : (e v : ℕ) → is_at (resolved (devices_in s) d u) e v ≡ true → e < length s.parts.devs

  is_still : (d u : ℕ) → is_some (resolved (devices_in s) d u) ≡ true → IsStill d u
  is_still d u some = (elim (resolved (devices_in s) d u) as (λ (o : Option Place). resolved (devices_in s) d u ≡ o → is_some o ≡ true → IsStill d u) [
    | None ↦ λ is none. absurd (false_true none)
    | Some p ↦ λ is has.
        let way = way_still (length s.parts.devs) (length t.parts.devs) d u p (omega (arith, more)) is in
        record {
          leads = way.leads ∙ sym is;
          passes = way.passes;
          slot = λ slots now_slots same disks. rw is (ap (λ (o : Option ℕ). unit_bytes disks o p.1) (same p.0 way.known));
          known = λ e v at. let here : is_at (Some p) e v ≡ true = sym (ap (λ (o : Option Place). is_at o e v) is) ∙ at in let dev : p.0 ≡ e = grind (arith, nat_tests, here) in let k = way.known in omega (arith, k, dev);
        }
  ]) refl some

  leads_still : (d u : ℕ) → is_some (resolved (devices_in s) d u) ≡ true → resolved (devices_in t) d u ≡ resolved (devices_in s) d u
  leads_still d u some = (is_still d u some).leads

  -- ---- a list of units that lead somewhere

  abbrev AllLead : List Place → Type 0
  AllLead ps = list_all (λ (o : Option Place). is_some o) (map (λ (p : Place). resolved (devices_in s) p.0 p.1) ps) ≡ true

  first_leads : (p : Place) (ps : List Place) → AllLead (p ∷ ps) → is_some (resolved (devices_in s) p.0 p.1) ≡ true
  first_leads p ps all = (both (is_some (resolved (devices_in s) p.0 p.1)) (list_all (λ (o : Option Place). is_some o) (map (λ (q : Place). resolved (devices_in s) q.0 q.1) ps)) all).0

  others_lead : (p : Place) (ps : List Place) → AllLead (p ∷ ps) → AllLead ps
  others_lead p ps all = (both (is_some (resolved (devices_in s) p.0 p.1)) (list_all (λ (o : Option Place). is_some o) (map (λ (q : Place). resolved (devices_in s) q.0 q.1) ps)) all).1

  each_still : (ps : List Place) → AllLead ps → map (λ (p : Place). resolved (devices_in t) p.0 p.1) ps ≡ map (λ (p : Place). resolved (devices_in s) p.0 p.1) ps
  each_still [] all = refl
  each_still (p ∷ ps) all =
      ap (λ (o : Option Place). o ∷ map (λ (q : Place). resolved (devices_in t) q.0 q.1) ps) (leads_still p.0 p.1 (first_leads p ps all))
      ∙ ap (λ (os : List (Option Place)). resolved (devices_in s) p.0 p.1 ∷ os) (each_still ps (others_lead p ps all))

  units_still : (a : Dva) → is_resolved (devices_in s) a ≡ true → resolved_units (devices_in t) a ≡ resolved_units (devices_in s) a
  units_still a resolves = each_still (places_of a) resolves

  abbrev passes_of : Space → ℕ → ℕ → Place → ℕ
  passes_of x d u p = sum_by (λ (q : Place). one_if (is_place q d u)) (passed_units (devices_in x) p.0 p.1)

  passes_still : (ps : List Place) (d u : ℕ) → AllLead ps → sum_by (passes_of t d u) ps ≡ sum_by (passes_of s d u) ps
  passes_still [] d u all = refl
  passes_still (p ∷ ps) d u all =
      let rest = passes_still ps d u (others_lead p ps all) in
      let first : passes_of t d u p ≡ passes_of s d u p = ap (λ (qs : List Place). sum_by (λ (q : Place). one_if (is_place q d u)) qs) (is_still p.0 p.1 (first_leads p ps all)).passes in
      omega (arith, rest, first, sum_by-cons (passes_of t d u) p ps, sum_by-cons (passes_of s d u) p ps)

  known_end : (ps : List Place) (e v : ℕ) → AllLead ps → list_any (λ (o : Option Place). is_at o e v) (map (λ (p : Place). resolved (devices_in s) p.0 p.1) ps) ≡ true → e < length s.parts.devs
  known_end [] e v all met = absurd (false_true met)
  known_end (p ∷ ps) e v all met = elim (cases_bool (is_at (resolved (devices_in s) p.0 p.1) e v)) [
    | inl here ↦ (is_still p.0 p.1 (first_leads p ps all)).known e v here
    | inr out ↦ known_end ps e v (others_lead p ps all) (sym (rw out refl) ∙ met)
  ]

  at_each_unit : (dev w n : ℕ) → AllLead (map (λ (u : ℕ). (dev, u)) (range_with_len w n)) → (k : ℕ) → k < n → is_some (resolved (devices_in s) dev (w + k)) ≡ true
  at_each_unit dev w zero all k lt = absurd (omega (arith, lt))
  at_each_unit dev w (suc n) all zero lt = subst (λ (j : ℕ). is_some (resolved (devices_in s) dev j) ≡ true) (omega arith) (first_leads (dev, w) _ all)
  at_each_unit dev w (suc n) all (suc k) lt =
      subst (λ (j : ℕ). is_some (resolved (devices_in s) dev j) ≡ true) (omega arith) (at_each_unit dev (w + 1) n (others_lead (dev, w) _ all) k (omega (arith, lt)))

  -- ---- addresses that lead somewhere

  abbrev Leads : Dva → Type 0
  Leads a = is_resolved (devices_in s) a ≡ true

  hits_still : (a : Dva) (d u : ℕ) → Leads a → resolve_hits (devices_in t) a d u ≡ resolve_hits (devices_in s) a d u
  hits_still a d u leads = ap (λ (os : List (Option Place)). sum_by (λ (o : Option Place). one_if (is_at o d u)) os) (units_still a leads)

  pass_hits_still : (a : Dva) (d u : ℕ) → Leads a → pass_hits (devices_in t) a d u ≡ pass_hits (devices_in s) a d u
  pass_hits_still a d u leads = passes_still (places_of a) d u leads

  live_hits_still : (list : List Dva) (d u : ℕ) → All Leads list → live_hits (devices_in t) list d u ≡ live_hits (devices_in s) list d u
  live_hits_still [] d u all = refl
  live_hits_still (a ∷ list) d u all =
      let rest = live_hits_still list d u (All-tail Leads a list all) in
      let first = hits_still a d u (All-head Leads a list all) in
      omega (arith, rest, first, sum_by-cons (λ (x : Dva). resolve_hits (devices_in t) x d u) a list, sum_by-cons (λ (x : Dva). resolve_hits (devices_in s) x d u) a list)

  way_hits_still : (list : List Dva) (d u : ℕ) → All Leads list → way_hits (devices_in t) list d u ≡ way_hits (devices_in s) list d u
  way_hits_still [] d u all = refl
  way_hits_still (a ∷ list) d u all =
      let rest = way_hits_still list d u (All-tail Leads a list all) in
      let first = pass_hits_still a d u (All-head Leads a list all) in
      omega (arith, rest, first, sum_by-cons (λ (x : Dva). pass_hits (devices_in t) x d u) a list, sum_by-cons (λ (x : Dva). pass_hits (devices_in s) x d u) a list)

  -- ---- what is obsolete

  -- of a device that came behind the others nothing is
  none_fresh : (d u : ℕ) → length s.parts.devs ≤ d → is_fresh t.parts.devs d u ≡ false
  none_fresh d u le = elim (cases_eq d (length s.parts.devs)) [
    | inl is ↦
        ap (λ (ps : List DevPart). has_unit (part_of ps d).fresh u) adds.devs
        ∙ (ap (λ (e : ℕ). has_unit (part_of (s.parts.devs ++ new_part units txg ∷ []) e).fresh u) is ∙ ap (λ (p : DevPart). has_unit p.fresh u) (get_or-append_seam s.parts.devs (new_part units txg) [] no_part))
    | inr ne ↦ ap (λ (p : DevPart). has_unit p.fresh u) (part_past t.parts.devs d (omega (arith, le, ne, more)))
  ]

  fresh_still : (d u : ℕ) → is_fresh s.parts.devs d u ≡ false → is_fresh t.parts.devs d u ≡ false
  fresh_still d u none = elim (cases_lt d (length s.parts.devs)) [
    | inl lt ↦ ap (λ (p : DevPart). has_unit p.fresh u) (part_stays d lt) ∙ none
    | inr le ↦ none_fresh d u le
  ]

  -- a device that came behind the others is in service
  new_serves : (d : ℕ) → length s.parts.devs ≤ d → state_of_dev t.parts.devs d ≡ On
  new_serves d le = elim (cases_eq d (length s.parts.devs)) [
    | inl is ↦
        ap (λ (ps : List DevPart). (part_of ps d).row.state) adds.devs
        ∙ (ap (λ (e : ℕ). (part_of (s.parts.devs ++ new_part units txg ∷ []) e).row.state) is ∙ ap (λ (p : DevPart). p.row.state) (get_or-append_seam s.parts.devs (new_part units txg) [] no_part))
    | inr ne ↦ ap (λ (p : DevPart). p.row.state) (part_past t.parts.devs d (omega (arith, le, ne, more)))
  ]

  -- so one that is gone or leaving was there before
  gone_stays : (d : ℕ) → is_gone (state_of_dev t.parts.devs d) ≡ true → d < length s.parts.devs
  gone_stays d gone = elim (cases_lt d (length s.parts.devs)) [
    | inl lt ↦ lt
    | inr le ↦ absurd (false_true (sym (ap is_gone (new_serves d le)) ∙ gone))
  ]

  pub leaving_before : (d : ℕ) → is_leaving (state_of_dev t.parts.devs d) ≡ true → d < length s.parts.devs
  leaving_before d leaving = elim (cases_lt d (length s.parts.devs)) [
    | inl lt ↦ lt
    | inr le ↦ absurd (false_true (sym (ap is_leaving (new_serves d le)) ∙ leaving))
  ]

  ways_still : (list : List Dva) (d : ℕ) (e : Entry) → All Leads list → ways_in (devices_in t) list d e ≡ ways_in (devices_in s) list d e
  ways_still list d e all = count_same e.len _ _ (λ k. ap (λ (n : ℕ). nat_lt 0 n) (way_hits_still list d (e.src + k) all))

  -- addresses that could be given back one after another still can
  spends_still : (list : List Dva) → All Leads list → Spends s list → Spends t list
  spends_still list all h = record {
    passed = λ d u some. fresh_still d u (h.passed d u (let same = way_hits_still list d u all in omega (arith, same, some)));
    entries = λ d i gone lt.
        let known = gone_stays d gone in
        let part = part_stays d known in
        let was : is_gone (state_of_dev s.parts.devs d) ≡ true = sym (ap (λ (p : DevPart). is_gone p.row.state) part) ∙ gone in
        entry_still list d i all part (h.entries d i was (subst (λ (p : DevPart). i < length p.entries) part lt));
  }
    where
      entry_still : (list : List Dva) (d i : ℕ) → All Leads list → part_of t.parts.devs d ≡ part_of s.parts.devs d
          → slice_index (part_of s.parts.devs d).counts i + fresh_in (part_of s.parts.devs d) (entry_at (part_of s.parts.devs d).entries i) + ways_in (devices_in s) list d (entry_at (part_of s.parts.devs d).entries i) ≤ (entry_at (part_of s.parts.devs d).entries i).len
          → slice_index (part_of t.parts.devs d).counts i + fresh_in (part_of t.parts.devs d) (entry_at (part_of t.parts.devs d).entries i) + ways_in (devices_in t) list d (entry_at (part_of t.parts.devs d).entries i) ≤ (entry_at (part_of t.parts.devs d).entries i).len
      entry_still list d i all part room =
          subst (λ (p : DevPart). slice_index p.counts i + fresh_in p (entry_at p.entries i) + ways_in (devices_in t) list d (entry_at p.entries i) ≤ (entry_at p.entries i).len) (sym part)
          (let same = ways_still list d (entry_at (part_of s.parts.devs d).entries i) all in omega (arith, room, same))

  -- ---- what is in use

  used_still : (a : Dva) → IsFreeable s a → IsFreeable t a
  used_still a h =
      let known = h.known in
      let units_are = units_still a h.resolves in
      record {
        known = omega (arith, known, more);
        some = h.some;
        resolves = ap (λ (os : List (Option Place)). list_all (λ (o : Option Place). is_some o) os) units_are ∙ h.resolves;
        once = λ d u. let few = h.once d u in let same = hits_still a d u h.resolves in omega (arith, few, same);
        used = λ d u leads.
            let was : leads_to (devices_in s) a d u ≡ true = ap (λ (os : List (Option Place)). list_any (λ (o : Option Place). is_at o d u) os) (sym units_are) ∙ leads in
            let dev = known_end (places_of a) d u h.resolves was in
            let old : ((d == length s.parts.devs) && nat_lt u units) ≡ false = grind (arith, nat_tests, dev) in
            ap (λ (r : Role). is_live_role r) (adds.roles d u ∙ if_false ((d == length s.parts.devs) && nat_lt u units) Free (role_at s d u) old) ∙ h.used d u was;
        spends = spends_still (a ∷ []) (All-cons Leads a [] h.resolves (All-nil Leads)) h.spends;
      }

  role_before : (d u : ℕ) → d < length s.parts.devs → role_at t d u ≡ role_at s d u
  role_before d u lt =
      let old : ((d == length s.parts.devs) && nat_lt u units) ≡ false = grind (arith, nat_tests, lt) in
      adds.roles d u ∙ if_false ((d == length s.parts.devs) && nat_lt u units) Free (role_at s d u) old

  meta_still : (a : Dva) → IsMeta s a → IsMeta t a
  meta_still a h =
      let known = h.known in
      record {
        known = omega (arith, known, more);
        some = h.some;
        within = subst (λ (p : DevPart). a.start + a.len ≤ p.row.units) (sym (part_stays a.dev known)) h.within;
        used = elim h.used [ inl all ↦ inl (λ u is. role_before a.dev u known ∙ all u is) | inr all ↦ inr (λ u is. role_before a.dev u known ∙ all u is) ];
      }

  in_use_still : (kind : Kind) (a : Dva) → IsInUse kind s a → IsInUse kind t a
  in_use_still Block a h = used_still a h
  in_use_still Meta a h = meta_still a h

  stored_still : (kind : Kind) (a : Dva) → IsStoredAt kind s None a → IsStoredAt kind t None a
  stored_still kind a h = record { used = in_use_still kind a h.used; whole = tt }

  back_still : (kind : Kind) (list : List Dva) → All Leads list → MayGoBack kind s list → MayGoBack kind t list
  back_still Block list all h = spends_still list all h
  back_still Meta list all h = tt

  -- ---- that some block leads to each unit in use

  -- a unit with a role that is no free unit's is one of a device of before
  pub role_known : (P : Role → Bool) → P Absent ≡ false → P Free ≡ false → (d u : ℕ) → P (role_at t d u) ≡ true → d < length s.parts.devs
  role_known P away unused d u is = elim (cases_lt d (length s.parts.devs)) [
    | inl lt ↦ lt
    | inr le ↦ absurd (false_true (sym (none (grind (arith, nat_tests, le)) ((d == length s.parts.devs) && nat_lt u units) (adds.roles d u)) ∙ is))
  ]
    where
      none : has_place s d u ≡ false → (b : Bool) → role_at t d u ≡ (if b then Free else role_at s d u) → P (role_at t d u) ≡ false
      none beyond true new = ap P new ∙ unused
      none beyond false new = ap P (new ∙ absent s d u beyond) ∙ away

  -- so a copy was one before
  pub copy_before : (d u : ℕ) (p : Place) → IsCopyAt t d u p → IsCopyAt s d u p
  copy_before d u p c =
      let known = leaving_before d c.leaving in
      let part = part_stays d known in
      record {
        leaving = sym (ap (λ (q : DevPart). is_leaving q.row.state) part) ∙ c.leaving;
        within = subst (λ (q : DevPart). u < q.row.units) part c.within;
        unmarked = sym (ap (λ (q : DevPart). has_unit q.fresh u) part) ∙ c.unmarked;
        leads = sym (ap (λ (q : DevPart). target q.entries u) part) ∙ c.leads;
        copy = sym (ap is_copy_role (role_before p.0 p.1 (role_known is_copy_role refl refl p.0 p.1 c.copy))) ∙ c.copy;
      }

  -- a unit of metadata is one of a device of before
  meta_known : (d u : ℕ) → is_current (role_at s d u) ≡ true → d < length s.parts.devs
  meta_known d u is = elim (cases_lt d (length s.parts.devs)) [
    | inl lt ↦ lt
    | inr le ↦ absurd (false_true (sym (ap is_current (absent s d u (grind (arith, nat_tests, le)))) ∙ is))
  ]

  -- and where all were known before they are
  all_still : (kind : Kind) (list : List Dva) → All Leads list → IsAll kind s list → IsAll kind t list
  all_still Block list lead all = record {
    used = λ d u live.
        let was = all.used d u (sym (ap is_live_role (role_before d u (role_known is_live_role refl refl d u live))) ∙ live) in
        let same = live_hits_still list d u lead in
        omega (arith, was, same);
    copied = λ d u p c.
        let before = copy_before d u p c in
        ap is_live_role (role_before d u (leaving_before d c.leaving)) ∙ all.copied d u p before;
  }
  all_still Meta list lead all = record {
    used = λ d u is.
        let was = all.used d u (sym (ap is_current (role_before d u (role_known is_current refl refl d u is))) ∙ is) in
        let same = live_hits_still list d u lead in
        omega (arith, was, same);
    current = λ d u some.
        let same = live_hits_still list d u lead in
        let was = all.current d u (omega (arith, some, same)) in
        ap is_current (role_before d u (meta_known d u was)) ∙ was;
  }

  -- ---- bytes

  module _ (slots now_slots : List (Option ℕ)) (same_slots : (d : ℕ) → d < length s.parts.devs → slot_of now_slots d ≡ slot_of slots d) (disks : List (List ℕ)) where
    place_same : (d u : ℕ) → is_some (resolved (devices_in s) d u) ≡ true → place_bytes (view_of disks now_slots t) (resolved (devices_in t) d u) ≡ place_bytes (view_of disks slots s) (resolved (devices_in s) d u)
    place_same d u leads = let still = is_still d u leads in ap (place_bytes (view_of disks now_slots t)) still.leads ∙ still.slot slots now_slots same_slots disks

    bytes_same : (ps : List Place) → AllLead ps
        → flat_map (place_bytes (view_of disks now_slots t)) (map (λ (p : Place). resolved (devices_in t) p.0 p.1) ps) ≡ flat_map (place_bytes (view_of disks slots s)) (map (λ (p : Place). resolved (devices_in s) p.0 p.1) ps)
    bytes_same [] all = refl
    bytes_same (p ∷ ps) all =
        ap (λ (l : List ℕ). l ++ flat_map (place_bytes (view_of disks now_slots t)) (map (λ (q : Place). resolved (devices_in t) q.0 q.1) ps)) (place_same p.0 p.1 (first_leads p ps all))
        ∙ ap (λ (l : List ℕ). place_bytes (view_of disks slots s) (resolved (devices_in s) p.0 p.1) ++ l) (bytes_same ps (others_lead p ps all))

    -- an address on a device of before reads the same
    pub address_still : (a : Dva) → is_resolved (devices_in s) a ≡ true → address_bytes (view_of disks now_slots t) a ≡ address_bytes (view_of disks slots s) a
    address_still a resolves = bytes_same (places_of a) resolves

  -- ---- blocks

  module _ (slots now_slots : List (Option ℕ)) (before now : List (List ℕ)) (reads : (a : Dva) → is_resolved (devices_in s) a ≡ true → address_bytes (view_of now now_slots t) a ≡ address_bytes (view_of before slots s) a) where
    read_still : (c : Cache) → AreRead before slots s c → AreRead now now_slots t c
    read_still c read e among =
        let was = read e among in
        let a = e.0.pointer.at in
        let are = was.runs_of in
        record {
          runs_of = record {
            resolves = ap (λ (os : List (Option Place)). list_all (λ (o : Option Place). is_some o) os) (units_still a are.resolves) ∙ are.resolves;
            follow = are.follow;
            targets = λ k lt. are.targets k lt ∙ sym (leads_still a.dev (a.start + k) (at_each_unit a.dev a.start a.len are.resolves k lt));
          };
          same = was.same ∙ sym (reads a are.resolves);
        }

    -- where each address of before reads the same, all blocks are held
    pub held_still : (kind : Kind) (told is_told : Type 0) (c : Cache) (st : Stored) → is_told → HoldsBlocks kind slots told before s None c st → Now (HoldsBlocks kind now_slots is_told now t None c) (λ n. Swaps st n [] [])
    held_still kind told is_told c st tells held =
        let all : All (λ (b : Bptr). IsStoredAt kind t None b.at) st.pointers = λ i e lt. stored_still kind _ (held.stored i e lt) in
        let lead = each_resolves kind s None st.pointers held.stored in
        let next =
        holds_all kind now_slots is_told now t None c st.pointers tells (read_still c held.read) refl all
        (λ d u. let same = live_hits_still (addresses_of st.pointers) d u lead in let few = held.once d u in omega (arith, same, few)) (all_still kind (addresses_of st.pointers) lead held.all) (back_still kind (addresses_of st.pointers) lead held.back) in
        record {
          stored = record { pointers = st.pointers; bytes = bytes_now kind now_slots now t None };
          held = next;
          is = record {
            stored = λ weight. refl;
            kept = λ b free met.
                let was = at_each (IsStoredAt kind s None) st.pointers b.at held.stored met in
                next.there b (stored_still kind b.at was) ∙ reads b.at (held.resolves b.at met) ∙ sym (held.there b was);
          };
        }
