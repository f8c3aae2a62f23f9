-- Where addresses lead once the device is gone: to units in use, none of them twice, with the same bytes.
use Rattle.std.proofs.Common.{◌≡◌, ◌≢◌, ◌⊎◌, inl, inr, ℕ, zero, suc, ◌+◌, ◌<◌, ◌≤◌, ◌==◌, ◌&&◌, Bool, true, false, List, ◌++◌, map, Option, Some, None, refl, sym, ◌∙◌, ap, ap₂, subst, arith}
use Rattle.std.specs.Prelude.{if◌then◌else◌, is_some}
use Rattle.std.specs.List.{flat_map, list_all, range_with_len, sum_by}
use Rattle.std.proofs.lemmas.List.Sums.{sum_by-cons}
use Rattle.std.proofs.lemmas.Bool.{cases_eq}
use Rattle.std.proofs.lemmas.Bool.Decides.{nat_tests}
use Rattle.zr_base.specs.declared.space.Dva.{Dva}
use Rattle.zr_chain.proofs.Ways.{cases_bool}
use Rattle.zr_rules.specs.Devices.{Devices}
use Rattle.zr_rules.specs.Equation.{devices_in}
use Rattle.zr_rules.specs.Mappings.{target}
use Rattle.zr_rules.specs.Places.{Place, in_address, is_fresh, is_place, one_if, part_of}
use Rattle.zr_rules.specs.Resolve.{is_at, is_resolved, leads_to, pass_hits, passed_units, resolve_hits, resolved}
use Rattle.zr_rules.specs.Roles.{Role, is_copy_role, is_live_role, taken_over}
use Rattle.zr_rules.specs.Roles.Role.{Absent, Free, FreshLive, Live, FreshCopy, Copy, Kept, DeferredBlock, DeferredMeta, Late1Block, Late1Meta, Late2Block, Late2Meta, Meta, SavedMeta}
use Rattle.zr_rules.specs.Space.{Space, role_at}
use Rattle.zr_rules.specs.Steps.{Finishes}
use Rattle.zr_vdev.proofs.Leading.{address_leads, each_leads, some_leads, some_or}
use Rattle.zr_vdev.specs.Alike.{CopiesStand}
use Rattle.zr_vdev.specs.Runs.{view_of}
use Rattle.zr_view.specs.Views.{address_bytes, place_bytes, slot_of, unit_bytes}
use Rattle.zr_gone.specs.Order.{MayGo}
use Rattle.zr_gone.proofs.Copies.{IsCopiedTo, copied_to, first_source, no_source}
use Rattle.zr_gone.proofs.Going.{Turns, false_true, hits_of, maps_away, next, next_away, unit_turns}

live_over : (r : Role) → is_live_role r ≡ true → is_live_role (taken_over r) ≡ true
live_over FreshLive is = refl
live_over Live is = refl
live_over Absent is = absurd (false_true is)
live_over Free is = absurd (false_true is)
live_over FreshCopy is = absurd (false_true is)
live_over Copy is = absurd (false_true is)
live_over Kept is = absurd (false_true is)
live_over DeferredBlock is = absurd (false_true is)
live_over DeferredMeta is = absurd (false_true is)
live_over Late1Block is = absurd (false_true is)
live_over Late1Meta is = absurd (false_true is)
live_over Late2Block is = absurd (false_true is)
live_over Late2Meta is = absurd (false_true is)
live_over Meta is = absurd (false_true is)
live_over SavedMeta is = absurd (false_true is)

copy_over : (r : Role) → is_copy_role r ≡ true → is_live_role (taken_over r) ≡ true
copy_over FreshCopy is = refl
copy_over Copy is = refl
copy_over Absent is = absurd (false_true is)
copy_over Free is = absurd (false_true is)
copy_over FreshLive is = absurd (false_true is)
copy_over Live is = absurd (false_true is)
copy_over Kept is = absurd (false_true is)
copy_over DeferredBlock is = absurd (false_true is)
copy_over DeferredMeta is = absurd (false_true is)
copy_over Late1Block is = absurd (false_true is)
copy_over Late1Meta is = absurd (false_true is)
copy_over Late2Block is = absurd (false_true is)
copy_over Late2Meta is = absurd (false_true is)
copy_over Meta is = absurd (false_true is)
copy_over SavedMeta is = absurd (false_true is)

other_dev : (e d : ℕ) → e ≢ d → (e == d) ≡ false
other_dev e d other = grind (arith, nat_tests, other)

-- how many of the units lead to a place
abbrev pub led : Devices → ℕ → ℕ → ℕ → ℕ → ℕ → ℕ
led ds dev from n x y = sum_by (λ (q : Option Place). one_if (is_at q x y)) (map (λ (p : Place). resolved ds p.0 p.1) (map (λ (v : ℕ). (dev, v)) (range_with_len from n)))

led-next : (ds : Devices) (dev from n x y : ℕ) → led ds dev from (suc n) x y ≡ one_if (is_at (resolved ds dev from) x y) + led ds dev (from + 1) n x y
led-next ds dev from n x y = sum_by-cons (λ (q : Option Place). one_if (is_at q x y)) (resolved ds dev from) (map (λ (p : Place). resolved ds p.0 p.1) (map (λ (v : ℕ). (dev, v)) (range_with_len (from + 1) n)))

-- and how often they pass it
abbrev pub ways : Devices → ℕ → ℕ → ℕ → ℕ → ℕ → ℕ
ways ds dev from n x y = sum_by (λ (p : Place). hits_of x y (passed_units ds p.0 p.1)) (map (λ (v : ℕ). (dev, v)) (range_with_len from n))

ways-next : (ds : Devices) (dev from n x y : ℕ) → ways ds dev from (suc n) x y ≡ hits_of x y (passed_units ds dev from) + ways ds dev (from + 1) n x y
ways-next ds dev from n x y = sum_by-cons (λ (p : Place). hits_of x y (passed_units ds p.0 p.1)) (dev, from) (map (λ (v : ℕ). (dev, v)) (range_with_len (from + 1) n))

-- ---- a place

module _ (old new : Space) (d txg : ℕ) (may : MayGo old d txg) (fin : Finishes old new d txg) where
  abbrev IsLivePlace : Place → Type 0
  IsLivePlace p = is_live_role (role_at old p.0 p.1) ≡ true

  abbrev to_next : Place → Option Place
  to_next p = next old new d txg may fin p

  -- the unit of the device that is copied there, or the place itself
  abbrev pub cause_of : Option ℕ → ℕ → ℕ → Place
  cause_of None x y = (x, y)
  cause_of (Some w) x y = (d, w)

  abbrev pub cause : ℕ → ℕ → Place
  cause x y = cause_of (first_source (part_of old.parts.devs d) (part_of old.parts.devs d).entries x y) x y

  -- a place on the device, or one that stays
  record IsCopied (p : Place) : Type 0 where
    here : p.0 ≡ d
    place : Place
    is : to_next p ≡ Some place
    copied : IsCopiedTo old d p.1 place

  record IsKept (p : Place) : Type 0 where
    away : p.0 ≢ d
    is : to_next p ≡ Some p

  place_or : (p : Place) → IsLivePlace p → IsCopied p ⊎ IsKept p
  place_or p live = elim (cases_eq p.0 d) [
    | inl here ↦
        let to = copied_to old d may.order may.all p.1 (subst (λ (k : ℕ). is_live_role (role_at old k p.1) ≡ true) here live) in
        let dev : (p.0 == d) ≡ true = grind (arith, nat_tests, here) in
        inl (record { here = here; place = to.0; is = ap (λ (b : Bool). if b then target (part_of old.parts.devs d).entries p.1 else Some p) dev ∙ to.1.to; copied = to.1 })
    | inr away ↦ inr (record { away = away; is = next_away old new d txg may fin p away })
  ]

  place_some : (p : Place) → IsLivePlace p → is_some (to_next p) ≡ true
  place_some p live = elim (place_or p live) [
    | inl c ↦ ap (λ (o : Option Place). is_some o) c.is
    | inr k ↦ ap (λ (o : Option Place). is_some o) k.is
  ]

  at_cause : (p : Place) (x y : ℕ) → IsLivePlace p → is_at (to_next p) x y ≡ true → is_place p (cause x y).0 (cause x y).1 ≡ true
  at_cause p x y live is = elim (place_or p live) [
    | inl c ↦
        let it : is_place c.place x y ≡ true = sym (ap (λ (o : Option Place). is_at o x y) c.is) ∙ is in
        let dev : c.place.0 ≡ x = grind (arith, nat_tests, it) in
        let unit : c.place.1 ≡ y = grind (arith, nat_tests, it) in
        let source : first_source (part_of old.parts.devs d) (part_of old.parts.devs d).entries x y ≡ Some p.1 = subst (λ (v : ℕ). first_source (part_of old.parts.devs d) (part_of old.parts.devs d).entries x v ≡ Some p.1) unit (subst (λ (v : ℕ). first_source (part_of old.parts.devs d) (part_of old.parts.devs d).entries v c.place.1 ≡ Some p.1) dev c.copied.source) in
        let same : cause x y ≡ (d, p.1) = ap (λ (o : Option ℕ). cause_of o x y) source in
        let here = c.here in
        let own : is_place p d p.1 ≡ true = grind (arith, nat_tests, here) in
        subst (λ (q : Place). is_place p q.0 q.1 ≡ true) (sym same) own
    | inr k ↦
        let it : is_place p x y ≡ true = sym (ap (λ (o : Option Place). is_at o x y) k.is) ∙ is in
        let dev : p.0 ≡ x = grind (arith, nat_tests, it) in
        let unit : p.1 ≡ y = grind (arith, nat_tests, it) in
        let none = no_source old d may.order may.all x y (subst (λ (v : ℕ). is_live_role (role_at old x v) ≡ true) unit (subst (λ (v : ℕ). is_live_role (role_at old v p.1) ≡ true) dev live)) in
        let same : cause x y ≡ (x, y) = ap (λ (o : Option ℕ). cause_of o x y) none in
        subst (λ (q : Place). is_place p q.0 q.1 ≡ true) (sym same) it
  ]

  place_once : (p : Place) (x y : ℕ) → IsLivePlace p → one_if (is_at (to_next p) x y) ≤ one_if (is_place p (cause x y).0 (cause x y).1)
  place_once p x y live = elim (cases_bool (is_at (to_next p) x y)) [
    | inl is ↦ let one = ap one_if is in let it = ap one_if (at_cause p x y live is) in omega (arith, one, it)
    | inr not_it ↦ let none = ap one_if not_it in omega (arith, none)
  ]

  role_other : (x y : ℕ) → x ≢ d → role_at new x y ≡ taken_over (role_at old x y)
  role_other x y other = fin.roles x y ∙ ap (λ (b : Bool). if b then Absent else taken_over (role_at old x y)) (other_dev x d other)

  place_role : (p : Place) (x y : ℕ) → IsLivePlace p → is_at (to_next p) x y ≡ true → is_live_role (role_at new x y) ≡ true
  place_role p x y live is = elim (place_or p live) [
    | inl c ↦
        let it : is_place c.place x y ≡ true = sym (ap (λ (o : Option Place). is_at o x y) c.is) ∙ is in
        let dev : c.place.0 ≡ x = grind (arith, nat_tests, it) in
        let unit : c.place.1 ≡ y = grind (arith, nat_tests, it) in
        let copy : is_copy_role (role_at old x y) ≡ true = subst (λ (v : ℕ). is_copy_role (role_at old x v) ≡ true) unit (subst (λ (v : ℕ). is_copy_role (role_at old v c.place.1) ≡ true) dev c.copied.copy) in
        ap is_live_role (role_other x y (λ same. maps_away old new d txg may fin d p.1 c.place c.copied.to (sym (dev ∙ same)))) ∙ copy_over (role_at old x y) copy
    | inr k ↦
        let it : is_place p x y ≡ true = sym (ap (λ (o : Option Place). is_at o x y) k.is) ∙ is in
        let dev : p.0 ≡ x = grind (arith, nat_tests, it) in
        let unit : p.1 ≡ y = grind (arith, nat_tests, it) in
        let was : is_live_role (role_at old x y) ≡ true = subst (λ (v : ℕ). is_live_role (role_at old x v) ≡ true) unit (subst (λ (v : ℕ). is_live_role (role_at old v p.1) ≡ true) dev live) in
        ap is_live_role (role_other x y (λ same. k.away (dev ∙ same))) ∙ live_over (role_at old x y) was
  ]

  -- ---- the units of an address

  -- the unit led to a unit in use
  pub record IsLed (dev v : ℕ) : Type 0 where
    pub place : Place
    pub leads : resolved (devices_in old) dev v ≡ Some place
    pub live : IsLivePlace place
    pub turns : Turns old new d txg may fin (devices_in new).count (devices_in old).count dev v place

  abbrev pub AllLed : ℕ → ℕ → ℕ → Type 0
  AllLed dev from n = (v : ℕ) → from ≤ v → v < from + n → IsLed dev v

  rest_led : (dev from n : ℕ) → AllLed dev from (suc n) → AllLed dev (from + 1) n
  rest_led dev from n all v ge lt = all v (omega (arith, ge)) (omega (arith, lt))

  first_led : (dev from n : ℕ) → AllLed dev from (suc n) → IsLed dev from
  first_led dev from n all = all from (omega arith) (omega arith)

  -- where it leads now
  led_now : (dev v : ℕ) (h : IsLed dev v) → resolved (devices_in new) dev v ≡ to_next h.place
  led_now dev v h = h.turns.leads

  led_once : (dev from n x y : ℕ) → AllLed dev from n → led (devices_in new) dev from n x y ≤ led (devices_in old) dev from n (cause x y).0 (cause x y).1
  led_once dev from zero x y all = omega arith
  led_once dev from (suc n) x y all =
      let c = cause x y in
      let h = first_led dev from n all in
      let rest = led_once dev (from + 1) n x y (rest_led dev from n all) in
      let now : one_if (is_at (resolved (devices_in new) dev from) x y) ≡ one_if (is_at (to_next h.place) x y) = ap (λ (o : Option Place). one_if (is_at o x y)) (led_now dev from h) in
      let was : one_if (is_at (resolved (devices_in old) dev from) c.0 c.1) ≡ one_if (is_place h.place c.0 c.1) = ap (λ (o : Option Place). one_if (is_at o c.0 c.1)) h.leads in
      let few = place_once h.place x y h.live in
      omega (arith, rest, now, was, few, led-next (devices_in new) dev from n x y, led-next (devices_in old) dev from n c.0 c.1)

  led_some : (dev from n : ℕ) → AllLed dev from n → list_all (λ (p : Option Place). is_some p) (map (λ (p : Place). resolved (devices_in new) p.0 p.1) (map (λ (v : ℕ). (dev, v)) (range_with_len from n))) ≡ true
  led_some dev from zero all = refl
  led_some dev from (suc n) all =
      let h = first_led dev from n all in
      let first : is_some (resolved (devices_in new) dev from) ≡ true = ap (λ (o : Option Place). is_some o) (led_now dev from h) ∙ place_some h.place h.live in
      rw first (led_some dev (from + 1) n (rest_led dev from n all))

  led_role : (dev from n x y : ℕ) → AllLed dev from n → 0 < led (devices_in new) dev from n x y → is_live_role (role_at new x y) ≡ true
  led_role dev from zero x y all some = absurd (omega (arith, some))
  led_role dev from (suc n) x y all some =
      let h = first_led dev from n all in
      let sum = led-next (devices_in new) dev from n x y in
      elim (cases_bool (is_at (resolved (devices_in new) dev from) x y)) [
        | inl is ↦ place_role h.place x y h.live (sym (ap (λ (o : Option Place). is_at o x y) (led_now dev from h)) ∙ is)
        | inr not_it ↦ let none = ap one_if not_it in led_role dev (from + 1) n x y (rest_led dev from n all) (omega (arith, some, sum, none))
      ]

  -- what led to a place leads where the place does
  place_through : (r p q : Place) → to_next p ≡ Some q → one_if (is_place r p.0 p.1) ≤ one_if (is_at (to_next r) q.0 q.1)
  place_through r p q to = elim (cases_bool (is_place r p.0 p.1)) [
    | inl it ↦
        let dev : r.0 ≡ p.0 = grind (arith, nat_tests, it) in
        let unit : r.1 ≡ p.1 = grind (arith, nat_tests, it) in
        let same : r ≡ p = ap₂ (λ (a b : ℕ). (a, b)) dev unit in
        let own : is_place q q.0 q.1 ≡ true = grind (arith, nat_tests) in
        let at = ap one_if (ap (λ (o : Option Place). is_at o q.0 q.1) (ap to_next same ∙ to) ∙ own) in
        let one = ap one_if it in
        omega (arith, one, at)
    | inr not_it ↦ let none = ap one_if not_it in omega (arith, none)
  ]

  led_through : (dev from n : ℕ) (p q : Place) → AllLed dev from n → to_next p ≡ Some q → led (devices_in old) dev from n p.0 p.1 ≤ led (devices_in new) dev from n q.0 q.1
  led_through dev from zero p q all to = omega arith
  led_through dev from (suc n) p q all to =
      let h = first_led dev from n all in
      let rest = led_through dev (from + 1) n p q (rest_led dev from n all) to in
      let now : one_if (is_at (resolved (devices_in new) dev from) q.0 q.1) ≡ one_if (is_at (to_next h.place) q.0 q.1) = ap (λ (o : Option Place). one_if (is_at o q.0 q.1)) (led_now dev from h) in
      let was : one_if (is_at (resolved (devices_in old) dev from) p.0 p.1) ≡ one_if (is_place h.place p.0 p.1) = ap (λ (o : Option Place). one_if (is_at o p.0 p.1)) h.leads in
      let more = place_through h.place p q to in
      omega (arith, rest, now, was, more, led-next (devices_in new) dev from n q.0 q.1, led-next (devices_in old) dev from n p.0 p.1)

  -- of another device it passes what it passed
  ways_other : (dev from n x y : ℕ) → x ≢ d → AllLed dev from n → ways (devices_in new) dev from n x y ≡ ways (devices_in old) dev from n x y
  ways_other dev from zero x y other all = refl
  ways_other dev from (suc n) x y other all =
      let h = first_led dev from n all in
      let rest = ways_other dev (from + 1) n x y other (rest_led dev from n all) in
      let own = h.turns.passes x y in
      let none = ap one_if (not_mine h.place x y other) in
      omega (arith, rest, own, none, ways-next (devices_in new) dev from n x y, ways-next (devices_in old) dev from n x y)
    where
      not_mine : (p : Place) (x y : ℕ) → x ≢ d → (p.0 == d && is_place p x y) ≡ false
      not_mine p x y other = grind (arith, nat_tests, other)

  -- and of the device itself also where it led
  ways_here : (dev from n y : ℕ) → AllLed dev from n → ways (devices_in new) dev from n d y ≡ ways (devices_in old) dev from n d y + led (devices_in old) dev from n d y
  ways_here dev from zero y all = refl
  ways_here dev from (suc n) y all =
      let h = first_led dev from n all in
      let rest = ways_here dev (from + 1) n y (rest_led dev from n all) in
      let own = h.turns.passes d y in
      let same = ap one_if (is_mine_here h.place y) in
      let at = ap (λ (o : Option Place). one_if (is_at o d y)) h.leads in
      omega (arith, rest, own, same, at, ways-next (devices_in new) dev from n d y, ways-next (devices_in old) dev from n d y, led-next (devices_in old) dev from n d y)
    where
      is_mine_here : (p : Place) (y : ℕ) → (p.0 == d && is_place p d y) ≡ is_place p d y
      is_mine_here p y = grind (arith, nat_tests)

  -- a unit of the device to which it led is not marked
  led_unmarked : (dev from n y : ℕ) → AllLed dev from n → 0 < led (devices_in old) dev from n d y → is_fresh old.parts.devs d y ≡ false
  led_unmarked dev from zero y all some = absurd (omega (arith, some))
  led_unmarked dev from (suc n) y all some =
      let h = first_led dev from n all in
      let sum = led-next (devices_in old) dev from n d y in
      let at : is_at (resolved (devices_in old) dev from) d y ≡ is_place h.place d y = ap (λ (o : Option Place). is_at o d y) h.leads in
      elim (cases_bool (is_place h.place d y)) [
        | inl it ↦
            let here : h.place.0 ≡ d = grind (arith, nat_tests, it) in
            let unit : h.place.1 ≡ y = grind (arith, nat_tests, it) in
            (copied_to old d may.order may.all y (subst (λ (v : ℕ). is_live_role (role_at old d v) ≡ true) unit (subst (λ (v : ℕ). is_live_role (role_at old v h.place.1) ≡ true) here h.live))).1.unmarked
        | inr not_it ↦ let none = ap one_if (at ∙ not_it) in led_unmarked dev (from + 1) n y (rest_led dev from n all) (omega (arith, some, sum, none))
      ]

  -- ---- the bytes

  module _ (disks : List (List ℕ)) (slots : List (Option ℕ)) (stands : CopiesStand disks slots old) where
    place_reads : (p : Place) → IsLivePlace p → place_bytes (view_of disks slots new) (to_next p) ≡ place_bytes (view_of disks slots old) (Some p)
    place_reads p live = elim (place_or p live) [
      | inl c ↦
          let it : unit_bytes disks (slot_of slots c.place.0) c.place.1 ≡ unit_bytes disks (slot_of slots d) p.1 = stands d p.1 c.place (record { leaving = may.order.leaving; within = c.copied.within; unmarked = c.copied.unmarked; leads = c.copied.to; copy = c.copied.copy }) in
          ap (place_bytes (view_of disks slots new)) c.is ∙ (it ∙ ap (λ (k : ℕ). unit_bytes disks (slot_of slots k) p.1) (sym c.here))
      | inr k ↦ ap (place_bytes (view_of disks slots new)) k.is
    ]

    led_reads : (dev from n : ℕ) → AllLed dev from n
        → flat_map (place_bytes (view_of disks slots new)) (map (λ (p : Place). resolved (devices_in new) p.0 p.1) (map (λ (v : ℕ). (dev, v)) (range_with_len from n)))
        ≡ flat_map (place_bytes (view_of disks slots old)) (map (λ (p : Place). resolved (devices_in old) p.0 p.1) (map (λ (v : ℕ). (dev, v)) (range_with_len from n)))
    led_reads dev from zero all = refl
    led_reads dev from (suc n) all =
        let h = first_led dev from n all in
        let first : place_bytes (view_of disks slots new) (resolved (devices_in new) dev from) ≡ place_bytes (view_of disks slots old) (resolved (devices_in old) dev from) =
        ap (place_bytes (view_of disks slots new)) (led_now dev from h) ∙ (place_reads h.place h.live ∙ sym (ap (place_bytes (view_of disks slots old)) h.leads)) in
        ap₂ (λ (a b : List ℕ). a ++ b) first (led_reads dev (from + 1) n (rest_led dev from n all))

  -- ---- an address

  -- the address is known and resolves, and each unit to which it leads is in use
  pub record IsUsed (a : Dva) : Type 0 where
    pub known : a.dev < (devices_in old).count
    pub resolves : is_resolved (devices_in old) a ≡ true
    pub used : (x y : ℕ) → leads_to (devices_in old) a x y ≡ true → is_live_role (role_at old x y) ≡ true

  module _ (a : Dva) (is : IsUsed a) where
    all_led : AllLed a.dev a.start a.len
    all_led v ge lt =
        let to = some_or (resolved (devices_in old) a.dev v) (each_leads (devices_in old) a is.resolves v ge lt) in
        let few = address_leads (devices_in old) a a.dev v to.0 to.1 in
        let inside : one_if (in_address a a.dev v) ≡ 1 = inside_it ge lt in
        record {
          place = to.0;
          leads = to.1;
          live = is.used to.0.0 to.0.1 (some_leads (devices_in old) a to.0.0 to.0.1 (omega (arith, few, inside)));
          turns = unit_turns old new d txg may fin a.dev v to.0 is.known to.1;
        }
      where
        inside_it : a.start ≤ v → v < a.start + a.len → one_if (in_address a a.dev v) ≡ 1
        inside_it ge lt = grind (arith, nat_tests, ge, lt)

    pub address_once : (x y : ℕ) → resolve_hits (devices_in new) a x y ≤ resolve_hits (devices_in old) a (cause x y).0 (cause x y).1
    address_once x y = led_once a.dev a.start a.len x y all_led

    pub address_through : (p q : Place) → to_next p ≡ Some q → resolve_hits (devices_in old) a p.0 p.1 ≤ resolve_hits (devices_in new) a q.0 q.1
    address_through p q to = led_through a.dev a.start a.len p q all_led to

    pub address_some : is_resolved (devices_in new) a ≡ true
    address_some = led_some a.dev a.start a.len all_led

    pub address_role : (x y : ℕ) → 0 < resolve_hits (devices_in new) a x y → is_live_role (role_at new x y) ≡ true
    address_role x y some = led_role a.dev a.start a.len x y all_led some

    pub address_other : (x y : ℕ) → x ≢ d → pass_hits (devices_in new) a x y ≡ pass_hits (devices_in old) a x y
    address_other x y other = ways_other a.dev a.start a.len x y other all_led

    pub address_here : (y : ℕ) → pass_hits (devices_in new) a d y ≡ pass_hits (devices_in old) a d y + resolve_hits (devices_in old) a d y
    address_here y = ways_here a.dev a.start a.len y all_led

    pub address_unmarked : (y : ℕ) → 0 < resolve_hits (devices_in old) a d y → is_fresh old.parts.devs d y ≡ false
    address_unmarked y some = led_unmarked a.dev a.start a.len y all_led some

    pub address_reads : (disks : List (List ℕ)) (slots : List (Option ℕ)) → CopiesStand disks slots old → address_bytes (view_of disks slots new) a ≡ address_bytes (view_of disks slots old) a
    address_reads disks slots stands = led_reads disks slots stands a.dev a.start a.len all_led
