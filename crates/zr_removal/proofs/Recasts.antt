-- A mapping of which a step of condensing kept the entries in use: what pointers pass leads where it led, and may be given back as before.
use Rattle.std.proofs.Common.{◌≡◌, ◌≢◌, inl, inr, ℕ, zero, suc, ◌+◌, ◌-◌, ◌<◌, ◌≤◌, Bool, true, false, List, [], ◌∷◌, length, Option, Some, None, refl, sym, ◌∙◌, ap, subst, arith}
use Rattle.std.specs.Prelude.{All, if◌then◌else◌, nat_lt, option_and_then, slice_index}
use Rattle.std.proofs.lemmas.Bool.{cases_eq}
use Rattle.std.proofs.lemmas.Bool.Decides.{nat_tests}
use Rattle.std.proofs.lemmas.List.Elements.{All-cons, All-nil}
use Rattle.std.proofs.Math.Path.{fun_ext}
use Rattle.zr_base.specs.Extents.{has_unit}
use Rattle.zr_base.specs.declared.space.CondPart.{CondPart}
use Rattle.zr_base.specs.declared.space.DevRow.{DevRow}
use Rattle.zr_base.specs.declared.space.Dva.{Dva}
use Rattle.zr_base.specs.declared.space.Entry.{Entry}
use Rattle.zr_base.specs.declared.space.Extent.{Extent}
use Rattle.zr_rules.specs.Condense.{fresh_units}
use Rattle.zr_rules.specs.Devices.{Devices, state_at}
use Rattle.zr_rules.specs.Equation.{Spends, devices_in, fresh_in, live_hits, way_hits, ways_in}
use Rattle.zr_rules.specs.Mappings.{HasSourceAt, entry_at, in_source, target}
use Rattle.zr_rules.specs.Places.{Place, count_below, is_fresh, is_gone, one_if, part_of, state_of_dev}
use Rattle.zr_rules.specs.Resolve.{pass_hits, resolve}
use Rattle.zr_rules.specs.Roles.{is_live_role}
use Rattle.zr_rules.specs.Space.{Space}
use Rattle.zr_rules.specs.Steps.{Remaps}
use Rattle.zr_space.proofs.Freeables.{way_one}
use Rattle.zr_space.specs.Condensing.{IsInUse, LeadsAsBefore}
use Rattle.zr_space.specs.Live.{IsFreeable}
use Rattle.zr_vdev.proofs.Leading.{Resolves, ways_lead}
use Rattle.zr_view.specs.Views.{address_bytes}
use Rattle.zr_vdev.specs.Runs.{view_of}
use Rattle.zr_removal.proofs.AlikePassed.{LeadAlike, bytes_alike, hits_alike, leads_alike, live_alike, resolves_alike, ways_alike}

-- each entry has room for its obsolete units and for those that are passed
abbrev pub Fits : (Entry → ℕ) → List Entry → List ℕ → List Extent → Type 0
Fits ways es cs fresh = (i : ℕ) → i < length es → slice_index cs i + fresh_units fresh (entry_at es i) + ways (entry_at es i) ≤ (entry_at es i).len

-- The mapping of one device is another: each unit in use leads where it led, nothing more is marked, and each entry has room as before.
pub record Recasts (s t : Space) : Type 0 where
  pub dev : ℕ
  pub entries : List Entry
  pub counts : List ℕ
  pub fresh : List Extent
  pub cond : Option CondPart
  pub is : Remaps s t dev entries counts fresh cond
  pub leads : LeadsAsBefore s t
  pub marks : (u : ℕ) → is_fresh s.parts.devs dev u ≡ false → has_unit fresh u ≡ false
  pub fits : (ways : Entry → ℕ) → Fits ways (part_of s.parts.devs dev).entries (part_of s.parts.devs dev).counts (part_of s.parts.devs dev).fresh → Fits ways entries counts fresh

-- ---- an entry of which a unit is passed

-- a unit that has gone somewhere is in the source of an entry
source_at : (es : List Entry) (u : ℕ) (p : Place) → target es u ≡ Some p → (i : ℕ) × (i < length es) × HasSourceAt es i u
source_at [] u p to = cc
source_at (e ∷ es) u p to = by (in_source e u) refl (λ later. source_at es u p later)
  where
    by : (b : Bool) → in_source e u ≡ b → (target es u ≡ Some p → (i : ℕ) × (i < length es) × HasSourceAt es i u) → (i : ℕ) × (i < length (e ∷ es)) × HasSourceAt (e ∷ es) i u
    by true is rest = (0, omega arith, record { starts = grind (arith, nat_tests, is); ends = grind (arith, nat_tests, is) })
    by false is rest =
        let at = rest (sym (ap (λ (b : Bool). if b then Some (e.dev, e.dst + (u - e.src)) else target es u) is) ∙ to) in
        (suc at.0, omega (arith, at.1), record { starts = at.2.starts; ends = at.2.ends })

-- a unit of a device that is gone leads somewhere where its mapping says so
target_some : (n : ℕ) (ds : Devices) (d u : ℕ) (p : Place) → is_gone (state_at ds d) ≡ true → resolve n ds d u ≡ Some p → (q : Place) × (target (ds.entries d) u ≡ Some q)
target_some zero ds d u p gone to = cc
target_some (suc n) ds d u p gone to = then_some (target (ds.entries d) u) (sym step ∙ to)
  where
    step : resolve (suc n) ds d u ≡ option_and_then (λ (q : Place). resolve n ds q.0 q.1) (target (ds.entries d) u)
    step = rw gone refl

    then_some : (o : Option Place) → option_and_then (λ (q : Place). resolve n ds q.0 q.1) o ≡ Some p → (q : Place) × (o ≡ Some q)
    then_some None none = cc
    then_some (Some q) some = (q, refl)

count_some : (n : ℕ) (test : ℕ → Bool) (k : ℕ) → k < n → test k ≡ true → 0 < count_below n test
count_some zero test k lt is = absurd (omega (arith, lt))
count_some (suc n) test k lt is = elim (cases_eq k n) [
  | inl last ↦ let one : one_if (test n) ≡ 1 = ap (λ (j : ℕ). one_if (test j)) (sym last) ∙ ap one_if is in omega (arith, one)
  | inr before ↦ let rest = count_some n test k (omega (arith, lt, before)) is in omega (arith, rest)
]

-- the entry of a unit that is passed has a unit in use
in_use : (s : Space) (list : List Dva) (e i w : ℕ) → Spends s list → is_gone (state_of_dev s.parts.devs e) ≡ true → i < length (part_of s.parts.devs e).entries → HasSourceAt (part_of s.parts.devs e).entries i w → 0 < way_hits (devices_in s) list e w → IsInUse (part_of s.parts.devs e) i
in_use s list e i w sp gone lt at some =
    let entry = entry_at (part_of s.parts.devs e).entries i in
    let most = sp.entries e i gone lt in
    let low = at.starts in
    let high = at.ends in
    let here : entry.src + (w - entry.src) ≡ w = omega (arith, low) in
    let hit : nat_lt 0 (way_hits (devices_in s) list e (entry.src + (w - entry.src))) ≡ true = subst (λ (v : ℕ). nat_lt 0 (way_hits (devices_in s) list e v) ≡ true) (sym here) (grind (arith, nat_tests, some)) in
    let one : 0 < ways_in (devices_in s) list e entry = count_some entry.len (λ k. nat_lt 0 (way_hits (devices_in s) list e (entry.src + k))) (w - entry.src) (omega (arith, low, high)) hit in
    omega (arith, most, one)

-- ---- behind the step

module _ (s t : Space) (h : Recasts s t) where
  abbrev devices_now : Devices
  devices_now = devices_in t

  abbrev devices_then : Devices
  devices_then = devices_in s

  count : devices_now.count ≡ devices_then.count
  count = h.is.elsewhere.devices

  row_same : (e : ℕ) → (part_of t.parts.devs e).row ≡ (part_of s.parts.devs e).row
  row_same e = elim (cases_eq e h.dev) [
    | inl here ↦ subst (λ (k : ℕ). (part_of t.parts.devs k).row ≡ (part_of s.parts.devs k).row) (sym here) h.is.row_is
    | inr other ↦ (h.is.elsewhere.others e other).row
  ]

  gone_same : (e : ℕ) → is_gone (state_at devices_now e) ≡ is_gone (state_at devices_then e)
  gone_same e = ap (λ (r : DevRow). is_gone r.state) (row_same e)

  units_same : (e : ℕ) → (devices_now.row e).units ≡ (devices_then.row e).units
  units_same e = ap (λ (r : DevRow). r.units) (row_same e)

  -- what is passed leads where it led
  module _ (list : List Dva) (sp : Spends s list) (all : All (Resolves devices_then) list) where
    lead_alike : (e w : ℕ) → 0 < way_hits devices_then list e w → LeadAlike devices_now devices_then count gone_same units_same e w
    lead_alike e w some =
        let way = ways_lead devices_then list e w all some in
        let to = target_some devices_then.count devices_then e w way.place way.gone way.leads in
        let at = source_at (devices_then.entries e) w to.0 to.1 in
        h.leads e at.0 w at.1 at.2 (in_use s list e at.0 w sp way.gone at.1 at.2 some)

    ways_still : (e w : ℕ) → way_hits devices_now list e w ≡ way_hits devices_then list e w
    ways_still e w = ways_alike devices_now devices_then count gone_same units_same list lead_alike e w

    pub live_still : (e w : ℕ) → live_hits devices_now list e w ≡ live_hits devices_then list e w
    live_still e w = live_alike devices_now devices_then count gone_same units_same list lead_alike e w

    in_still : (e : ℕ) (it : Entry) → ways_in devices_now list e it ≡ ways_in devices_then list e it
    in_still e it = ap (λ (hits : ℕ → ℕ). count_below it.len (λ k. nat_lt 0 (hits (it.src + k)))) (fun_ext (λ (w : ℕ). ways_still e w))

    fresh_no : (e u : ℕ) → is_fresh s.parts.devs e u ≡ false → is_fresh t.parts.devs e u ≡ false
    fresh_no e u none = elim (cases_eq e h.dev) [
      | inl here ↦ subst (λ (k : ℕ). is_fresh t.parts.devs k u ≡ false) (sym here) (ap (λ (list : List Extent). has_unit list u) h.is.fresh_is ∙ h.marks u (subst (λ (k : ℕ). is_fresh s.parts.devs k u ≡ false) here none))
      | inr other ↦ h.is.elsewhere.fresh e u other ∙ none
    ]

    -- an entry of the device with the mapping
    abbrev HasRoom : ℕ → Type 0
    HasRoom e = (i : ℕ) → i < length (part_of t.parts.devs e).entries →
        slice_index (part_of t.parts.devs e).counts i + fresh_in (part_of t.parts.devs e) (entry_at (part_of t.parts.devs e).entries i) + ways_in devices_now list e (entry_at (part_of t.parts.devs e).entries i) ≤ (entry_at (part_of t.parts.devs e).entries i).len

    room_here : is_gone (state_of_dev s.parts.devs h.dev) ≡ true → HasRoom h.dev
    room_here gone =
        let now : Fits (ways_in devices_then list h.dev) h.entries h.counts h.fresh = h.fits (ways_in devices_then list h.dev) (λ i lt. sp.entries h.dev i gone lt) in
        let still : Fits (ways_in devices_now list h.dev) h.entries h.counts h.fresh = subst (λ (ways : Entry → ℕ). Fits ways h.entries h.counts h.fresh) (sym (fun_ext (λ (it : Entry). in_still h.dev it))) now in
        subst (λ (these : List Entry). Fits (ways_in devices_now list h.dev) these (part_of t.parts.devs h.dev).counts (part_of t.parts.devs h.dev).fresh) (sym h.is.entries_are)
        (subst (λ (ns : List ℕ). Fits (ways_in devices_now list h.dev) h.entries ns (part_of t.parts.devs h.dev).fresh) (sym h.is.counts_are)
        (subst (λ (these : List Extent). Fits (ways_in devices_now list h.dev) h.entries h.counts these) (sym h.is.fresh_is) still))

    -- and one of another device
    room_other : (e : ℕ) → e ≢ h.dev → is_gone (state_of_dev s.parts.devs e) ≡ true → HasRoom e
    room_other e other gone i lt =
        let part = h.is.elsewhere.others e other in
        let old = part_of s.parts.devs e in
        let new = part_of t.parts.devs e in
        let entry : entry_at new.entries i ≡ entry_at old.entries i = ap (λ (them : List Entry). entry_at them i) part.entries in
        let counts : slice_index new.counts i ≡ slice_index old.counts i = ap (λ (ns : List ℕ). slice_index ns i) part.counts in
        let at = entry_at old.entries i in
        let fresh : fresh_in new at ≡ fresh_in old at = ap (λ (test : ℕ → Bool). count_below at.len (λ k. test (at.src + k))) (fun_ext (λ (u : ℕ). h.is.elsewhere.fresh e u other)) in
        let ways = in_still e at in
        let most = sp.entries e i gone (let same = ap (λ (them : List Entry). length them) part.entries in omega (arith, same, lt)) in
        subst (λ (it : Entry). slice_index new.counts i + fresh_in new it + ways_in devices_now list e it ≤ it.len) (sym entry) (omega (arith, counts, fresh, ways, most))

    pub spends_still : Spends t list
    spends_still = record {
      passed = λ e u some. fresh_no e u (sp.passed e u (let same = ways_still e u in omega (arith, same, some)));
      entries = λ e i gone lt.
          let was : is_gone (state_of_dev s.parts.devs e) ≡ true = sym (gone_same e) ∙ gone in
          let room : HasRoom e = elim (cases_eq e h.dev) [
            | inl here ↦ subst HasRoom (sym here) (room_here (subst (λ (k : ℕ). is_gone (state_of_dev s.parts.devs k) ≡ true) here was))
            | inr other ↦ room_other e other was
          ] in
          room i lt;
    }

  module _ (a : Dva) (is : IsFreeable s a) where
    alone : All (Resolves devices_then) (a ∷ [])
    alone = All-cons (Resolves devices_then) a [] is.resolves (All-nil (Resolves devices_then))

    one_alike : (e w : ℕ) → 0 < pass_hits devices_then a e w → LeadAlike devices_now devices_then count gone_same units_same e w
    one_alike e w some = lead_alike (a ∷ []) is.spends alone e w (let one = way_one devices_then a e w in omega (arith, one, some))

    -- it may be given back still
    pub freeable_still : IsFreeable t a
    freeable_still = record {
      known = (let known = is.known in let many = count in omega (arith, known, many));
      some = is.some;
      resolves = resolves_alike devices_now devices_then count gone_same units_same a one_alike ∙ is.resolves;
      once = λ e u. (let most = is.once e u in let same = hits_alike devices_now devices_then count gone_same units_same a one_alike e u in omega (arith, most, same));
      used = λ e u leads. subst (λ (r : Bool). r ≡ true) (sym (ap is_live_role (h.is.roles e u))) (is.used e u (sym (leads_alike devices_now devices_then count gone_same units_same a one_alike e u) ∙ leads));
      spends = spends_still (a ∷ []) is.spends alone;
    }

    -- and it has its bytes
    pub bytes_still : (disks : List (List ℕ)) (slots : List (Option ℕ)) → address_bytes (view_of disks slots t) a ≡ address_bytes (view_of disks slots s) a
    bytes_still disks slots = bytes_alike devices_now devices_then count gone_same units_same a one_alike disks slots
