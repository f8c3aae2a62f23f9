-- What a store of blocks on a shelf holds after a call.
use Rattle.std.proofs.Common.{◌≡◌, ◌⊎◌, inl, inr, ℕ, ◌*◌, ◌+◌, ◌<◌, ◌≤◌, Bool, true, false, List, [], ◌∷◌, ◌++◌, get_or, Option, Some, None, refl, sym, ◌∙◌, ap, subst, arith}
use Rattle.std.specs.Prelude.{◌||◌}
use Rattle.std.specs.List.{flat_map, list_any}
use Rattle.std.proofs.lemmas.Bool.Decides.{nat_tests}
use Rattle.zr_base.specs.declared.space.Dva.{Dva}
use Rattle.zr_base.specs.declared.space.Policy.{Policy}
use Rattle.zr_shelf.specs.Moments.{World}
use Rattle.zr_shelf.specs.Doings.{WritesOnly}
use Rattle.zr_chain.specs.Visits.{as_part}
use Rattle.zr_chain.proofs.Ways.{cases_bool}
use Rattle.zr_rules.specs.Places.{Place, is_gone, in_address, is_place, units_of_dev}
use Rattle.zr_rules.specs.Devices.{Devices, state_at}
use Rattle.zr_rules.specs.Resolve.{is_at, is_resolved, leads_to, resolved_units}
use Rattle.zr_rules.specs.Roles.Role.{Free}
use Rattle.zr_rules.specs.Space.{Space, role_at}
use Rattle.zr_rules.specs.Equation.{devices_in, live_hits}
use Rattle.zr_store.specs.Store.{Stored}
use Rattle.zr_view.specs.Views.{slot_of, unit_bytes, place_bytes, address_bytes}
use Rattle.zr_view.specs.Runs.{bytes_from, run_bytes}
use Rattle.zr_cache.specs.declared.table.Cache.{Cache}
use Rattle.zr_vdev.specs.declared.kind.Kind.{Kind}
use Rattle.zr_vdev.specs.declared.kind.Kind.TheVariants as kinds
use Rattle.zr_vdev.specs.Runs.{AreRunsOf, view_of}
use Rattle.zr_vdev.specs.Caches.{AreRead}
use Rattle.zr_vdev.specs.Puts.{Takes, GivesBack, MayPut, IsWriteOf}
use Rattle.zr_vdev.specs.Stores.{IsInUse, IsTaken, IsApart, IsStoredAt, GivesBackLost, MayGoBack, addresses_of}
use Rattle.zr_vdev.proofs.Partly.{HoldsBut, none_some}
use Rattle.zr_vdev.proofs.Taking.{takes_place, takes_frame}
use Rattle.zr_vdev.proofs.Overwriting.{same_devices, run_kept}
use Rattle.zr_vdev.proofs.Apart.{unit_apart}
use Rattle.zr_vdev.proofs.Leading.{false_true, own_unit, each_leads}
use Rattle.zr_vdev.proofs.Reading.{first-target}
use Rattle.zr_vdev.proofs.Uses.{is_of, use_some, use_resolves, use_roles, use_along, taken_was_free, take_keeps, taken_in_use, taken_serves, taken_own, own_taken, give_keeps, give_ends}
use Rattle.zr_vdev.proofs.GoingBack.{alone_back, take_back, take_back_was, lost_back, lost_back_was}

-- ---- the bytes of an address in use

-- a unit as an address
abbrev pub one_unit : ℕ → ℕ → Dva
one_unit d u = record { dev = d; start = u; len = 1 }

unit_is : (disks : List (List ℕ)) (slot : Option ℕ) (u : ℕ) → unit_bytes disks slot u ≡ bytes_from disks slot u (4096 * 1)
unit_is disks None u = refl
unit_is disks (Some slot) u = refl

first_place : (p : Place) (b : Bool) → (is_place p p.0 p.1 || b) ≡ true
first_place p b = grind (arith, nat_tests)

later_place : (a b : Bool) → b ≡ true → (a || b) ≡ true
later_place a b is = grind (arith, nat_tests, is)

module _ (slots : List (Option ℕ)) (ds : Devices) (before now : List (List ℕ)) where
  -- places whose units have their bytes
  places_same : (ps : List (Option Place)) → ((d u : ℕ) → list_any (λ p. is_at p d u) ps ≡ true → run_bytes now slots (as_part (one_unit d u)) ≡ run_bytes before slots (as_part (one_unit d u)))
      → flat_map (place_bytes (record { disks = now; slots = slots; devices = ds })) ps ≡ flat_map (place_bytes (record { disks = before; slots = slots; devices = ds })) ps
  places_same [] same = refl
  places_same (None ∷ ps) same = places_same ps same
  places_same (Some p ∷ ps) same =
      let first : unit_bytes now (slot_of slots p.0) p.1 ≡ unit_bytes before (slot_of slots p.0) p.1 =
      unit_is now (slot_of slots p.0) p.1 ∙ same p.0 p.1 (first_place p (list_any (λ q. is_at q p.0 p.1) ps)) ∙ sym (unit_is before (slot_of slots p.0) p.1) in
      let rest = places_same ps (λ d u is. same d u (later_place (is_place p d u) (list_any (λ q. is_at q d u) ps) is)) in
      ap (λ (l : List ℕ). l ++ flat_map (place_bytes (record { disks = now; slots = slots; devices = ds })) ps) first ∙ ap (λ (l : List ℕ). unit_bytes before (slot_of slots p.0) p.1 ++ l) rest

  -- an address has its bytes where each unit to which it leads has its
  pub address_same : (a : Dva) → ((d u : ℕ) → leads_to ds a d u ≡ true → run_bytes now slots (as_part (one_unit d u)) ≡ run_bytes before slots (as_part (one_unit d u)))
      → address_bytes (record { disks = now; slots = slots; devices = ds }) a ≡ address_bytes (record { disks = before; slots = slots; devices = ds }) a
  address_same a same = places_same (resolved_units ds a) same

-- an address in use on a device that is not gone is one run
pub use_run : (kind : Kind) (s : Space) (a : Dva) → is_gone (state_at (devices_in s) a.dev) ≡ false → IsInUse kind s a → AreRunsOf (devices_in s) a (as_part a ∷ [])
use_run kind s a stays h =
    let resolves = use_resolves kind s a h in
    record {
      resolves = resolves;
      follow = (refl, use_some kind s a h, omega arith);
      targets = λ k lt.
          first-target (as_part a) [] k k (omega arith) lt
          ∙ sym (own_unit (devices_in s) a.dev stays (a.start + k) (each_leads (devices_in s) a resolves (a.start + k) (omega arith) (omega (arith, lt))));
    }

-- a write in other units leaves them
pub bytes_apart : (slots : List (Option ℕ)) (at : Dva) → ((d e slot : ℕ) → slot_of slots d ≡ Some slot → slot_of slots e ≡ Some slot → d ≡ e)
    → (before now : World) → WritesOnly (IsWriteOf slots at) before now → (s t : Space) → devices_in t ≡ devices_in s → (x : Dva) → 0 < at.len → ((d u : ℕ) → leads_to (devices_in s) x d u ≡ true → in_address at d u ≡ false)
    → address_bytes (view_of now.now.seen slots t) x ≡ address_bytes (view_of before.now.seen slots s) x
bytes_apart slots at apart before now writes s t same x some clear =
    ap (λ (ds : Devices). address_bytes (record { disks = now.now.seen; slots = slots; devices = ds }) x) same
    ∙ address_same slots (devices_in s) before.now.seen now.now.seen x (λ d u led. run_kept slots at apart before now writes (as_part (one_unit d u)) (unit_apart at d u some (clear d u led)))

-- ---- bytes by whether a block is stored

pub pick : {P : Type 0} → P ⊎ ¬ P → List ℕ → List ℕ
pick (inl p) bytes = bytes
pick (inr never) bytes = []

pub pick_yes : {P : Type 0} (o : P ⊎ ¬ P) (bytes : List ℕ) → P → pick o bytes ≡ bytes
unfolding pick
pick_yes (inl p) bytes h = refl
pick_yes (inr never) bytes h = absurd (never h)

pub pick_no : {P : Type 0} (o : P ⊎ ¬ P) (bytes : List ℕ) → ¬ P → pick o bytes ≡ []
unfolding pick
pick_no (inl p) bytes never = absurd (never p)
pick_no (inr q) bytes never = refl

-- ---- the same is held

pub apart_same : (lost : Option Dva) (x : Dva) (ds es : Devices) → es ≡ ds → IsApart ds lost x → IsApart es lost x
apart_same lost x ds es same apart = subst (λ (fs : Devices). IsApart fs lost x) (sym same) apart

module _ (kind : Kind) (slots : List (Option ℕ)) where
  pub transport : (told_old told_new : Type 0) (disks_old disks_new : List (List ℕ)) (s t : Space) (lost_old lost_new : Option Dva) (c d : Cache) (st : Stored)
      → HoldsBut kind slots told_old disks_old s lost_old c st → devices_in t ≡ devices_in s → told_new → AreRead disks_new slots t d
      → ((at : Dva) → lost_new ≡ Some at → IsTaken kind t at) → (MayGoBack kind s (addresses_of st.pointers) → MayGoBack kind t (addresses_of st.pointers))
      → ((x : Dva) → IsStoredAt kind s lost_old x → IsStoredAt kind t lost_new x) → ((x : Dva) → IsStoredAt kind t lost_new x → IsStoredAt kind s lost_old x)
      → ((x : Dva) → IsStoredAt kind s lost_old x → address_bytes (view_of disks_new slots t) x ≡ address_bytes (view_of disks_old slots s) x)
      → HoldsBut kind slots told_new disks_new t lost_new d st
  transport told_old told_new disks_old disks_new s t lost_old lost_new c d st held same told read taken back there was bytes = record {
    told = told;
    read = read;
    taken = taken;
    stored = λ i e lt. there (get_or st.pointers i e).at (held.stored i e lt);
    once = λ d u. subst (λ (ds : Devices). live_hits ds (addresses_of st.pointers) d u ≤ 1) (sym same) (held.once d u);
    back = back held.back;
    alone = held.alone;
    resolves = λ at met. subst (λ (ds : Devices). is_resolved ds at ≡ true) (sym same) (held.resolves at met);
    there = λ b h. held.there b (was b.at h) ∙ sym (bytes b.at (was b.at h));
    nothing = λ b never. held.nothing b (λ h. never (there b.at h));
  }

-- what was read of devices is so of the same devices
pub read_same : (disks : List (List ℕ)) (slots : List (Option ℕ)) (s t : Space) (c : Cache) → devices_in t ≡ devices_in s → AreRead disks slots s c → AreRead disks slots t c
read_same disks slots s t c same read e among =
    let was = read e among in
    record {
      runs_of = subst (λ (ds : Devices). AreRunsOf ds e.0.pointer.at e.1.runs.items) (sym same) was.runs_of;
      same = was.same ∙ ap (λ (ds : Devices). address_bytes (record { disks = disks; slots = slots; devices = ds }) e.0.pointer.at) (sym same);
    }

pub true_is_false : (b : Bool) → b ≡ true → b ≡ false → ⊥
true_is_false b p q = false_true (sym q ∙ p)

pub own_not_free : (kind : Kind) → is_of kind Free ≡ false
own_not_free kinds.Block = refl
own_not_free kinds.Meta = refl

-- units in use are not among those that are taken
pub clear_of_taken : (kind : Kind) (policy : Policy) (want : ℕ) (old new : Space) (at : Dva) → Takes kind policy want old new at → (x : Dva) → IsInUse kind old x → (d u : ℕ) → leads_to (devices_in old) x d u ≡ true → in_address at d u ≡ false
clear_of_taken kind policy want old new at takes x h d u is = elim (cases_bool (in_address at d u)) [
  | inl taken ↦ absurd (true_is_false (is_of kind (role_at old d u)) (use_roles kind old x h d u is) (ap (is_of kind) (taken_was_free kind policy want old new at takes d u taken) ∙ own_not_free kind))
  | inr out ↦ out
]

some_same : (a b : Dva) → Some a ≡ Some b → a ≡ b
some_same a b e = cc

-- ---- a put that failed

module _ (kind : Kind) (policy : Policy) (want : ℕ) (old new : Space) (at : Dva) (takes : Takes kind policy want old new at) (some : 0 < want) where
  pub takes_devices : devices_in new ≡ devices_in old
  takes_devices = same_devices old new (takes_frame kind policy want old new at takes)

  pub takes_some : 0 < at.len
  takes_some = let len = (takes_place kind policy want old new at takes).len in omega (arith, len, some)

  -- what was in use is in use still
  pub used_still : (x : Dva) → IsInUse kind old x → IsInUse kind new x
  used_still x h =
      use_along kind old new x takes_devices (take_back kind policy want old new at takes takes_devices (x ∷ [])) (λ e u led. take_keeps kind policy want old new at takes e u (clear_of_taken kind policy want old new at takes x h e u led)) h

  -- and what is in use now and leads to none of the units was so before
  pub used_before : (x : Dva) → IsInUse kind new x → IsApart (devices_in new) (Some at) x → IsInUse kind old x
  used_before x h apart =
      use_along kind new old x (sym takes_devices) (take_back_was kind policy want old new at takes takes_devices (x ∷ [])) (λ e u led. sym (take_keeps kind policy want old new at takes e u (apart e u led))) h

  -- what was taken is in use, on a device in service
  pub is_taken : (list : List Dva) → MayGoBack kind old list → at.start + at.len ≤ units_of_dev new.parts.devs at.dev → IsTaken kind new at
  is_taken list back within =
      let serves = taken_serves kind policy want old new at takes takes_devices in
      record { used = taken_in_use kind policy want old new at takes takes_devices (alone_back kind new at list serves (take_back kind policy want old new at takes takes_devices list back)) some within; serves = serves }

pub failed_held : (kind : Kind) (policy : Policy) (want : ℕ) (slots : List (Option ℕ)) → ((d e slot : ℕ) → slot_of slots d ≡ Some slot → slot_of slots e ≡ Some slot → d ≡ e)
    → (told_old told_new : Type 0) (old new : Space) (before now : World) (c d : Cache) (taken : Option Dva) (st : Stored)
    → 0 < want → ((at : Dva) → taken ≡ Some at → at.start + at.len ≤ units_of_dev new.parts.devs at.dev)
    → MayPut kind policy want slots old new before now taken → told_new → AreRead now.now.seen slots new d
    → HoldsBut kind slots told_old before.now.seen old None c st → HoldsBut kind slots told_new now.now.seen new taken d st
failed_held kind policy want slots apart told_old told_new old new before now c d None st some within (same, still) told read held =
    let devices : devices_in new ≡ devices_in old = ap devices_in same in
    transport kind slots told_old told_new before.now.seen now.now.seen old new None None c d st held devices told read
    (λ at is. absurd (none_some at is)) (λ back. subst (λ (s : Space). MayGoBack kind s (addresses_of st.pointers)) (sym same) back)
    (λ x h. subst (λ (s : Space). IsStoredAt kind s None x) (sym same) h) (λ x h. subst (λ (s : Space). IsStoredAt kind s None x) same h)
    (λ x h. ap (λ (s : Space). address_bytes (view_of now.now.seen slots s) x) same ∙ ap (λ (w : World). address_bytes (view_of w.now.seen slots old) x) still)
failed_held kind policy want slots apart told_old told_new old new before now c d (Some at) st some within (takes, writes) told read held =
    let devices = takes_devices kind policy want old new at takes some in
    transport kind slots told_old told_new before.now.seen now.now.seen old new None (Some at) c d st held devices told read
    (λ a is. subst (IsTaken kind new) (some_same at a is) (is_taken kind policy want old new at takes some (addresses_of st.pointers) held.back (within at refl)))
    (take_back kind policy want old new at takes devices (addresses_of st.pointers))
    (λ x h. record {
      used = used_still kind policy want old new at takes some x h.used;
      whole = λ e u led. clear_of_taken kind policy want old new at takes x h.used e u (subst (λ (ds : Devices). leads_to ds x e u ≡ true) devices led);
    })
    (λ x h. record { used = used_before kind policy want old new at takes some x h.used h.whole; whole = tt })
    (λ x h. bytes_apart slots at apart before now writes old new devices x (takes_some kind policy want old new at takes some) (clear_of_taken kind policy want old new at takes x h.used))

-- ---- units that were lost are given back

module _ (kind : Kind) (old new : Space) (a : Dva) (txg : ℕ) (taken : IsTaken kind old a) (gives : GivesBack kind old new a txg) (devices : devices_in new ≡ devices_in old) where
  not_led : (x : Dva) → IsApart (devices_in old) (Some a) x → (d u : ℕ) → leads_to (devices_in old) x d u ≡ true → leads_to (devices_in old) a d u ≡ false
  not_led x apart d u led = elim (cases_bool (leads_to (devices_in old) a d u)) [
    | inl own ↦ absurd (false_true (sym (apart d u led) ∙ taken_own kind old a taken d u own))
    | inr out ↦ out
  ]

  not_in : (d u : ℕ) → leads_to (devices_in old) a d u ≡ false → in_address a d u ≡ false
  not_in d u out = elim (cases_bool (in_address a d u)) [
    | inl inside ↦ absurd (false_true (sym out ∙ own_taken kind old a taken d u inside))
    | inr outside ↦ outside
  ]

  lost_there : (x : Dva) → IsStoredAt kind old (Some a) x → IsStoredAt kind new None x
  lost_there x h = record {
    used = use_along kind old new x devices (lost_back kind old new a txg taken gives devices (x ∷ []))
        (λ e u led. give_keeps kind old new a txg taken.used gives e u (not_led x h.whole e u led) (use_roles kind old x h.used e u led)) h.used;
    whole = tt;
  }

  -- where an address in use leads now nothing was given back
  ended : (x : Dva) → IsInUse kind new x → (d u : ℕ) → leads_to (devices_in new) x d u ≡ true → (leads_to (devices_in old) a d u ≡ false) × (role_at new d u ≡ role_at old d u)
  ended x h d u led = give_ends kind old new a txg taken.used gives d u (use_roles kind new x h d u led)

  lost_was : (x : Dva) → IsStoredAt kind new None x → IsStoredAt kind old (Some a) x
  lost_was x h = record {
    used = use_along kind new old x (sym devices) (lost_back_was kind old new a txg taken gives devices (x ∷ [])) (λ e u led. sym (ended x h.used e u led).1) h.used;
    whole = λ e u led. not_in e u (ended x h.used e u (subst (λ (ds : Devices). leads_to ds x e u ≡ true) (sym devices) led)).0;
  }

pub lost_held : (kind : Kind) (slots : List (Option ℕ)) (told : Type 0) (disks : List (List ℕ)) (old new : Space) (lost : Option Dva) (txg : ℕ) (c : Cache) (st : Stored)
    → devices_in new ≡ devices_in old → GivesBackLost kind old new lost txg → HoldsBut kind slots told disks old lost c st → HoldsBut kind slots told disks new None c st
lost_held kind slots told disks old new None txg c st devices same held = subst (λ (s : Space). HoldsBut kind slots told disks s None c st) (sym same) held
lost_held kind slots told disks old new (Some a) txg c st devices (inr (not_used, same)) held = absurd (not_used (held.taken a refl).used)
lost_held kind slots told disks old new (Some a) txg c st devices (inl (in_use, gives)) held =
    let taken = held.taken a refl in
    transport kind slots told told disks disks old new (Some a) None c c st held devices held.told (read_same disks slots old new c devices held.read)
    (λ at is. absurd (none_some at is)) (lost_back kind old new a txg taken gives devices (addresses_of st.pointers))
    (lost_there kind old new a txg taken gives devices) (lost_was kind old new a txg taken gives devices)
    (λ x h. ap (λ (ds : Devices). address_bytes (record { disks = disks; slots = slots; devices = ds }) x) devices)
