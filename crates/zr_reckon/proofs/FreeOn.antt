-- A free while all devices are in service.
use Rattle.std.proofs.Common.{◌≡◌, inl, inr, ℕ, zero, suc, ◌+◌, ◌*◌, ◌<◌, ◌≤◌, Bool, true, false, List, [], ◌∷◌, length, map, refl, ◌∙◌, sym, ap, arith, if◌then◌else◌, Option, Some}
use Rattle.std.specs.List.{sum_by, range_with_len, list_any}
use Rattle.std.proofs.lemmas.Bool.Decides.{nat_tests}
use Rattle.zr_base.specs.declared.space.Dva.{Dva}
use Rattle.zr_base.specs.declared.space.DevPart.{DevPart}
use Rattle.zr_base.specs.declared.space.DevState.{DevState}
use Rattle.zr_base.specs.declared.space.DevState.TheVariants.{On, Leaving, Gone}
use Rattle.zr_rules.specs.Owed.{set_words}
use Rattle.zr_rules.specs.Places.{Place, one_if, in_address, is_place, places_of, is_on, is_leaving, is_gone, is_fresh, part_of, state_of_dev}
use Rattle.zr_rules.specs.Devices.{Devices, state_at}
use Rattle.zr_rules.specs.Resolve.{is_there, is_at, resolve, resolved, passed, passed_units, pass_hits, passes, leads_to}
use Rattle.zr_rules.specs.Roles.{Role, freed, kept_of, is_held_role, is_kept_role}
use Rattle.zr_rules.specs.Roles.Role.{Absent, Free, FreshLive, Live, Kept, DeferredBlock}
use Rattle.zr_rules.specs.Space.{Space, opened_of, has_place, role_at, IsLawful}
use Rattle.zr_rules.specs.Equation.{devices_in}
use Rattle.zr_rules.specs.Columns.{device_words, sizes}
use Rattle.zr_rules.specs.Frees.{Frees, keeps, is_copy_of, copy_from, freed_role, marks}
use Rattle.zr_reckon.specs.Uses.{is_room_role, room, AreInService, AllAre, IsWhole}
use Rattle.zr_reckon.proofs.Bits.{is_deferred_block}
use Rattle.zr_reckon.proofs.Counting.{sum_as, sum_zero, sum_grows, sum_at_most, only_at}
use Rattle.zr_reckon.proofs.Frames.{held_same, kept_same, deferred_same, fresh_same, words_move, others_same, room_grows}
use Rattle.zr_reckon.proofs.Placed.{beyond}
use Rattle.zr_reckon.proofs.Turned.{Turns, kind_same, held_goes, kept_comes, deferred_comes}

-- ---- where addresses lead

resolve_here : (k : ℕ) (ds : Devices) (d u : ℕ) → is_gone (state_at ds d) ≡ false → is_there ds d u ≡ true → resolve (suc k) ds d u ≡ Some (d, u)
resolve_here k ds d u stays there = rw stays (rw there refl)

resolved_here : (n : ℕ) (ds : Devices) (d u : ℕ) → is_gone (state_at ds d) ≡ false → is_there ds d u ≡ true → 0 < n → resolve n ds d u ≡ Some (d, u)
resolved_here zero ds d u stays there some = absurd (omega (arith, some))
resolved_here (suc k) ds d u stays there some = resolve_here k ds d u stays there

any_in : (ds : Devices) (dev s n d u : ℕ) → ((v : ℕ) → s ≤ v → v < s + n → resolved ds dev v ≡ Some (dev, v))
    → list_any (λ p. is_at p d u) (map (λ (p : Place). resolved ds p.0 p.1) (map (λ (v : ℕ). (dev, v)) (range_with_len s n))) ≡ in_address (record { dev = dev; start = s; len = n }) d u
any_in ds dev s zero d u here = grind (arith, nat_tests)
any_in ds dev s (suc n) d u here =
    let rest = any_in ds dev (s + 1) n d u (λ v from to. here v (omega (arith, from)) (omega (arith, to))) in
    let first = ap (λ (p : Option Place). is_at p d u) (here s (omega arith) (omega arith)) in
    grind (arith, nat_tests, rest, first)

on_not_gone : (st : DevState) → is_on st ≡ true → is_gone st ≡ false
on_not_gone On is = refl
on_not_gone Leaving is = refl
on_not_gone Gone is = absurd (cc)

on_not_leaving : (st : DevState) → is_on st ≡ true → is_leaving st ≡ false
on_not_leaving On is = refl
on_not_leaving Leaving is = absurd (cc)
on_not_leaving Gone is = refl

passed_none : (n : ℕ) (ds : Devices) (d u : ℕ) → is_gone (state_at ds d) ≡ false → passed n ds d u ≡ []
passed_none zero ds d u stays = refl
passed_none (suc n) ds d u stays = rw stays refl

none_copied : (s : Space) (a : Dva) (k d u : ℕ) (parts : List DevPart) → ((i : ℕ) → is_leaving (part_of parts i).row.state ≡ false) → copy_from s a k parts d u ≡ false
none_copied s a k d u [] stay = refl
none_copied s a k d u (p ∷ parts) stay =
    let here = stay 0 in
    let rest = none_copied s a (k + 1) d u parts (λ i. stay (suc i)) in
    grind (arith, here, rest)

module _ (s : Space) (a : Dva) (on : AreInService s) where
  stays : (d : ℕ) → is_gone (state_of_dev s.parts.devs d) ≡ false
  stays d = on_not_gone (state_of_dev s.parts.devs d) (on d)

  pub no_copy : (d u : ℕ) → is_copy_of s a d u ≡ false
  no_copy d u = none_copied s a 0 d u s.parts.devs (λ i. on_not_leaving (state_of_dev s.parts.devs i) (on i))

  no_pass : (d u : ℕ) → passes (devices_in s) a d u ≡ false
  no_pass d u =
      let none = sum_as (λ (p : Place). sum_by (λ (q : Place). one_if (is_place q d u)) (passed_units (devices_in s) p.0 p.1)) (λ (p : Place). 0) (places_of a)
      (λ p. ap (λ (qs : List Place). sum_by (λ (q : Place). one_if (is_place q d u)) qs) (passed_none (length s.parts.devs) (devices_in s) p.0 p.1 (stays p.0))) in
      let all = sum_zero (places_of a) in
      let hits : pass_hits (devices_in s) a d u ≡ 0 = none ∙ all in
      grind (arith, nat_tests, hits)

  pub no_mark : (d u : ℕ) → marks s a d u ≡ false
  no_mark d u =
      let p = no_pass d u in
      let l = on_not_leaving (state_of_dev s.parts.devs d) (on d) in
      grind (arith, p, l)

  -- units that are there lead to themselves
  pub leads_on : ((u : ℕ) → in_address a a.dev u ≡ true → has_place s a.dev u ≡ true) → (d u : ℕ) → leads_to (devices_in s) a d u ≡ in_address a d u
  leads_on there d u = any_in (devices_in s) a.dev a.start a.len d u
      (λ v from to. let h = there v (grind (arith, nat_tests, from, to)) in resolved_here (length s.parts.devs) (devices_in s) a.dev v (stays a.dev) (grind (arith, nat_tests, h)) (grind (arith, nat_tests, h)))

-- a unit with a role is there
used_there : (s : Space) (d u : ℕ) (r : Role) → (r ≡ Absent → ⊥) → role_at s d u ≡ r → has_place s d u ≡ true
used_there s d u r used is = by_test (has_place s d u) refl
  where
    by_test : (b : Bool) → has_place s d u ≡ b → b ≡ true
    by_test true h = refl
    by_test false h = absurd (used (sym is ∙ beyond s d u h))

module _ (old new : Space) (a : Dva) (birth : ℕ) (f : Frees old new a birth) (l : IsLawful old) (on : AreInService old) where
  lawful : IsLawful new
  lawful = f.frame.lawful l

  nothing_marked : (d u : ℕ) → is_fresh new.parts.devs d u ≡ is_fresh old.parts.devs d u
  nothing_marked d u = let m = no_mark old a on d u in let g = f.fresh d u in grind (arith, m, g)

  pub free_others : (blocks objects : ℕ) → sizes new blocks objects ≡ record (sizes old blocks objects) { words = (sizes new blocks objects).words }
  free_others blocks objects = others_same old new blocks objects f.frame f.meta
      (λ d is. let l = on_not_leaving (state_of_dev old.parts.devs d) (on d) in let x = sym is ∙ l in absurd (cc))

  module _ (before : Role) (used : before ≡ Absent → ⊥) (all : AllAre old a before) where
    was : (d u : ℕ) → in_address a d u ≡ true → role_at old d u ≡ before
    was d u is =
        let same : d ≡ a.dev = grind (arith, nat_tests, is) in
        ap (λ (k : ℕ). role_at old k u) same ∙ all u (grind (arith, nat_tests, is))

    leads : (d u : ℕ) → leads_to (devices_in old) a d u ≡ in_address a d u
    leads = leads_on old a on (λ u is. used_there old a.dev u before used (all u is))

    turned : (after : Role) → (if keeps old.parts.ckpt birth then kept_of before else freed before) ≡ after → Turns old new a before after
    turned after is = record { was = was; roles = λ d u. f.roles d u ∙ by_test d u (in_address a d u) refl }
      where
        by_test : (d u : ℕ) (b : Bool) → in_address a d u ≡ b → freed_role old a birth d u ≡ (if in_address a d u then after else role_at old d u)
        by_test d u true here = rw (leads d u) rw here rw (was d u here) is
        by_test d u false here = rw (leads d u) rw here rw (no_copy old a on d u) refl

  module _ (before after : Role) (t : Turns old new a before after) where
    same : (kind : Role → Bool) → kind after ≡ kind before → (d u : ℕ) → kind (role_at new d u) ≡ kind (role_at old d u)
    same kind is = kind_same old new a before after t kind is

    -- the words of a device, from those of its sets
    gather : (d h k e : ℕ) → set_words old.parts.version (part_of new.parts.devs d).held ≤ set_words old.parts.version (part_of old.parts.devs d).held + h
        → set_words old.parts.version (part_of new.parts.devs d).kept ≤ set_words old.parts.version (part_of old.parts.devs d).kept + k
        → set_words old.parts.version (opened_of new d).deferred ≤ set_words old.parts.version (opened_of old d).deferred + e
        → device_words new d ≤ device_words old d + (h + 3 * k + e)
    gather d h k e held kept deferred =
        let m = words_move old new d f.frame.version (f.frame.each d) in
        let fresh = ap (set_words old.parts.version) (fresh_same old new d l lawful (nothing_marked d)) in
        omega (arith, m, held, kept, deferred, fresh)

    grows : (is_room_role before ≡ false) → room old ≤ room new
    grows outside = room_grows old new f.frame.devices (λ d. (f.frame.each d).row)
        (λ d u is. by_test d u (in_address a d u) refl is)
      where
        by_test : (d u : ℕ) (b : Bool) → in_address a d u ≡ b → is_room_role (role_at old d u) ≡ true → is_room_role (role_at new d u) ≡ true
        by_test d u true here is = let w = ap is_room_role (t.was d u here) in let x = sym is ∙ (w ∙ outside) in absurd (cc)
        by_test d u false here is = ap is_room_role (t.roles d u) ∙ (rw here is)

  total : ((d : ℕ) → device_words new d ≤ device_words old d + only_at a.dev 3 d) → (blocks objects : ℕ) → (sizes new blocks objects).words ≤ (sizes old blocks objects).words + 3
  total each blocks objects =
      let n = length old.parts.devs in
      let s = ap (λ (k : ℕ). sum_by (device_words new) (range_with_len 0 k)) f.frame.devices in
      let g = sum_grows (device_words new) (device_words old) (only_at a.dev 3) (range_with_len 0 n) each in
      let o = sum_at_most a.dev 3 n in
      omega (arith, s, g, o)

  not_absent : (r : Role) → is_held_role r ≡ true → r ≡ Absent → ⊥
  not_absent r held is = let x = sym held ∙ ap is_held_role is in absurd (cc)

  -- what the open group made is free at once
  module _ (all : AllAre old a FreshLive) (short : a.len ≤ 32768) where
    fresh_turns : Turns old new a FreshLive Free
    fresh_turns = turned FreshLive (not_absent FreshLive refl) all Free (both (keeps old.parts.ckpt birth))
      where
        both : (b : Bool) → (if b then kept_of FreshLive else freed FreshLive) ≡ Free
        both true = refl
        both false = refl

    fresh_each : (d : ℕ) → device_words new d ≤ device_words old d + only_at a.dev 3 d
    fresh_each d =
        let v = old.parts.version in
        let t = fresh_turns in
        let held = held_goes old new a FreshLive Free t l lawful short v d refl refl in
        let kept = ap (set_words v) (kept_same old new d d l lawful (same FreshLive Free t is_kept_role refl d)) in
        let deferred = ap (set_words v) (deferred_same old new d d l lawful (same FreshLive Free t is_deferred_block refl d)) in
        let g = gather FreshLive Free t d (only_at a.dev 2 d) 0 0 held (omega (arith, kept)) (omega (arith, deferred)) in
        grind (arith, nat_tests, g)

  -- what the checkpoint may have is kept
  module _ (all : AllAre old a Live) (short : a.len ≤ 32768) (is : keeps old.parts.ckpt birth ≡ true) where
    kept_turns : Turns old new a Live Kept
    kept_turns = turned Live (not_absent Live refl) all Kept (rw is refl)

    kept_each : (d : ℕ) → device_words new d ≤ device_words old d + only_at a.dev 3 d
    kept_each d =
        let v = old.parts.version in
        let t = kept_turns in
        let held = ap (set_words v) (held_same old new d d l lawful (same Live Kept t is_held_role refl d)) in
        let kept = kept_comes old new a Live Kept t l lawful short v d refl refl in
        let deferred = ap (set_words v) (deferred_same old new d d l lawful (same Live Kept t is_deferred_block refl d)) in
        let g = gather Live Kept t d 0 (only_at a.dev 1 d) 0 (omega (arith, held)) kept (omega (arith, deferred)) in
        grind (arith, nat_tests, g)

  -- and the rest is deferred
  module _ (all : AllAre old a Live) (short : a.len ≤ 32768) (is : keeps old.parts.ckpt birth ≡ false) where
    live_turns : Turns old new a Live DeferredBlock
    live_turns = turned Live (not_absent Live refl) all DeferredBlock (rw is refl)

    live_each : (d : ℕ) → device_words new d ≤ device_words old d + only_at a.dev 3 d
    live_each d =
        let v = old.parts.version in
        let t = live_turns in
        let held = held_goes old new a Live DeferredBlock t l lawful short v d refl refl in
        let kept = ap (set_words v) (kept_same old new d d l lawful (same Live DeferredBlock t is_kept_role refl d)) in
        let deferred = deferred_comes old new a Live DeferredBlock t l lawful short v d refl refl in
        let g = gather Live DeferredBlock t d (only_at a.dev 2 d) 0 (only_at a.dev 1 d) held (omega (arith, kept)) deferred in
        grind (arith, nat_tests, g)

  pub free_words : IsWhole old a → a.len ≤ 32768 → (blocks objects : ℕ) → (sizes new blocks objects).words ≤ (sizes old blocks objects).words + 3
  free_words (inl all) short blocks objects = total (fresh_each all short) blocks objects
  free_words (inr all) short blocks objects = total (by_test (keeps old.parts.ckpt birth) refl) blocks objects
    where
      by_test : (b : Bool) → keeps old.parts.ckpt birth ≡ b → (d : ℕ) → device_words new d ≤ device_words old d + only_at a.dev 3 d
      by_test true is = kept_each all short is
      by_test false is = live_each all short is

  pub free_room : IsWhole old a → room old ≤ room new
  free_room (inl all) = grows FreshLive Free (turned FreshLive (not_absent FreshLive refl) all Free (both (keeps old.parts.ckpt birth))) refl
    where
      both : (b : Bool) → (if b then kept_of FreshLive else freed FreshLive) ≡ Free
      both true = refl
      both false = refl
  free_room (inr all) = by_test (keeps old.parts.ckpt birth) refl
    where
      by_test : (b : Bool) → keeps old.parts.ckpt birth ≡ b → room old ≤ room new
      by_test true is = grows Live Kept (turned Live (not_absent Live refl) all Kept (rw is refl)) refl
      by_test false is = grows Live DeferredBlock (turned Live (not_absent Live refl) all DeferredBlock (rw is refl)) refl
