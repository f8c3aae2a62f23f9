-- An allocation for metadata, and the counts behind it.
use Rattle.std.proofs.Common.{◌≡◌, ℕ, ◌+◌, ◌<◌, ◌≤◌, Bool, nat_lt, length, refl, ◌∙◌, ap, arith, ⊎_elim}
use Rattle.std.specs.List.{sum_by, range_with_len}
use Rattle.std.proofs.lemmas.Bool.{cases_eq}
use Rattle.std.proofs.lemmas.Bool.Decides.{nat_tests}
use Rattle.zr_base.specs.declared.space.Dva.{Dva}
use Rattle.zr_base.specs.declared.space.Policy.{Policy}
use Rattle.zr_rules.specs.Owed.{set_words}
use Rattle.zr_rules.specs.Places.{count_below, address_hits, units_of_dev}
use Rattle.zr_rules.specs.Roles.{Role, is_held_role, is_kept_role}
use Rattle.zr_rules.specs.Roles.Role.{Free, Meta}
use Rattle.zr_rules.specs.Space.{Space, role_at, IsLawful}
use Rattle.zr_rules.specs.Columns.{role_count, free_units, device_words, units_on, sizes}
use Rattle.zr_rules.specs.Frees.{AllocatesMeta}
use Rattle.zr_reckon.specs.Base.{device_base, base_words}
use Rattle.zr_reckon.specs.Uses.{is_room_role, room, is_dropped_role, dropped_units}
use Rattle.zr_reckon.proofs.Bits.{is_deferred_block, is_current_meta}
use Rattle.zr_reckon.proofs.RoleSets.{meta_is}
use Rattle.zr_reckon.proofs.Counting.{count_as, count_with, sum_as, sum_both, sum_at, only_at}
use Rattle.zr_reckon.proofs.Frames.{held_same, kept_same, deferred_same, fresh_same, words_move, base_moves, count_same, sized, streams_same, gone_same, uncopied_same, room_same}
use Rattle.zr_reckon.proofs.Placed.{extent_of, was_free_at, fits_device, frees_less}
use Rattle.zr_reckon.proofs.RoomUnits.{units_counted, meta_hits, lens_counted}
use Rattle.zr_reckon.proofs.Turned.{Turns, kind_same}

module _ (policy : Policy) (want : ℕ) (old new : Space) (at : Dva) (a : AllocatesMeta policy want old new at) (l : IsLawful old) where
  lawful : IsLawful new
  lawful = a.frame.lawful l

  turns : Turns old new at Free Meta
  turns = record { was = λ d u is. was_free_at old policy want at a.place d u is; roles = a.roles }

  same : (kind : Role → Bool) → kind Meta ≡ kind Free → (d u : ℕ) → kind (role_at new d u) ≡ kind (role_at old d u)
  same kind is = kind_same old new at Free Meta turns kind is

  each_words : (d : ℕ) → device_words new d ≡ device_words old d
  each_words d =
      let v = old.parts.version in
      let m = words_move old new d a.frame.version (a.frame.each d) in
      let held = ap (set_words v) (held_same old new d d l lawful (same is_held_role refl d)) in
      let kept = ap (set_words v) (kept_same old new d d l lawful (same is_kept_role refl d)) in
      let deferred = ap (set_words v) (deferred_same old new d d l lawful (same is_deferred_block refl d)) in
      let fresh = ap (set_words v) (fresh_same old new d l lawful (a.fresh d)) in
      omega (arith, m, held, kept, deferred, fresh)

  pub meta_words : (blocks objects : ℕ) → (sizes new blocks objects).words ≡ (sizes old blocks objects).words
  meta_words blocks objects =
      ap (λ (k : ℕ). sum_by (device_words new) (range_with_len 0 k)) a.frame.devices
      ∙ sum_as (device_words new) (device_words old) (range_with_len 0 (length old.parts.devs)) each_words

  each_base : (d : ℕ) → device_base new d ≡ device_base old d
  each_base d =
      let v = old.parts.version in
      let m = base_moves old new d a.frame.version (a.frame.each d) in
      let held = ap (set_words v) (held_same old new d d l lawful (same is_held_role refl d)) in
      let kept = ap (set_words v) (kept_same old new d d l lawful (same is_kept_role refl d)) in
      let fresh = ap (set_words v) (fresh_same old new d l lawful (a.fresh d)) in
      omega (arith, m, held, kept, fresh)

  pub meta_base : base_words new ≡ base_words old
  meta_base =
      ap (λ (k : ℕ). sum_by (device_base new) (range_with_len 0 k)) a.frame.devices
      ∙ sum_as (device_base new) (device_base old) (range_with_len 0 (length old.parts.devs)) each_base

  -- no metadata is given back
  pub meta_dropped : dropped_units new ≡ dropped_units old
  meta_dropped =
      ap (λ (k : ℕ). sum_by (role_count new is_dropped_role) (range_with_len 0 k)) a.frame.devices
      ∙ sum_as (role_count new is_dropped_role) (role_count old is_dropped_role) (range_with_len 0 (length old.parts.devs)) (λ d. count_same old new a.frame.devices (λ e. (a.frame.each e).row) is_dropped_role d (same is_dropped_role refl d))

  pub meta_frees : free_units new + want ≡ free_units old
  meta_frees = frees_less old policy want at a.place new Meta refl a.frame a.roles

  pub meta_room : room new ≡ room old
  meta_room = room_same old new a.frame.devices (λ d. (a.frame.each d).row) (same is_room_role refl)

  pub meta_others : (blocks objects : ℕ) → sizes new blocks objects ≡ record (sizes old blocks objects) { turning = (sizes new blocks objects).turning; past = (sizes new blocks objects).past }
  meta_others blocks objects =
      let rows = λ (d : ℕ). (a.frame.each d).row in
      let words = meta_words blocks objects in
      let streams = ap (λ (n : ℕ). 2 + n) (streams_same old new a.frame.devices rows) in
      let gone = gone_same old new a.frame.devices rows in
      let uncopied = uncopied_same old new a.frame.devices rows (λ d. (a.frame.each d).entries) (λ d is. held_same old new d d l lawful (same is_held_role refl d)) in
      all_sizes _ _ _ _ _ _ _ _ blocks objects (sizes new blocks objects).turning (sizes new blocks objects).past words streams gone uncopied
    where
      all_sizes : (w1 w2 s1 s2 g1 g2 u1 u2 : ℕ) (blocks objects turning past : ℕ) → w1 ≡ w2 → s1 ≡ s2 → g1 ≡ g2 → u1 ≡ u2
          → sized blocks objects w1 s1 g1 u1 turning past ≡ sized blocks objects w2 s2 g2 u2 turning past
      all_sizes w1 w2 s1 s2 g1 g2 u1 u2 blocks objects turning past w s g u = cc

  -- a device has the new units beside those that it had
  units_more : (d : ℕ) → units_on new.meta d ≡ units_on old.meta d + only_at at.dev at.len d
  units_more d =
      let n = units_of_dev old.parts.devs d in
      let k = units_of_dev new.parts.devs d in
      let is : k ≡ n = ap (λ r. r.units) (a.frame.each d).row in
      let x = units_counted old.meta d n (meta_hits old l d) in
      let y = units_counted new.meta d k (meta_hits new lawful d) in
      let z = ap (λ (i : ℕ). count_below i (λ u. nat_lt 0 (address_hits new.meta d u))) is in
      ⊎_elim
      (λ here.
      let fit : 0 < at.len → at.start + at.len ≤ n = λ some. let f = fits_device old policy want at a.place some in let e : units_of_dev old.parts.devs d ≡ units_of_dev old.parts.devs at.dev = ap (units_of_dev old.parts.devs) here in omega (arith, f, e) in
      let w = count_with n (λ u. nat_lt 0 (address_hits old.meta d u)) (λ u. nat_lt 0 (address_hits new.meta d u)) (extent_of at) fit
      (λ u inside. meta_is old d u l ∙ ap is_current_meta (was_free_at old policy want at a.place d u (grind (arith, nat_tests, inside, here))))
      (λ u lt. let m = a.meta d u in grind (arith, nat_tests, m, here)) in
      grind (arith, nat_tests, x, y, z, w, here))
      (λ away.
      let w = count_as n (λ u. nat_lt 0 (address_hits new.meta d u)) (λ u. nat_lt 0 (address_hits old.meta d u)) (λ u lt. let m = a.meta d u in grind (arith, nat_tests, m, away)) in
      grind (arith, nat_tests, x, y, z, w, away))
      (cases_eq d at.dev)

  pub meta_lens : sum_by (λ (x : Dva). x.len) new.meta ≡ sum_by (λ (x : Dva). x.len) old.meta + want
  meta_lens =
      let n = length old.parts.devs in
      let x = lens_counted old.meta n (λ d u some. let o = l.once d u in grind (arith, nat_tests, o, some)) in
      let y = lens_counted new.meta n (λ d u some. let o = lawful.once d u in let c = a.frame.devices in grind (arith, nat_tests, o, some, c)) in
      let both = sum_both (units_on new.meta) (units_on old.meta) (only_at at.dev at.len) (range_with_len 0 n) units_more in
      let one = sum_at at.dev at.len n a.place.known in
      let len = a.place.len in
      omega (arith, x, y, both, one, len)
