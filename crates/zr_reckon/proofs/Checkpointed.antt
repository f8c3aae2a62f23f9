-- A checkpoint is held, and the counts behind it.
use Rattle.std.proofs.Common.{◌≡◌, ℕ, zero, suc, ◌+◌, ◌≤◌, Bool, true, false, nat_lt, length, refl, ◌∙◌, ap, arith, if◌then◌else◌}
use Rattle.std.specs.List.{sum_by, range_with_len}
use Rattle.std.proofs.lemmas.Bool.Decides.{nat_tests}
use Rattle.zr_base.specs.declared.space.Dva.{Dva}
use Rattle.zr_rules.specs.Owed.{set_words}
use Rattle.zr_rules.specs.Places.{one_if, count_below, address_hits, is_on, part_of, state_of_dev, units_of_dev}
use Rattle.zr_rules.specs.Roles.{Role, saved, is_held_role, is_kept_role}
use Rattle.zr_rules.specs.Roles.Role.{Absent, Free, FreshLive, Live, FreshCopy, Copy, Kept, DeferredBlock, DeferredMeta, Late1Block, Late1Meta, Late2Block, Late2Meta, Meta, SavedMeta}
use Rattle.zr_rules.specs.Space.{Space, role_at, IsLawful}
use Rattle.zr_rules.specs.Columns.{role_count, on_devices, device_words, units_on, late_meta_units, late1_meta, late2_meta, sizes}
use Rattle.zr_rules.specs.Steps.{HoldsCheckpoint}
use Rattle.zr_reckon.specs.Uses.{is_room_role, room}
use Rattle.zr_reckon.proofs.Bits.{is_deferred_block, is_current_meta}
use Rattle.zr_reckon.proofs.RoleSets.{meta_is}
use Rattle.zr_reckon.proofs.Counting.{count_as, sum_as, sum_grows, sum_less, sum_passing}
use Rattle.zr_reckon.proofs.Frames.{held_same, kept_same, deferred_same, fresh_same, words_move, sized, streams_same, gone_same, uncopied_same, on_same, sum_same}
use Rattle.zr_reckon.proofs.RoomUnits.{units_counted, meta_hits, lens_counted}

saved_held : (r : Role) → is_held_role (saved r) ≡ is_held_role r
saved_held Absent = refl
saved_held Free = refl
saved_held FreshLive = refl
saved_held Live = refl
saved_held FreshCopy = refl
saved_held Copy = refl
saved_held Kept = refl
saved_held DeferredBlock = refl
saved_held DeferredMeta = refl
saved_held Late1Block = refl
saved_held Late1Meta = refl
saved_held Late2Block = refl
saved_held Late2Meta = refl
saved_held Meta = refl
saved_held SavedMeta = refl

saved_kept : (r : Role) → is_kept_role (saved r) ≡ is_kept_role r
saved_kept Absent = refl
saved_kept Free = refl
saved_kept FreshLive = refl
saved_kept Live = refl
saved_kept FreshCopy = refl
saved_kept Copy = refl
saved_kept Kept = refl
saved_kept DeferredBlock = refl
saved_kept DeferredMeta = refl
saved_kept Late1Block = refl
saved_kept Late1Meta = refl
saved_kept Late2Block = refl
saved_kept Late2Meta = refl
saved_kept Meta = refl
saved_kept SavedMeta = refl

saved_deferred : (r : Role) → is_deferred_block (saved r) ≡ is_deferred_block r
saved_deferred Absent = refl
saved_deferred Free = refl
saved_deferred FreshLive = refl
saved_deferred Live = refl
saved_deferred FreshCopy = refl
saved_deferred Copy = refl
saved_deferred Kept = refl
saved_deferred DeferredBlock = refl
saved_deferred DeferredMeta = refl
saved_deferred Late1Block = refl
saved_deferred Late1Meta = refl
saved_deferred Late2Block = refl
saved_deferred Late2Meta = refl
saved_deferred Meta = refl
saved_deferred SavedMeta = refl

saved_room : (r : Role) → one_if (is_room_role (saved r)) + one_if (is_current_meta r) ≡ one_if (is_room_role r)
saved_room Absent = refl
saved_room Free = refl
saved_room FreshLive = refl
saved_room Live = refl
saved_room FreshCopy = refl
saved_room Copy = refl
saved_room Kept = refl
saved_room DeferredBlock = refl
saved_room DeferredMeta = refl
saved_room Late1Block = refl
saved_room Late1Meta = refl
saved_room Late2Block = refl
saved_room Late2Meta = refl
saved_room Meta = refl
saved_room SavedMeta = refl

-- two counts of which one at most goes up at each number
count_two : (n : ℕ) (a b all : ℕ → Bool) → ((u : ℕ) → one_if (a u) + one_if (b u) ≡ one_if (all u)) → count_below n a + count_below n b ≡ count_below n all
count_two zero a b all each = refl
count_two (suc n) a b all each = let r = count_two n a b all each in let h = each n in omega (arith, r, h)

module _ (old new : Space) (txg : ℕ) (c : HoldsCheckpoint old new txg) where
  rows : (d : ℕ) → (part_of new.parts.devs d).row ≡ (part_of old.parts.devs d).row
  rows d = (c.each d).row

  pub hold_past : (blocks objects : ℕ) → (sizes new blocks objects).past ≤ (sizes old blocks objects).past
  hold_past blocks objects =
      let none : sum_by (λ (x : Dva). x.len) new.meta ≡ 0 = ap (sum_by (λ (x : Dva). x.len)) c.meta in
      let y : late1_meta new.parts.devs ≡ late1_meta old.parts.devs = sum_same old new c.devices rows (λ p. late_meta_units p.late1) (λ d. ap late_meta_units (c.each d).late1) in
      let z : late2_meta new.parts.devs ≡ late2_meta old.parts.devs = sum_same old new c.devices rows (λ p. late_meta_units p.late2) (λ d. ap late_meta_units (c.each d).late2) in
      omega (arith, none, y, z)

  module _ (l : IsLawful old) where
    m : IsLawful new
    m = c.lawful l

    same : (kind : Role → Bool) → ((r : Role) → kind (saved r) ≡ kind r) → (d u : ℕ) → kind (role_at new d u) ≡ kind (role_at old d u)
    same kind is d u = ap kind (c.roles d u) ∙ is (role_at old d u)

    each_words : (d : ℕ) → device_words new d ≡ device_words old d
    each_words d =
        let v = old.parts.version in
        let w = words_move old new d c.version (c.each d) in
        let held = ap (set_words v) (held_same old new d d l m (same is_held_role saved_held d)) in
        let kept = ap (set_words v) (kept_same old new d d l m (same is_kept_role saved_kept d)) in
        let deferred = ap (set_words v) (deferred_same old new d d l m (same is_deferred_block saved_deferred d)) in
        let fresh = ap (set_words v) (fresh_same old new d l m (c.fresh d)) in
        omega (arith, w, held, kept, deferred, fresh)

    pub hold_words : (blocks objects : ℕ) → (sizes new blocks objects).words ≡ (sizes old blocks objects).words
    hold_words blocks objects =
        ap (λ (k : ℕ). sum_by (device_words new) (range_with_len 0 k)) c.devices
        ∙ sum_as (device_words new) (device_words old) (range_with_len 0 (length old.parts.devs)) each_words

    pub hold_others : (blocks objects : ℕ) → sizes new blocks objects ≡ record (sizes old blocks objects) { turning = (sizes new blocks objects).turning; past = (sizes new blocks objects).past }
    hold_others blocks objects =
        all_sizes _ _ _ _ _ _ _ _ blocks objects (sizes new blocks objects).turning (sizes new blocks objects).past
        (hold_words blocks objects)
        (ap (λ (k : ℕ). 2 + k) (streams_same old new c.devices rows))
        (gone_same old new c.devices rows)
        (uncopied_same old new c.devices rows (λ d. (c.each d).entries) (λ d is. held_same old new d d l m (same is_held_role saved_held d)))
      where
        all_sizes : (w1 w2 s1 s2 g1 g2 u1 u2 : ℕ) (blocks objects turning past : ℕ) → w1 ≡ w2 → s1 ≡ s2 → g1 ≡ g2 → u1 ≡ u2
            → sized blocks objects w1 s1 g1 u1 turning past ≡ sized blocks objects w2 s2 g2 u2 turning past
        all_sizes w1 w2 s1 s2 g1 g2 u1 u2 blocks objects turning past w s g u = cc

    -- on each device
    room_each : (d : ℕ) → role_count old is_room_role d ≤ role_count new is_room_role d + units_on old.meta d
    room_each d =
        let n = units_of_dev old.parts.devs d in
        let two = count_two n (λ u. is_room_role (saved (role_at old d u))) (λ u. is_current_meta (role_at old d u)) (λ u. is_room_role (role_at old d u)) (λ u. saved_room (role_at old d u)) in
        let now = count_as n (λ u. is_room_role (role_at new d u)) (λ u. is_room_role (saved (role_at old d u))) (λ u lt. ap is_room_role (c.roles d u)) in
        let many = ap (λ (k : ℕ). count_below k (λ u. is_room_role (role_at new d u))) (ap (λ r. r.units) (rows d)) in
        let counted = units_counted old.meta d n (meta_hits old l d) in
        let metas = count_as n (λ u. nat_lt 0 (address_hits old.meta d u)) (λ u. is_current_meta (role_at old d u)) (λ u lt. meta_is old d u l) in
        omega (arith, two, now, many, counted, metas)

    pub hold_room : room old ≤ room new + sum_by (λ (x : Dva). x.len) old.meta
    hold_room =
        let n = length old.parts.devs in
        let on = on_devices old in
        let g = sum_grows (role_count old is_room_role) (role_count new is_room_role) (units_on old.meta) on room_each in
        let same_on = ap (sum_by (role_count new is_room_role)) (on_same old new c.devices rows) in
        let pass = sum_passing (units_on old.meta) (λ d. is_on (state_of_dev old.parts.devs d)) (range_with_len 0 n) in
        let less = sum_less (λ (d : ℕ). if is_on (state_of_dev old.parts.devs d) then units_on old.meta d else 0) (units_on old.meta) (range_with_len 0 n) (λ d. at_most (is_on (state_of_dev old.parts.devs d)) (units_on old.meta d)) in
        let lens = lens_counted old.meta n (λ d u some. let o = l.once d u in grind (arith, nat_tests, o, some)) in
        omega (arith, g, same_on, pass, less, lens)
      where
        at_most : (b : Bool) (k : ℕ) → (if b then k else 0) ≤ k
        at_most true k = omega arith
        at_most false k = omega arith
