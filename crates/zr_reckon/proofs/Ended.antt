-- The end of a group, and the counts behind it.
use Rattle.std.proofs.Common.{◌≡◌, ℕ, ◌+◌, ◌≤◌, Bool, true, false, List, [], length, refl, ◌∙◌, sym, ap, arith, if◌then◌else◌}
use Rattle.std.specs.List.{sum_by, range_with_len}
use Rattle.zr_base.specs.declared.space.Entry.{Entry}
use Rattle.zr_base.specs.declared.space.DevPart.{DevPart}
use Rattle.zr_base.proofs.ExtentSets.{same_extents}
use Rattle.zr_rules.specs.Owed.{set_words}
use Rattle.zr_rules.specs.Places.{count_below, part_of, units_of_dev}
use Rattle.zr_rules.specs.Roles.{Role, aged, cleared, is_held_role, is_kept_role}
use Rattle.zr_rules.specs.Space.{Space, OpenSets, opened_of, role_at, IsLawful}
use Rattle.zr_rules.specs.Columns.{role_count, device_words, late_blocks, late_meta_units, late1_meta, late2_meta, sizes}
use Rattle.zr_rules.specs.Steps.{Commits}
use Rattle.zr_reckon.specs.Uses.{is_room_role, room, is_dropped_role, dropped_units, freed_words, second_late_words, HasLateSets}
use Rattle.zr_reckon.proofs.Bits.{is_late1_block, is_late2_block, is_late1_meta, is_late2_meta}
use Rattle.zr_reckon.proofs.RoleKinds.{aged_held, aged_kept, aged_late1, aged_late2, aged_late1_meta, aged_late2_meta, aged_room, cleared_held, cleared_kept, cleared_late1_block, cleared_late2_block, cleared_late1_meta, cleared_late2_meta, cleared_room}
use Rattle.zr_reckon.proofs.RoleSets.{deferred_is}
use Rattle.zr_reckon.proofs.Counting.{count_as, count_none, sum_as, sum_both, sum_zero, by_index}
use Rattle.zr_reckon.proofs.Frames.{held_same, kept_same, fresh_same, words_same, sized, streams_same, gone_same, uncopied_same, room_grows}
use Rattle.zr_reckon.proofs.Lates.{late1_unit, late2_unit, late1_count, late2_count}

module _ (reset : Bool) (old new : Space) (c : Commits reset old new) (l : IsLawful old) where
  lawful : IsLawful new
  lawful = c.lawful l

  -- a kind of role that both ends keep
  same : (kind : Role → Bool) → ((r : Role) → kind (aged r) ≡ kind r) → ((r : Role) → kind (cleared r) ≡ kind r) → (d u : ℕ) → kind (role_at new d u) ≡ kind (role_at old d u)
  same kind a b d u = ap kind (c.roles d u) ∙ by_reset reset
    where
      by_reset : (b : Bool) → kind (if b then cleared (role_at old d u) else aged (role_at old d u)) ≡ kind (role_at old d u)
      by_reset true = b (role_at old d u)
      by_reset false = a (role_at old d u)

  pub end_room : room old ≤ room new
  end_room = room_grows old new c.devices c.rows (λ d u is. ap is_room_role (c.roles d u) ∙ by_reset reset d u is)
    where
      by_reset : (b : Bool) (d u : ℕ) → is_room_role (role_at old d u) ≡ true → is_room_role (if b then cleared (role_at old d u) else aged (role_at old d u)) ≡ true
      by_reset true d u is = cleared_room (role_at old d u) is
      by_reset false d u is = aged_room (role_at old d u) is

  pub end_others : (blocks objects : ℕ) → sizes new blocks objects ≡ record (sizes old blocks objects) { words = (sizes new blocks objects).words; turning = (sizes new blocks objects).turning; past = (sizes new blocks objects).past }
  end_others blocks objects =
      all_sizes _ _ _ _ _ _ blocks objects (sizes new blocks objects).words (sizes new blocks objects).turning (sizes new blocks objects).past
      (ap (λ (k : ℕ). 2 + k) (streams_same old new c.devices c.rows))
      (gone_same old new c.devices c.rows)
      (uncopied_same old new c.devices c.rows c.entries (λ d is. held_same old new d d l lawful (same is_held_role aged_held cleared_held d)))
    where
      all_sizes : (s1 s2 g1 g2 u1 u2 : ℕ) (blocks objects words turning past : ℕ) → s1 ≡ s2 → g1 ≡ g2 → u1 ≡ u2
          → sized blocks objects words s1 g1 u1 turning past ≡ sized blocks objects words s2 g2 u2 turning past
      all_sizes s1 s2 g1 g2 u1 u2 blocks objects words turning past s g u = cc

  -- the words of a device but those of what was freed
  steady : (d : ℕ) (e1 l1 l2 m1 m2 : ℕ)
      → set_words old.parts.version (opened_of old d).deferred ≡ e1
      → set_words old.parts.version (late_blocks (part_of old.parts.devs d).late1) ≡ l1
      → set_words old.parts.version (late_blocks (part_of old.parts.devs d).late2) ≡ l2
      → set_words old.parts.version (late_blocks (part_of new.parts.devs d).late1) ≡ m1
      → set_words old.parts.version (late_blocks (part_of new.parts.devs d).late2) ≡ m2
      → device_words new d + e1 + l1 + l2 ≡ device_words old d + m1 + m2
  steady d e1 l1 l2 m1 m2 p1 p2 p3 p4 p5 =
      let v = old.parts.version in
      let w = new.parts.version in
      let held = words_same w v _ _ c.version (held_same old new d d l lawful (same is_held_role aged_held cleared_held d)) in
      let kept = words_same w v _ _ c.version (kept_same old new d d l lawful (same is_kept_role aged_kept cleared_kept d)) in
      let fresh = words_same w v _ _ c.version (fresh_same old new d l lawful (c.fresh d)) in
      let deferred = words_same w v (opened_of new d).deferred [] c.version (ap (λ (o : OpenSets). o.deferred) (c.opened d)) in
      let entries = ap (λ (es : List Entry). length es) (c.entries d) in
      let late1 = words_same w v (late_blocks (part_of new.parts.devs d).late1) _ c.version refl in
      let late2 = words_same w v (late_blocks (part_of new.parts.devs d).late2) _ c.version refl in
      omega (arith, held, kept, fresh, deferred, entries, late1, late2, p1, p2, p3, p4, p5)

  metas : (g : DevPart → ℕ) (h : ℕ → ℕ) → ((d : ℕ) → g (part_of new.parts.devs d) ≡ h d) → sum_by g new.parts.devs ≡ sum_by h (range_with_len 0 (length old.parts.devs))
  metas g h is =
      by_index g new.parts.devs
      ∙ (sum_as (λ (d : ℕ). g (part_of new.parts.devs d)) h (range_with_len 0 (length new.parts.devs)) is
      ∙ ap (λ (n : ℕ). sum_by h (range_with_len 0 n)) c.devices)

  units : (d : ℕ) → units_of_dev new.parts.devs d ≡ units_of_dev old.parts.devs d
  units d = ap (λ r. r.units) (c.rows d)

-- ---- a plain end

module _ (old new : Space) (c : Commits false old new) (l : IsLawful old) where
  turned : (f g : Role → Bool) → ((r : Role) → f (aged r) ≡ g r) → (d : ℕ) → role_count new f d ≡ role_count old g d
  turned f g is d =
      ap (λ (n : ℕ). count_below n (λ u. f (role_at new d u))) (units false old new c l d)
      ∙ count_as (units_of_dev old.parts.devs d) (λ u. f (role_at new d u)) (λ u. g (role_at old d u)) (λ u lt. ap f (c.roles d u) ∙ is (role_at old d u))

  pub end_first : late1_meta new.parts.devs ≡ dropped_units old
  end_first = metas false old new c l (λ p. late_meta_units p.late1) (role_count old is_dropped_role)
      (λ d. late1_count new d (lawful false old new c l) ∙ turned is_late1_meta is_dropped_role aged_late1_meta d)

  pub end_second : late2_meta new.parts.devs ≡ late1_meta old.parts.devs
  end_second = metas false old new c l (λ p. late_meta_units p.late2) (λ d. late_meta_units (part_of old.parts.devs d).late1)
      (λ d. late2_count new d (lawful false old new c l) ∙ (turned is_late2_meta is_late1_meta aged_late2_meta d ∙ sym (late1_count old d l)))
      ∙ sym (by_index (λ p. late_meta_units p.late1) old.parts.devs)

  module _ (h : HasLateSets old) (k : HasLateSets new) where
    each : (d : ℕ) → device_words old d ≡ device_words new d + set_words old.parts.version (late_blocks (part_of old.parts.devs d).late2)
    each d =
        let v = old.parts.version in
        let m = lawful false old new c l in
        let first = same_extents 0 0 _ _ (k.late1 d) (l.sets d).deferred.maximal (λ u. late1_unit new d u m ∙ (ap is_late1_block (c.roles d u) ∙ (aged_late1 (role_at old d u) ∙ sym (deferred_is old d u l)))) in
        let second = same_extents 0 0 _ _ (k.late2 d) (h.late1 d) (λ u. late2_unit new d u m ∙ (ap is_late2_block (c.roles d u) ∙ (aged_late2 (role_at old d u) ∙ sym (late1_unit old d u l)))) in
        let s = steady false old new c l d _ _ _ _ _ refl refl refl (ap (set_words v) first) (ap (set_words v) second) in
        omega (arith, s)

    pub end_words : (blocks objects : ℕ) → (sizes new blocks objects).words + second_late_words old ≡ (sizes old blocks objects).words
    end_words blocks objects =
        let n = length old.parts.devs in
        let s = ap (λ (i : ℕ). sum_by (device_words new) (range_with_len 0 i)) c.devices in
        let b = sum_both (device_words old) (device_words new) (λ (d : ℕ). set_words old.parts.version (late_blocks (part_of old.parts.devs d).late2)) (range_with_len 0 n) each in
        omega (arith, s, b)

-- ---- a reset

module _ (old new : Space) (c : Commits true old new) (l : IsLawful old) where
  nothing : (f : Role → Bool) → ((r : Role) → f (cleared r) ≡ false) → (d : ℕ) → role_count new f d ≡ 0
  nothing f is d = count_as (units_of_dev new.parts.devs d) (λ u. f (role_at new d u)) (λ u. false) (λ u lt. ap f (c.roles d u) ∙ is (role_at old d u)) ∙ count_none (units_of_dev new.parts.devs d)

  pub end_none : late1_meta new.parts.devs + late2_meta new.parts.devs ≡ 0
  end_none =
      let m = lawful true old new c l in
      let a = metas true old new c l (λ p. late_meta_units p.late1) (λ d. 0) (λ d. late1_count new d m ∙ nothing is_late1_meta cleared_late1_meta d) in
      let b = metas true old new c l (λ p. late_meta_units p.late2) (λ d. 0) (λ d. late2_count new d m ∙ nothing is_late2_meta cleared_late2_meta d) in
      let z = sum_zero (range_with_len 0 (length old.parts.devs)) in
      omega (arith, a, b, z)

  module _ (k : HasLateSets new) where
    each_reset : (d : ℕ) → device_words old d ≡ device_words new d + (set_words old.parts.version (opened_of old d).deferred + set_words old.parts.version (late_blocks (part_of old.parts.devs d).late1) + set_words old.parts.version (late_blocks (part_of old.parts.devs d).late2))
    each_reset d =
        let v = old.parts.version in
        let m = lawful true old new c l in
        let first = same_extents 0 0 _ [] (k.late1 d) tt (λ u. late1_unit new d u m ∙ (ap is_late1_block (c.roles d u) ∙ cleared_late1_block (role_at old d u))) in
        let second = same_extents 0 0 _ [] (k.late2 d) tt (λ u. late2_unit new d u m ∙ (ap is_late2_block (c.roles d u) ∙ cleared_late2_block (role_at old d u))) in
        let s = steady true old new c l d _ _ _ 0 0 refl refl refl (ap (set_words v) first) (ap (set_words v) second) in
        omega (arith, s)

    pub reset_words : (blocks objects : ℕ) → (sizes new blocks objects).words + freed_words old ≡ (sizes old blocks objects).words
    reset_words blocks objects =
        let n = length old.parts.devs in
        let s = ap (λ (i : ℕ). sum_by (device_words new) (range_with_len 0 i)) c.devices in
        let b = sum_both (device_words old) (device_words new) (λ (d : ℕ). set_words old.parts.version (opened_of old d).deferred + set_words old.parts.version (late_blocks (part_of old.parts.devs d).late1) + set_words old.parts.version (late_blocks (part_of old.parts.devs d).late2)) (range_with_len 0 n) each_reset in
        omega (arith, s, b)
