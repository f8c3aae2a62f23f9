-- A removal begins, and the counts behind it.
use Rattle.std.proofs.Common.{◌≡◌, ℕ, ◌+◌, ◌<◌, ◌≤◌, Bool, true, false, max, List, length, refl, ◌∙◌, sym, ap, ap₂, arith, if◌then◌else◌, ⊎_elim}
use Rattle.std.specs.List.{sum_by, range_with_len}
use Rattle.std.proofs.lemmas.Bool.{cases_eq}
use Rattle.std.proofs.lemmas.Bool.Decides.{nat_tests}
use Rattle.zr_base.specs.declared.space.Extent.{Extent}
use Rattle.zr_base.specs.declared.space.Dva.{Dva}
use Rattle.zr_base.specs.declared.space.Entry.{Entry}
use Rattle.zr_base.specs.declared.space.DevPart.{DevPart}
use Rattle.zr_base.specs.declared.space.DevRow.{DevRow}
use Rattle.zr_base.specs.declared.space.DevState.TheVariants.{On, Leaving}
use Rattle.zr_base.specs.Extents.{unit_count}
use Rattle.zr_rules.specs.Owed.{set_words}
use Rattle.zr_rules.specs.Places.{is_on, is_leaving, is_gone, part_of, state_of_dev, units_of_dev}
use Rattle.zr_rules.specs.Mappings.{end_of_last}
use Rattle.zr_rules.specs.Roles.{Role, is_held_role, is_kept_role}
use Rattle.zr_rules.specs.Space.{Space, frontier, IsLawful}
use Rattle.zr_rules.specs.Columns.{role_count, device_words, device_streams, late_meta_units, late1_meta, late2_meta, units_from, sizes}
use Rattle.zr_rules.specs.Steps.{Leaves}
use Rattle.zr_reckon.specs.Uses.{is_room_role, room, HasLateSets}
use Rattle.zr_reckon.proofs.Bits.{is_deferred_block, is_late1_block, is_late2_block, is_late1_meta, is_late2_meta}
use Rattle.zr_reckon.proofs.Counting.{sum_as, sum_less, sum_both, sum_passing, sum_at, only_at, by_index}
use Rattle.zr_reckon.proofs.Frames.{held_same, kept_same, deferred_same, fresh_same}
use Rattle.zr_reckon.proofs.Lates.{late1_same, late2_same, late1_count, late2_count, compare}
use Rattle.zr_reckon.proofs.Elsewhere.{is_on_state, on_not_leaving, sum_differs, left_of, from_zero, state_away, state_sum_up, count_stays, left_stays}

module _ (old new : Space) (d : ℕ) (c : Leaves old new d) where
  count : length new.parts.devs ≡ length old.parts.devs
  count = c.elsewhere.devices

  leaving_now : state_of_dev new.parts.devs d ≡ Leaving
  leaving_now = ap (λ (r : DevRow). r.state) c.row_is

  units_now : units_of_dev new.parts.devs d ≡ units_of_dev old.parts.devs d
  units_now = ap (λ (r : DevRow). r.units) c.row_is

  counts : (kind : Role → Bool) (e : ℕ) → role_count new kind e ≡ role_count old kind e
  counts kind e = count_stays old new d c.elsewhere units_now kind e (λ u. ap kind (c.roles e u))

  module _ (l : IsLawful old) where
    lawful : IsLawful new
    lawful = c.elsewhere.lawful l

    entries : (e : ℕ) → length (part_of new.parts.devs e).entries ≤ length (part_of old.parts.devs e).entries + 0
    entries e = ⊎_elim
        (λ here.
        let x = ap (λ (k : ℕ). length (part_of new.parts.devs k).entries) here in
        let y = ap (λ (es : List Entry). length es) c.entries in
        omega (arith, x, y))
        (λ away. let x = ap (λ (es : List Entry). length es) (c.elsewhere.others e away).entries in omega (arith, x))
        (cases_eq e d)

    fresh : (v e : ℕ) → set_words v (part_of new.parts.devs e).fresh ≤ set_words v (part_of old.parts.devs e).fresh + 0
    fresh v e = ⊎_elim
        (λ here.
        let x = ap (λ (k : ℕ). set_words v (part_of new.parts.devs k).fresh) here in
        let y = ap (set_words v) c.fresh in
        omega (arith, x, y))
        (λ away. let x = ap (set_words v) (fresh_same old new e l lawful (λ u. c.elsewhere.fresh e u away)) in omega (arith, x))
        (cases_eq e d)

    pub begin_words : HasLateSets old → HasLateSets new → (blocks objects : ℕ) → (sizes new blocks objects).words ≤ (sizes old blocks objects).words
    begin_words h k blocks objects =
        let n = length old.parts.devs in
        let s = ap (λ (j : ℕ). sum_by (device_words new) (range_with_len 0 j)) count in
        let g = sum_less (device_words new) (device_words old) (range_with_len 0 n) each in
        omega (arith, s, g)
      where
        each : (e : ℕ) → device_words new e ≤ device_words old e
        each e =
            let v = old.parts.version in
            let held = ap (set_words v) (held_same old new e e l lawful (λ u. ap is_held_role (c.roles e u))) in
            let kept = ap (set_words v) (kept_same old new e e l lawful (λ u. ap is_kept_role (c.roles e u))) in
            let deferred = ap (set_words v) (deferred_same old new e e l lawful (λ u. ap is_deferred_block (c.roles e u))) in
            let late1 = ap (set_words v) (late1_same old new l lawful h k e (λ u. ap is_late1_block (c.roles e u))) in
            let late2 = ap (set_words v) (late2_same old new l lawful h k e (λ u. ap is_late2_block (c.roles e u))) in
            let w = compare old new e 0 0 0 0 0 c.elsewhere.version (omega (arith, held)) (omega (arith, kept)) (entries e) (fresh v e) (omega (arith, deferred)) (omega (arith, late1)) (omega (arith, late2)) in
            omega (arith, w)

    pub begin_past : (blocks objects : ℕ) → (sizes new blocks objects).past ≡ (sizes old blocks objects).past
    begin_past blocks objects =
        let a : sum_by (λ (x : Dva). x.len) new.meta ≡ sum_by (λ (x : Dva). x.len) old.meta = ap (sum_by (λ (x : Dva). x.len)) c.elsewhere.meta in
        let b : late1_meta new.parts.devs ≡ late1_meta old.parts.devs = metas (λ p. late_meta_units p.late1) (λ e. late1_count new e lawful ∙ (counts is_late1_meta e ∙ sym (late1_count old e l))) in
        let e : late2_meta new.parts.devs ≡ late2_meta old.parts.devs = metas (λ p. late_meta_units p.late2) (λ e. late2_count new e lawful ∙ (counts is_late2_meta e ∙ sym (late2_count old e l))) in
        ap₂ max a (ap₂ max b e)
      where
        metas : (g : DevPart → ℕ) → ((e : ℕ) → g (part_of new.parts.devs e) ≡ g (part_of old.parts.devs e)) → sum_by g new.parts.devs ≡ sum_by g old.parts.devs
        metas g is =
            by_index g new.parts.devs
            ∙ (sum_as (λ (e : ℕ). g (part_of new.parts.devs e)) (λ (e : ℕ). g (part_of old.parts.devs e)) (range_with_len 0 (length new.parts.devs)) is
            ∙ (ap (λ (n : ℕ). sum_by (λ (e : ℕ). g (part_of old.parts.devs e)) (range_with_len 0 n)) count ∙ sym (by_index g old.parts.devs)))

  module _ (on : is_on (state_of_dev old.parts.devs d) ≡ true) where
    was_on : state_of_dev old.parts.devs d ≡ On
    was_on = is_on_state (state_of_dev old.parts.devs d) on

    pub begin_streams : d < length old.parts.devs → (blocks objects : ℕ) → (sizes new blocks objects).streams ≡ (sizes old blocks objects).streams + 3
    begin_streams known blocks objects =
        let s = state_sum_up old new d c.elsewhere device_streams 3 known (ap device_streams leaving_now ∙ sym (ap (λ (n : ℕ). n + 3) (ap device_streams was_on))) in
        omega (arith, s)

    -- what is in service now was so before, but for the device
    abbrev served : Space → (ℕ → ℕ) → ℕ → ℕ
    served s f e = if is_on (state_of_dev s.parts.devs e) then f e else 0

    each_room : (e : ℕ) → served old (role_count old is_room_role) e ≡ served new (role_count new is_room_role) e + only_at d (role_count old is_room_role d) e
    each_room e = ⊎_elim
        (λ here.
        let x = ap (λ (k : ℕ). is_on (state_of_dev old.parts.devs k)) here ∙ on in
        let y : is_on (state_of_dev new.parts.devs e) ≡ false = ap (λ (k : ℕ). is_on (state_of_dev new.parts.devs k)) here ∙ ap is_on leaving_now in
        let z = ap (role_count old is_room_role) here in
        grind (arith, nat_tests, x, y, z, here))
        (λ away.
        let x = ap is_on (state_away old new d c.elsewhere e away) in
        let z = counts is_room_role e in
        grind (arith, nat_tests, x, z, away))
        (cases_eq e d)

    pub begin_room : d < length old.parts.devs → room new + role_count old is_room_role d ≡ room old
    begin_room known =
        let a = sum_passing (role_count old is_room_role) (λ e. is_on (state_of_dev old.parts.devs e)) (range_with_len 0 (length old.parts.devs)) in
        let b = sum_passing (role_count new is_room_role) (λ e. is_on (state_of_dev new.parts.devs e)) (range_with_len 0 (length new.parts.devs)) in
        let s = sum_differs old new d (role_count old is_room_role d) count known (served old (role_count old is_room_role)) (served new (role_count new is_room_role)) each_room in
        omega (arith, a, b, s)

    pub begin_uncopied : IsLawful old → d < length old.parts.devs → (blocks objects : ℕ) → (sizes new blocks objects).uncopied ≡ (sizes old blocks objects).uncopied + unit_count (part_of old.parts.devs d).held
    begin_uncopied l known blocks objects =
        let n = length old.parts.devs in
        let more = unit_count (part_of old.parts.devs d).held in
        let s = ap (λ (k : ℕ). sum_by (left_of new) (range_with_len 0 k)) count in
        let both = sum_both (left_of new) (left_of old) (only_at d more) (range_with_len 0 n) each in
        let one = sum_at d more n known in
        omega (arith, s, both, one)
      where
        m : IsLawful new
        m = c.elsewhere.lawful l

        held : (e : ℕ) → (part_of new.parts.devs e).held ≡ (part_of old.parts.devs e).held
        held e = held_same old new e e l m (λ u. ap is_held_role (c.roles e u))

        here_now : left_of new d ≡ unit_count (part_of old.parts.devs d).held
        here_now =
            let is : is_leaving (state_of_dev new.parts.devs d) ≡ true = ap is_leaving leaving_now in
            let end : frontier new d ≡ 0 = ap end_of_last c.entries in
            rw is (ap₂ (λ (k : ℕ) (xs : List Extent). sum_by (units_from k) xs) end (held d) ∙ from_zero (part_of old.parts.devs d).held)

        none_before : left_of old d ≡ 0
        none_before = let is : is_leaving (state_of_dev old.parts.devs d) ≡ false = on_not_leaving (state_of_dev old.parts.devs d) on in rw is refl

        each : (e : ℕ) → left_of new e ≡ left_of old e + only_at d (unit_count (part_of old.parts.devs d).held) e
        each e = ⊎_elim
            (λ here.
            let x = ap (left_of new) here in
            let y = ap (left_of old) here in
            let z = here_now in
            let w = none_before in
            grind (arith, nat_tests, x, y, z, w, here))
            (λ away. let x = left_stays old new d c.elsewhere l m e away (held e) in grind (arith, nat_tests, x, away))
            (cases_eq e d)

    pub begin_gone : (blocks objects : ℕ) → (sizes new blocks objects).gone ≡ (sizes old blocks objects).gone
    begin_gone blocks objects =
        by_index (λ (p : DevPart). if is_gone p.row.state then 1 else 0) new.parts.devs
        ∙ (sum_as (λ (e : ℕ). if is_gone (state_of_dev new.parts.devs e) then 1 else 0) (λ (e : ℕ). if is_gone (state_of_dev old.parts.devs e) then 1 else 0) (range_with_len 0 (length new.parts.devs)) (λ e. ap (λ (b : Bool). if b then 1 else 0) (each e))
        ∙ (ap (λ (n : ℕ). sum_by (λ (e : ℕ). if is_gone (state_of_dev old.parts.devs e) then 1 else 0) (range_with_len 0 n)) count
        ∙ sym (by_index (λ (p : DevPart). if is_gone p.row.state then 1 else 0) old.parts.devs)))
      where
        each : (e : ℕ) → is_gone (state_of_dev new.parts.devs e) ≡ is_gone (state_of_dev old.parts.devs e)
        each e = ⊎_elim
            (λ here. ap (λ (k : ℕ). is_gone (state_of_dev new.parts.devs k)) here ∙ (ap is_gone leaving_now ∙ sym (ap (λ (k : ℕ). is_gone (state_of_dev old.parts.devs k)) here ∙ ap is_gone was_on)))
            (λ away. ap is_gone (state_away old new d c.elsewhere e away))
            (cases_eq e d)
