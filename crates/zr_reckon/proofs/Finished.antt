-- A device is gone, and the counts behind that.
use Rattle.std.proofs.Common.{◌≡◌, ◌≢◌, ℕ, ◌+◌, ◌≤◌, Bool, true, false, ◌==◌, List, [], length, refl, ◌∙◌, sym, ap, ap₂, arith, if◌then◌else◌, ⊎_elim}
use Rattle.std.specs.List.{sum_by, range_with_len}
use Rattle.std.proofs.lemmas.Bool.{cases_eq}
use Rattle.std.proofs.lemmas.Bool.Decides.{nat_tests}
use Rattle.zr_base.specs.declared.space.Extent.{Extent}
use Rattle.zr_base.specs.declared.space.Dva.{Dva}
use Rattle.zr_base.specs.declared.space.Entry.{Entry}
use Rattle.zr_base.specs.declared.space.DevPart.{DevPart}
use Rattle.zr_base.specs.declared.space.DevRow.{DevRow}
use Rattle.zr_base.specs.declared.space.DevState.{DevState}
use Rattle.zr_base.specs.declared.space.DevState.TheVariants.{Leaving, Gone}
use Rattle.zr_base.specs.Extents.{has_unit, IsMaximal}
use Rattle.zr_base.proofs.ExtentSets.{same_extents}
use Rattle.zr_rules.specs.Owed.{set_words}
use Rattle.zr_rules.specs.Places.{count_below, is_on, is_leaving, is_gone, part_of, state_of_dev, units_of_dev}
use Rattle.zr_rules.specs.Roles.{Role, taken_over, is_held_role, is_kept_role}
use Rattle.zr_rules.specs.Roles.Role.{Absent}
use Rattle.zr_rules.specs.Space.{Space, opened_of, role_at, IsLawful}
use Rattle.zr_rules.specs.Columns.{role_count, device_words, device_streams, late_blocks, late_meta_units, late1_meta, late2_meta, sizes}
use Rattle.zr_rules.specs.Steps.{Finishes}
use Rattle.zr_reckon.specs.Uses.{is_room_role, room, HasLateSets}
use Rattle.zr_reckon.proofs.Bits.{is_deferred_block, is_late1_block, is_late2_block, is_late1_meta, is_late2_meta}
use Rattle.zr_reckon.proofs.RoleSets.{held_is, kept_is, deferred_is}
use Rattle.zr_reckon.proofs.RoleKinds.{taken_held, taken_kept, taken_deferred, taken_late1, taken_late2, taken_late1_meta, taken_late2_meta, taken_room}
use Rattle.zr_reckon.proofs.Counting.{count_as, count_none, sum_as, sum_less, sum_passing, by_index}
use Rattle.zr_reckon.proofs.Frames.{held_same, kept_same, deferred_same, fresh_same}
use Rattle.zr_reckon.proofs.Lates.{late1_unit, late2_unit, late1_same, late2_same, late1_count, late2_count, compare}
use Rattle.zr_reckon.proofs.Uncopied.{leaving_known}
use Rattle.zr_reckon.proofs.Elsewhere.{is_leaving_state, left_of, state_away, state_sum, state_sum_up, units_stay, left_stays}

no_words : (v : ℕ) (es : List Extent) → IsMaximal es → ((u : ℕ) → has_unit es u ≡ false) → set_words v es ≡ 0
no_words v es m none = ap (set_words v) (same_extents 0 0 es [] m tt none)

module _ (old new : Space) (d txg : ℕ) (c : Finishes old new d txg) where
  count : length new.parts.devs ≡ length old.parts.devs
  count = c.elsewhere.devices

  gone_now : state_of_dev new.parts.devs d ≡ Gone
  gone_now = ap (λ (r : DevRow). r.state) c.row_is

  units_now : units_of_dev new.parts.devs d ≡ units_of_dev old.parts.devs d
  units_now = ap (λ (r : DevRow). r.units) c.row_is

  units : (e : ℕ) → units_of_dev new.parts.devs e ≡ units_of_dev old.parts.devs e
  units e = units_stay old new d c.elsewhere units_now e

  kind_here : (kind : Role → Bool) → kind Absent ≡ false → (e u : ℕ) → e ≡ d → kind (role_at new e u) ≡ false
  kind_here kind none e u here = ap kind (c.roles e u) ∙ (let is : (e == d) ≡ true = grind (arith, nat_tests, here) in rw is none)

  kind_away : (kind : Role → Bool) → ((r : Role) → kind (taken_over r) ≡ kind r) → (e u : ℕ) → e ≢ d → kind (role_at new e u) ≡ kind (role_at old e u)
  kind_away kind same e u away = ap kind (c.roles e u) ∙ (let is : (e == d) ≡ false = grind (arith, nat_tests, away) in rw is (same (role_at old e u)))

  count_here : (kind : Role → Bool) → kind Absent ≡ false → (e : ℕ) → e ≡ d → role_count new kind e ≡ 0
  count_here kind none e here = count_as (units_of_dev new.parts.devs e) (λ u. kind (role_at new e u)) (λ u. false) (λ u lt. kind_here kind none e u here) ∙ count_none (units_of_dev new.parts.devs e)

  count_away : (kind : Role → Bool) → ((r : Role) → kind (taken_over r) ≡ kind r) → (e : ℕ) → e ≢ d → role_count new kind e ≡ role_count old kind e
  count_away kind same e away =
      ap (λ (n : ℕ). count_below n (λ u. kind (role_at new e u))) (units e)
      ∙ count_as (units_of_dev old.parts.devs e) (λ u. kind (role_at new e u)) (λ u. kind (role_at old e u)) (λ u lt. kind_away kind same e u away)

  module _ (l : IsLawful old) where
    m : IsLawful new
    m = c.elsewhere.lawful l

    -- the words of the device and of the others
    words_here : HasLateSets new → (e : ℕ) → e ≡ d → device_words new e ≤ device_words old e
    words_here k e here =
        let v = old.parts.version in
        let held = no_words v (part_of new.parts.devs e).held (m.sets e).held.maximal (λ u. held_is new e u m ∙ kind_here is_held_role refl e u here) in
        let kept = no_words v (part_of new.parts.devs e).kept (m.sets e).kept.maximal (λ u. kept_is new e u m ∙ kind_here is_kept_role refl e u here) in
        let deferred = no_words v (opened_of new e).deferred (m.sets e).deferred.maximal (λ u. deferred_is new e u m ∙ kind_here is_deferred_block refl e u here) in
        let late1 = no_words v (late_blocks (part_of new.parts.devs e).late1) (k.late1 e) (λ u. late1_unit new e u m ∙ kind_here is_late1_block refl e u here) in
        let late2 = no_words v (late_blocks (part_of new.parts.devs e).late2) (k.late2 e) (λ u. late2_unit new e u m ∙ kind_here is_late2_block refl e u here) in
        let entries = ap (λ (j : ℕ). length (part_of new.parts.devs j).entries) here ∙ (ap (λ (es : List Entry). length es) c.entries ∙ sym (ap (λ (j : ℕ). length (part_of old.parts.devs j).entries) here)) in
        let fresh = ap (λ (j : ℕ). set_words v (part_of new.parts.devs j).fresh) here ∙ (ap (set_words v) c.fresh ∙ sym (ap (λ (j : ℕ). set_words v (part_of old.parts.devs j).fresh) here)) in
        let w = compare old new e 0 0 0 0 0 c.elsewhere.version (omega (arith, held)) (omega (arith, kept)) (omega (arith, entries)) (omega (arith, fresh)) (omega (arith, deferred)) (omega (arith, late1)) (omega (arith, late2)) in
        omega (arith, w)

    words_away : HasLateSets old → HasLateSets new → (e : ℕ) → e ≢ d → device_words new e ≤ device_words old e
    words_away h k e away =
        let v = old.parts.version in
        let held = ap (set_words v) (held_same old new e e l m (λ u. kind_away is_held_role taken_held e u away)) in
        let kept = ap (set_words v) (kept_same old new e e l m (λ u. kind_away is_kept_role taken_kept e u away)) in
        let deferred = ap (set_words v) (deferred_same old new e e l m (λ u. kind_away is_deferred_block taken_deferred e u away)) in
        let late1 = ap (set_words v) (late1_same old new l m h k e (λ u. kind_away is_late1_block taken_late1 e u away)) in
        let late2 = ap (set_words v) (late2_same old new l m h k e (λ u. kind_away is_late2_block taken_late2 e u away)) in
        let entries = ap (λ (es : List Entry). length es) (c.elsewhere.others e away).entries in
        let fresh = ap (set_words v) (fresh_same old new e l m (λ u. c.elsewhere.fresh e u away)) in
        let w = compare old new e 0 0 0 0 0 c.elsewhere.version (omega (arith, held)) (omega (arith, kept)) (omega (arith, entries)) (omega (arith, fresh)) (omega (arith, deferred)) (omega (arith, late1)) (omega (arith, late2)) in
        omega (arith, w)

    pub finish_words : HasLateSets old → HasLateSets new → (blocks objects : ℕ) → (sizes new blocks objects).words ≤ (sizes old blocks objects).words
    finish_words h k blocks objects =
        let s = ap (λ (j : ℕ). sum_by (device_words new) (range_with_len 0 j)) count in
        let g = sum_less (device_words new) (device_words old) (range_with_len 0 (length old.parts.devs)) (λ e. ⊎_elim (λ here. words_here k e here) (λ away. words_away h k e away) (cases_eq e d)) in
        omega (arith, s, g)

    pub finish_uncopied : (blocks objects : ℕ) → (sizes new blocks objects).uncopied ≤ (sizes old blocks objects).uncopied
    finish_uncopied blocks objects =
        let s = ap (λ (j : ℕ). sum_by (left_of new) (range_with_len 0 j)) count in
        let g = sum_less (left_of new) (left_of old) (range_with_len 0 (length old.parts.devs)) each in
        omega (arith, s, g)
      where
        each : (e : ℕ) → left_of new e ≤ left_of old e
        each e = ⊎_elim
            (λ here.
            let is : is_leaving (state_of_dev new.parts.devs e) ≡ false = ap (λ (j : ℕ). is_leaving (state_of_dev new.parts.devs j)) here ∙ ap is_leaving gone_now in
            let none : left_of new e ≡ 0 = rw is refl in
            omega (arith, none))
            (λ away. let x = left_stays old new d c.elsewhere l m e away (held_same old new e e l m (λ u. kind_away is_held_role taken_held e u away)) in omega (arith, x))
            (cases_eq e d)

    pub finish_past : (blocks objects : ℕ) → (sizes new blocks objects).past ≤ (sizes old blocks objects).past
    finish_past blocks objects =
        let a : sum_by (λ (x : Dva). x.len) new.meta ≡ sum_by (λ (x : Dva). x.len) old.meta = ap (sum_by (λ (x : Dva). x.len)) c.elsewhere.meta in
        let b : late1_meta new.parts.devs ≤ late1_meta old.parts.devs = metas (λ p. late_meta_units p.late1) is_late1_meta (λ e. late1_count new e m) (λ e. late1_count old e l) refl taken_late1_meta in
        let e : late2_meta new.parts.devs ≤ late2_meta old.parts.devs = metas (λ p. late_meta_units p.late2) is_late2_meta (λ e. late2_count new e m) (λ e. late2_count old e l) refl taken_late2_meta in
        omega (arith, a, b, e)
      where
        metas : (g : DevPart → ℕ) (kind : Role → Bool) → ((e : ℕ) → g (part_of new.parts.devs e) ≡ role_count new kind e) → ((e : ℕ) → g (part_of old.parts.devs e) ≡ role_count old kind e)
            → kind Absent ≡ false → ((r : Role) → kind (taken_over r) ≡ kind r) → sum_by g new.parts.devs ≤ sum_by g old.parts.devs
        metas g kind now was none same =
            let a = by_index g new.parts.devs in
            let b = by_index g old.parts.devs in
            let s = ap (λ (n : ℕ). sum_by (λ (e : ℕ). g (part_of new.parts.devs e)) (range_with_len 0 n)) count in
            let less = sum_less (λ (e : ℕ). g (part_of new.parts.devs e)) (λ (e : ℕ). g (part_of old.parts.devs e)) (range_with_len 0 (length old.parts.devs))
            (λ e. let x = now e in let y = was e in ⊎_elim
            (λ here. let z = count_here kind none e here in omega (arith, x, y, z))
            (λ away. let z = count_away kind same e away in omega (arith, x, y, z))
            (cases_eq e d)) in
            omega (arith, a, b, s, less)

  module _ (leaving : is_leaving (state_of_dev old.parts.devs d) ≡ true) where
    was_leaving : state_of_dev old.parts.devs d ≡ Leaving
    was_leaving = is_leaving_state (state_of_dev old.parts.devs d) leaving

    pub finish_streams : (blocks objects : ℕ) → (sizes new blocks objects).streams + 4 ≡ (sizes old blocks objects).streams
    finish_streams blocks objects =
        let s = state_sum old new d c.elsewhere device_streams 4 (leaving_known old.parts.devs d leaving) (ap device_streams was_leaving ∙ sym (ap (λ (n : ℕ). n + 4) (ap device_streams gone_now))) in
        omega (arith, s)

    pub finish_gone : (blocks objects : ℕ) → (sizes new blocks objects).gone ≡ (sizes old blocks objects).gone + 1
    finish_gone blocks objects =
        state_sum_up old new d c.elsewhere (λ (st : DevState). if is_gone st then 1 else 0) 1 (leaving_known old.parts.devs d leaving)
        (ap (λ (st : DevState). if is_gone st then 1 else 0) gone_now ∙ sym (ap (λ (n : ℕ). n + 1) (ap (λ (st : DevState). if is_gone st then 1 else 0) was_leaving)))

    each_room : (e : ℕ) → (if is_on (state_of_dev new.parts.devs e) then role_count new is_room_role e else 0) ≡ (if is_on (state_of_dev old.parts.devs e) then role_count old is_room_role e else 0)
    each_room e = ⊎_elim
        (λ here.
        let x : is_on (state_of_dev old.parts.devs e) ≡ false = ap (λ (k : ℕ). is_on (state_of_dev old.parts.devs k)) here ∙ ap is_on was_leaving in
        let y : is_on (state_of_dev new.parts.devs e) ≡ false = ap (λ (k : ℕ). is_on (state_of_dev new.parts.devs k)) here ∙ ap is_on gone_now in
        rw x rw y refl)
        (λ away. ap₂ (λ (b : Bool) (n : ℕ). if b then n else 0) (ap is_on (state_away old new d c.elsewhere e away)) (count_away is_room_role taken_room e away))
        (cases_eq e d)

    pub finish_room : room new ≡ room old
    finish_room =
        sum_passing (role_count new is_room_role) (λ e. is_on (state_of_dev new.parts.devs e)) (range_with_len 0 (length new.parts.devs))
        ∙ (sum_as (λ (e : ℕ). if is_on (state_of_dev new.parts.devs e) then role_count new is_room_role e else 0) (λ (e : ℕ). if is_on (state_of_dev old.parts.devs e) then role_count old is_room_role e else 0) (range_with_len 0 (length new.parts.devs)) each_room
        ∙ (ap (λ (n : ℕ). sum_by (λ (e : ℕ). if is_on (state_of_dev old.parts.devs e) then role_count old is_room_role e else 0) (range_with_len 0 n)) count
        ∙ sym (sum_passing (role_count old is_room_role) (λ e. is_on (state_of_dev old.parts.devs e)) (range_with_len 0 (length old.parts.devs)))))
