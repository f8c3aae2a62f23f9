-- A step of copying, and the counts behind it.
use Rattle.std.proofs.Common.{◌≡◌, ◌≢◌, ℕ, ◌+◌, ◌*◌, ◌≤◌, Bool, true, false, min, List, length, refl, ◌∙◌, sym, ap, ap₂, arith, if◌then◌else◌, ⊎_elim}
use Rattle.std.specs.List.{sum_by, range_with_len}
use Rattle.std.proofs.lemmas.Bool.{cases_eq}
use Rattle.std.proofs.lemmas.Bool.Decides.{nat_tests}
use Rattle.std.proofs.lemmas.List.{length_push}
use Rattle.zr_base.specs.declared.space.Extent.{Extent}
use Rattle.zr_base.specs.declared.space.Entry.{Entry}
use Rattle.zr_base.specs.declared.space.Policy.{Policy}
use Rattle.zr_rules.specs.Owed.{set_words}
use Rattle.zr_rules.specs.Places.{is_leaving, part_of, state_of_dev}
use Rattle.zr_rules.specs.Roles.{Role, is_held_role, is_kept_role}
use Rattle.zr_rules.specs.Roles.Role.{Free, FreshCopy}
use Rattle.zr_rules.specs.Mappings.{end_of_last}
use Rattle.zr_rules.specs.Space.{Space, role_at, frontier, IsLawful}
use Rattle.zr_rules.specs.Columns.{device_words, units_from, uncopied_units, sizes}
use Rattle.zr_rules.specs.Steps.{Copies}
use Rattle.zr_reckon.specs.Uses.{is_room_role, room, HasLateSets}
use Rattle.zr_reckon.proofs.Bits.{is_deferred_block, is_late1_block, is_late2_block, is_late1_meta, is_late2_meta}
use Rattle.zr_reckon.proofs.Counting.{sum_grows, sum_both, sum_at, sum_at_most, only_at}
use Rattle.zr_reckon.proofs.Frames.{held_same, kept_same, deferred_same, fresh_same, sized, streams_same, gone_same}
use Rattle.zr_reckon.proofs.Lates.{late1_same, late2_same, turning_same, past_same, compare}
use Rattle.zr_reckon.proofs.Placed.{was_free_at, is_short, kind_less, not_leaving}
use Rattle.zr_reckon.proofs.Turned.{Turns, kind_same, kind_away, held_comes}
use Rattle.zr_reckon.proofs.Uncopied.{front_copied, half_most, last_end, leaving_known}

module _ (policy : Policy) (old new : Space) (d n : ℕ) (c : Copies policy old new d n) (l : IsLawful old) where
  lawful : IsLawful new
  lawful = c.elsewhere.lawful l

  rows : (e : ℕ) → (part_of new.parts.devs e).row ≡ (part_of old.parts.devs e).row
  rows e = ⊎_elim
      (λ here. ap (λ (k : ℕ). (part_of new.parts.devs k).row) here ∙ (c.row_is ∙ sym (ap (λ (k : ℕ). (part_of old.parts.devs k).row) here)))
      (λ away. (c.elsewhere.others e away).row)
      (cases_eq e d)

  turns : Turns old new c.at Free FreshCopy
  turns = record { was = λ e u is. was_free_at old policy n c.at c.first.place e u is; roles = c.roles }

  same : (kind : Role → Bool) → kind FreshCopy ≡ kind Free → (e u : ℕ) → kind (role_at new e u) ≡ kind (role_at old e u)
  same kind is = kind_same old new c.at Free FreshCopy turns kind is

  entries : (e : ℕ) → length (part_of new.parts.devs e).entries ≤ length (part_of old.parts.devs e).entries + only_at d 1 e
  entries e = ⊎_elim
      (λ here.
      let x = ap (λ (k : ℕ). length (part_of new.parts.devs k).entries) here in
      let y = ap (λ (k : ℕ). length (part_of old.parts.devs k).entries) here in
      let z = ap (λ (es : List Entry). length es) c.entries in
      let m = length_push (part_of old.parts.devs d).entries (record { src = c.front.start; dev = c.at.dev; dst = c.at.start; len = n }) in
      grind (arith, nat_tests, x, y, z, m, here))
      (λ away. let x = ap (λ (es : List Entry). length es) (c.elsewhere.others e away).entries in grind (arith, nat_tests, x, away))
      (cases_eq e d)

  fresh : (e : ℕ) → (part_of new.parts.devs e).fresh ≡ (part_of old.parts.devs e).fresh
  fresh e = ⊎_elim
      (λ here. ap (λ (k : ℕ). (part_of new.parts.devs k).fresh) here ∙ (c.fresh ∙ sym (ap (λ (k : ℕ). (part_of old.parts.devs k).fresh) here)))
      (λ away. fresh_same old new e l lawful (λ u. c.elsewhere.fresh e u away))
      (cases_eq e d)

  each_words : HasLateSets old → HasLateSets new → (e : ℕ) → device_words new e ≤ device_words old e + (only_at c.at.dev 1 e + 3 * 0 + 8 * only_at d 1 e + 0 + 0)
  each_words h k e =
      let v = old.parts.version in
      let held = held_comes old new c.at Free FreshCopy turns l lawful (is_short old policy n c.at c.first.place) v e refl refl in
      let kept = ap (set_words v) (kept_same old new e e l lawful (same is_kept_role refl e)) in
      let deferred = ap (set_words v) (deferred_same old new e e l lawful (same is_deferred_block refl e)) in
      let marked = ap (set_words v) (fresh e) in
      let late1 = ap (set_words v) (late1_same old new l lawful h k e (same is_late1_block refl e)) in
      let late2 = ap (set_words v) (late2_same old new l lawful h k e (same is_late2_block refl e)) in
      compare old new e (only_at c.at.dev 1 e) 0 (only_at d 1 e) 0 0 c.elsewhere.version held (omega (arith, kept)) (entries e) (omega (arith, marked)) (omega (arith, deferred)) (omega (arith, late1)) (omega (arith, late2))

  pub copy_words : HasLateSets old → HasLateSets new → (blocks objects : ℕ) → (sizes new blocks objects).words ≤ (sizes old blocks objects).words + 9
  copy_words h k blocks objects =
      let i = length old.parts.devs in
      let s = ap (λ (j : ℕ). sum_by (device_words new) (range_with_len 0 j)) c.elsewhere.devices in
      let g = sum_grows (device_words new) (device_words old) (λ e. only_at c.at.dev 1 e + only_at d 8 e) (range_with_len 0 i) (λ e. let w = each_words h k e in grind (arith, nat_tests, w)) in
      let b = sum_both (λ (e : ℕ). only_at c.at.dev 1 e + only_at d 8 e) (only_at c.at.dev 1) (only_at d 8) (range_with_len 0 i) (λ e. refl) in
      let x = sum_at_most c.at.dev 1 i in
      let y = sum_at_most d 8 i in
      omega (arith, s, g, b, x, y)

  pub copy_room : room new + n ≡ room old
  copy_room = kind_less old policy n c.at c.first.place new FreshCopy c.elsewhere.devices rows c.roles is_room_role refl refl

  pub copy_others : (blocks objects : ℕ) → sizes new blocks objects ≡ record (sizes old blocks objects) { words = (sizes new blocks objects).words; uncopied = (sizes new blocks objects).uncopied }
  copy_others blocks objects =
      all_sizes _ _ _ _ _ _ _ _ blocks objects (sizes new blocks objects).words (sizes new blocks objects).uncopied
      (ap (λ (k : ℕ). 2 + k) (streams_same old new c.elsewhere.devices rows))
      (gone_same old new c.elsewhere.devices rows)
      (turning_same old new l lawful c.elsewhere.devices rows c.elsewhere.meta (same is_late1_meta refl) (same is_late2_meta refl) blocks objects)
      (past_same old new l lawful c.elsewhere.devices rows c.elsewhere.meta (same is_late1_meta refl) (same is_late2_meta refl) blocks objects)
    where
      all_sizes : (s1 s2 g1 g2 t1 t2 p1 p2 : ℕ) (blocks objects words uncopied : ℕ) → s1 ≡ s2 → g1 ≡ g2 → t1 ≡ t2 → p1 ≡ p2
          → sized blocks objects words s1 g1 uncopied t1 p1 ≡ sized blocks objects words s2 g2 uncopied t2 p2
      all_sizes s1 s2 g1 g2 t1 t2 p1 p2 blocks objects words uncopied s g t p = cc

  -- what the device that is leaving has left to copy
  module _ (leaving : is_leaving (state_of_dev old.parts.devs d) ≡ true) where
    abbrev left_of : Space → ℕ → ℕ
    left_of s e = if is_leaving (state_of_dev s.parts.devs e) then sum_by (units_from (frontier s e)) (part_of s.parts.devs e).held else 0

    -- a leaving device's units stay where they are
    held_stays : (e : ℕ) → is_leaving (state_of_dev old.parts.devs e) ≡ true → (part_of new.parts.devs e).held ≡ (part_of old.parts.devs e).held
    held_stays e is = held_same old new e e l lawful (kind_away old new c.at Free FreshCopy turns is_held_role e (λ here.
        let stays = not_leaving old policy n c.at c.first.place in
        let x = sym is ∙ (ap (λ (k : ℕ). is_leaving (state_of_dev old.parts.devs k)) here ∙ stays) in
        absurd (cc)))

    left_here : left_of old d ≡ left_of new d + n
    left_here =
        let state : state_of_dev new.parts.devs d ≡ state_of_dev old.parts.devs d = ap (λ r. r.state) c.row_is in
        let is : is_leaving (state_of_dev new.parts.devs d) ≡ true = ap is_leaving state ∙ leaving in
        let end : frontier new d ≡ c.front.start + n = ap end_of_last c.entries ∙ last_end (part_of old.parts.devs d).entries (record { src = c.front.start; dev = c.at.dev; dst = c.at.start; len = n }) in
        let short : n ≤ c.front.len = let h = half_most c.first.k (min 256 c.front.len) in let e = c.first.half_is in omega (arith, h, e) in
        let f = front_copied (frontier old d) n (part_of old.parts.devs d).held c.front (l.sets d).held.maximal c.lowest short in
        let now = ap₂ (λ (k : ℕ) (es : List Extent). sum_by (units_from k) es) end (held_stays d leaving) in
        let a : left_of old d ≡ sum_by (units_from (frontier old d)) (part_of old.parts.devs d).held = rw leaving refl in
        let b : left_of new d ≡ sum_by (units_from (frontier new d)) (part_of new.parts.devs d).held = rw is refl in
        omega (arith, f, now, a, b)

    left_away : (e : ℕ) → e ≢ d → left_of old e ≡ left_of new e
    left_away e away =
        let row : (part_of new.parts.devs e).row ≡ (part_of old.parts.devs e).row = rows e in
        by_test (is_leaving (state_of_dev old.parts.devs e)) refl (ap (λ r. is_leaving r.state) row)
      where
        by_test : (b : Bool) → is_leaving (state_of_dev old.parts.devs e) ≡ b → is_leaving (state_of_dev new.parts.devs e) ≡ is_leaving (state_of_dev old.parts.devs e) → left_of old e ≡ left_of new e
        by_test true is now = rw now rw is (sym (ap₂ (λ (es : List Entry) (xs : List Extent). sum_by (units_from (end_of_last es)) xs) (c.elsewhere.others e away).entries (held_stays e is)))
        by_test false is now = rw now rw is refl

    left : (e : ℕ) → left_of old e ≡ left_of new e + only_at d n e
    left e = ⊎_elim
        (λ here.
        let h = left_here in
        let x = ap (left_of old) here in
        let y = ap (left_of new) here in
        grind (arith, nat_tests, h, x, y, here))
        (λ away. let a = left_away e away in grind (arith, nat_tests, a, away))
        (cases_eq e d)

    pub copy_uncopied : uncopied_units new + n ≡ uncopied_units old
    copy_uncopied =
        let i = length old.parts.devs in
        let s = ap (λ (j : ℕ). sum_by (left_of new) (range_with_len 0 j)) c.elsewhere.devices in
        let b = sum_both (left_of old) (left_of new) (only_at d n) (range_with_len 0 i) left in
        let one = sum_at d n i (leaving_known old.parts.devs d leaving) in
        omega (arith, s, b, one)
