-- A step of condensing, and the counts behind it.
use Rattle.std.proofs.Common.{◌≡◌, ℕ, suc, ◌+◌, ◌-◌, ◌≤◌, Bool, true, false, ◌&&◌, ◌==◌, List, [], ◌∷◌, length, map, take, drop, refl, ◌∙◌, sym, ap, subst, arith, ⊎_elim, Option, Some, None}
use Rattle.std.specs.Prelude.{MatchBool}
use Rattle.std.specs.List.{sum_by, range_with_len, zip}
use Rattle.std.proofs.lemmas.Bool.{cases_eq}
use Rattle.std.proofs.lemmas.List.{length-take, length-drop, length-append, length-map}
use Rattle.std.proofs.lemmas.List.Sums.{count_by-le-length, length-filter}
use Rattle.std.proofs.lemmas.Slice.Zip.{length-zip}
use Rattle.zr_base.specs.declared.space.Extent.{Extent}
use Rattle.zr_base.specs.declared.space.Entry.{Entry}
use Rattle.zr_base.specs.declared.space.DevPart.{DevPart}
use Rattle.zr_base.specs.declared.space.DevRow.{DevRow}
use Rattle.zr_base.specs.declared.space.DevState.{DevState}
use Rattle.zr_base.specs.declared.space.DevState.TheVariants.{On, Leaving, Gone}
use Rattle.zr_base.specs.declared.space.CondPart.{CondPart}
use Rattle.zr_base.specs.declared.space.Condensed.{Condensed}
use Rattle.zr_base.specs.declared.space.Condensed.TheVariants as condensed_as
use Rattle.zr_rules.specs.Owed.{set_words}
use Rattle.zr_rules.specs.Places.{part_of, is_leaving, is_gone, state_of_dev}
use Rattle.zr_rules.specs.Condense.{is_due, is_used, condensed, folded, IsWorked}
use Rattle.zr_rules.specs.Roles.{Role, is_held_role, is_kept_role}
use Rattle.zr_rules.specs.Space.{Space, role_at, IsLawful}
use Rattle.zr_rules.specs.Columns.{device_words, uncopied_units, sizes}
use Rattle.zr_rules.specs.Steps.{Remaps, with_cond, due_from, due_device, next_kept, worked, Condenses, CondensesFrom, CondensesSome}
use Rattle.zr_reckon.specs.Uses.{is_room_role, room, HasLateSets}
use Rattle.zr_reckon.specs.Condensing.{IsUnderwayAs, IsUnderway}
use Rattle.zr_reckon.proofs.Bits.{is_deferred_block, is_late1_block, is_late2_block, is_late1_meta, is_late2_meta}
use Rattle.zr_reckon.proofs.Counting.{sum_as, sum_less}
use Rattle.zr_reckon.proofs.Frames.{held_same, kept_same, deferred_same, fresh_same, sized, streams_same, gone_same, room_same}
use Rattle.zr_reckon.proofs.Lates.{late1_same, late2_same, turning_same, past_same, compare}
use Rattle.zr_reckon.proofs.Elsewhere.{left_of, left_stays}

-- ---- how many entries stay

condensed_few : (entries : List Entry) (counts : List ℕ) → length (condensed entries counts) ≤ length entries
condensed_few entries counts =
    let a = length-filter is_used (zip entries counts) in
    let b = count_by-le-length is_used (zip entries counts) in
    let z = length-zip entries counts in
    omega (arith, a, b, z)

worked_few : (p : DevPart) (c : CondPart) → IsWorked p c → length c.entries ≤ c.at
worked_few p c w =
    let z = length-zip c.entries c.counts in
    let k = ap (λ (es : List (Entry × ℕ)). length es) w.kept in
    let f = condensed_few (take c.at p.entries) (take c.at p.counts) in
    let t = length-take c.at p.entries in
    let e = w.each in
    omega (arith, z, k, f, t, e)

-- behind the last step no more entries are left than there were
left_few : (entries : List Entry) (counts : List ℕ) (c : CondPart) → c.at ≤ length entries → length c.entries ≤ c.at → length (worked entries counts c).entries ≤ length entries
left_few entries counts c within few =
    let a = length-append c.entries (map (λ (e : Entry × ℕ). e.0) (next_kept entries counts c)) in
    let b = length-map (next_kept entries counts c) (λ (e : Entry × ℕ). e.0) in
    let f = condensed_few (take 64 (drop c.at entries)) (take 64 (drop c.at counts)) in
    let t = length-take 64 (drop c.at entries) in
    let d = length-drop c.at entries in
    omega (arith, a, b, f, t, d, within, few)

-- a mapping that is due is one of a removed device
due_gone : (k : ℕ) (parts : List DevPart) (d : ℕ) → due_from k parts ≡ Some d → (k ≤ d) × (is_gone (part_of parts (d - k)).row.state ≡ true)
due_gone k [] d is = absurd (cc)
due_gone k (p ∷ parts) d is = by_test (is_gone p.row.state && is_due p) refl (due_gone (k + 1) parts d)
  where
    by_test : (b : Bool) → (is_gone p.row.state && is_due p) ≡ b → (due_from (k + 1) parts ≡ Some d → (k + 1 ≤ d) × (is_gone (part_of parts (d - (k + 1))).row.state ≡ true)) → (k ≤ d) × (is_gone (part_of (p ∷ parts) (d - k)).row.state ≡ true)
    by_test true due later =
        let same : k ≡ d = let x : Some k ≡ Some d = rw due at is in cc in
        let zero_is : d - k ≡ 0 = omega (arith, same) in
        let first : is_gone p.row.state ≡ true = grind (arith, due) in
        (omega (arith, same), ap (λ (i : ℕ). is_gone (part_of (p ∷ parts) i).row.state) zero_is ∙ first)
    by_test false due later =
        let rest = later (rw due at is) in
        let le = rest.0 in
        let next : d - k ≡ suc (d - (k + 1)) = omega (arith, le) in
        (omega (arith, le), ap (λ (i : ℕ). is_gone (part_of (p ∷ parts) i).row.state) next ∙ rest.1)

pub due_is_gone : (s : Space) (d : ℕ) → due_device s ≡ Some d → is_gone (state_of_dev s.parts.devs d) ≡ true
due_is_gone s d is =
    let g = due_gone 0 s.parts.devs d is in
    let z : d - 0 ≡ d = omega arith in
    ap (λ (i : ℕ). is_gone (part_of s.parts.devs i).row.state) (sym z) ∙ g.1

gone_stays : (st : DevState) → is_gone st ≡ true → is_leaving st ≡ false
gone_stays On is = refl
gone_stays Leaving is = absurd (cc)
gone_stays Gone is = refl

-- ---- a mapping takes the place of another

module _ (old new : Space) (d : ℕ) (entries : List Entry) (counts : List ℕ) (fresh : List Extent) (cond : Option CondPart) (c : Remaps old new d entries counts fresh cond) where
  rows : (e : ℕ) → (part_of new.parts.devs e).row ≡ (part_of old.parts.devs e).row
  rows e = ⊎_elim
      (λ here. ap (λ (k : ℕ). (part_of new.parts.devs k).row) here ∙ (c.row_is ∙ sym (ap (λ (k : ℕ). (part_of old.parts.devs k).row) here)))
      (λ away. (c.elsewhere.others e away).row)
      (cases_eq e d)

  same : (kind : Role → Bool) (e u : ℕ) → kind (role_at new e u) ≡ kind (role_at old e u)
  same kind e u = ap kind (c.roles e u)

  pub remap_room : room new ≡ room old
  remap_room = room_same old new c.elsewhere.devices rows (same is_room_role)

  module _ (l : IsLawful old) where
    with_law : IsLawful (with_cond old cond)
    with_law = record { devices = l.devices; sets = l.sets; once = l.once; copies = l.copies; born = l.born }

    m : IsLawful new
    m = c.elsewhere.lawful with_law

    pub remap_words : HasLateSets old → HasLateSets new → length entries ≤ length (part_of old.parts.devs d).entries
        → set_words old.parts.version fresh ≤ set_words old.parts.version (part_of old.parts.devs d).fresh → (blocks objects : ℕ) → (sizes new blocks objects).words ≤ (sizes old blocks objects).words
    remap_words h k few less blocks objects =
        let s = ap (λ (j : ℕ). sum_by (device_words new) (range_with_len 0 j)) c.elsewhere.devices in
        let g = sum_less (device_words new) (device_words old) (range_with_len 0 (length old.parts.devs)) each in
        omega (arith, s, g)
      where
        entries_few : (e : ℕ) → length (part_of new.parts.devs e).entries ≤ length (part_of old.parts.devs e).entries + 0
        entries_few e = ⊎_elim
            (λ here.
            let x = ap (λ (i : ℕ). length (part_of new.parts.devs i).entries) here in
            let y = ap (λ (i : ℕ). length (part_of old.parts.devs i).entries) here in
            let z = ap (λ (es : List Entry). length es) c.entries_are in
            omega (arith, x, y, z, few))
            (λ away. let x = ap (λ (es : List Entry). length es) (c.elsewhere.others e away).entries in omega (arith, x))
            (cases_eq e d)

        fresh_few : (e : ℕ) → set_words old.parts.version (part_of new.parts.devs e).fresh ≤ set_words old.parts.version (part_of old.parts.devs e).fresh + 0
        fresh_few e = ⊎_elim
            (λ here.
            let v = old.parts.version in
            let x = ap (λ (i : ℕ). set_words v (part_of new.parts.devs i).fresh) here in
            let y = ap (λ (i : ℕ). set_words v (part_of old.parts.devs i).fresh) here in
            let z = ap (set_words v) c.fresh_is in
            omega (arith, x, y, z, less))
            (λ away. let x = ap (set_words old.parts.version) (fresh_same old new e l m (λ u. c.elsewhere.fresh e u away)) in omega (arith, x))
            (cases_eq e d)

        each : (e : ℕ) → device_words new e ≤ device_words old e
        each e =
            let v = old.parts.version in
            let held = ap (set_words v) (held_same old new e e l m (same is_held_role e)) in
            let kept = ap (set_words v) (kept_same old new e e l m (same is_kept_role e)) in
            let deferred = ap (set_words v) (deferred_same old new e e l m (same is_deferred_block e)) in
            let late1 = ap (set_words v) (late1_same old new l m h k e (same is_late1_block e)) in
            let late2 = ap (set_words v) (late2_same old new l m h k e (same is_late2_block e)) in
            let w = compare old new e 0 0 0 0 0 c.elsewhere.version (omega (arith, held)) (omega (arith, kept)) (entries_few e) (fresh_few e) (omega (arith, deferred)) (omega (arith, late1)) (omega (arith, late2)) in
            omega (arith, w)

    pub remap_others : is_gone (state_of_dev old.parts.devs d) ≡ true → (blocks objects : ℕ) → sizes new blocks objects ≡ record (sizes old blocks objects) { words = (sizes new blocks objects).words }
    remap_others gone blocks objects =
        all_sizes _ _ _ _ _ _ _ _ _ _ blocks objects (sizes new blocks objects).words
        (ap (λ (k : ℕ). 2 + k) (streams_same old new c.elsewhere.devices rows))
        (gone_same old new c.elsewhere.devices rows)
        uncopied
        (turning_same old new l m c.elsewhere.devices rows c.elsewhere.meta (same is_late1_meta) (same is_late2_meta) blocks objects)
        (past_same old new l m c.elsewhere.devices rows c.elsewhere.meta (same is_late1_meta) (same is_late2_meta) blocks objects)
      where
        all_sizes : (s1 s2 g1 g2 u1 u2 t1 t2 p1 p2 : ℕ) (blocks objects words : ℕ) → s1 ≡ s2 → g1 ≡ g2 → u1 ≡ u2 → t1 ≡ t2 → p1 ≡ p2
            → sized blocks objects words s1 g1 u1 t1 p1 ≡ sized blocks objects words s2 g2 u2 t2 p2
        all_sizes s1 s2 g1 g2 u1 u2 t1 t2 p1 p2 blocks objects words s g u t p = cc

        left : (e : ℕ) → left_of new e ≡ left_of old e
        left e = ⊎_elim
            (λ here.
            let was : is_leaving (state_of_dev old.parts.devs e) ≡ false = ap (λ (i : ℕ). is_leaving (state_of_dev old.parts.devs i)) here ∙ gone_stays (state_of_dev old.parts.devs d) gone in
            let now : is_leaving (state_of_dev new.parts.devs e) ≡ false = ap (λ (r : DevRow). is_leaving r.state) (rows e) ∙ was in
            rw was rw now refl)
            (λ away. left_stays (with_cond old cond) new d c.elsewhere with_law m e away (held_same old new e e l m (same is_held_role e)))
            (cases_eq e d)

        uncopied : uncopied_units new ≡ uncopied_units old
        uncopied =
            ap (λ (j : ℕ). sum_by (left_of new) (range_with_len 0 j)) c.elsewhere.devices
            ∙ sum_as (left_of new) (left_of old) (range_with_len 0 (length old.parts.devs)) left

-- ---- steps

match_both : (b : Bool) (A B P : Type 0) → (A → P) → (B → P) → MatchBool b A B → P
match_both true A B P f g h = f h
match_both false A B P f g h = g h

module _ (old new : Space) (outcome : Condensed) (P : Type 0) (stays : new ≡ old → P)
    (given : (d : ℕ) (entries : List Entry) (ns : List ℕ) (fresh : List Extent) (cond : Option CondPart) → is_gone (state_of_dev old.parts.devs d) ≡ true → length entries ≤ length (part_of old.parts.devs d).entries
    → set_words old.parts.version fresh ≤ set_words old.parts.version (part_of old.parts.devs d).fresh → Remaps old new d entries ns fresh cond → P) where
  -- a fact that each mapping which takes the place of another gives
  by_end : (counts : List ℕ) (fresh : List Extent) (c : CondPart) → is_gone (state_of_dev old.parts.devs c.dev) ≡ true → set_words old.parts.version fresh ≤ set_words old.parts.version (part_of old.parts.devs c.dev).fresh
      → c.at ≤ length (part_of old.parts.devs c.dev).entries → length c.entries ≤ c.at → Condenses old counts fresh c outcome new → P
  by_end counts fresh c gone less within few s =
      let entries = (part_of old.parts.devs c.dev).entries in
      let w = worked entries counts c in
      match_both (w.at == length entries)
      ((outcome ≡ condensed_as.Done) × Remaps old new c.dev w.entries w.counts fresh None)
      ((outcome ≡ condensed_as.Kept (length (next_kept entries counts c))) × Remaps old new c.dev entries counts fresh (Some w))
      P
      (λ h. given c.dev w.entries w.counts fresh None gone (left_few entries counts c within few) less h.1)
      (λ h. given c.dev entries counts fresh (Some w) gone (omega arith) less h.1)
      s

  by_start : (cond : Option CondPart) (due : Option ℕ) → due_device old ≡ due → IsUnderwayAs cond old → CondensesFrom cond due old outcome new → P
  by_start (Some c) due is u s = by_end (part_of old.parts.devs c.dev).counts (part_of old.parts.devs c.dev).fresh c u.0 (omega arith) u.1.within (worked_few (part_of old.parts.devs c.dev) c u.1) s
  by_start None (Some d) is u s =
      by_end (folded (part_of old.parts.devs d).entries (part_of old.parts.devs d).counts (part_of old.parts.devs d).fresh) [] (record { dev = d; at = 0; entries = []; counts = [] }) (due_is_gone old d is) (omega arith) (omega arith) (omega arith) s
  by_start None None is u s = stays s.1

  by_step : IsUnderway old → CondensesSome old outcome new → P
  by_step u s = by_start old.parts.cond (due_device old) refl u s

pub condense_words : (old new : Space) (outcome : Condensed) → CondensesSome old outcome new → IsLawful old → HasLateSets old → HasLateSets new → IsUnderway old → (blocks objects : ℕ) → (sizes new blocks objects).words ≤ (sizes old blocks objects).words
condense_words old new outcome s l h k u blocks objects =
    by_step old new outcome ((sizes new blocks objects).words ≤ (sizes old blocks objects).words)
    (λ is. let e = ap (λ (t : Space). (sizes t blocks objects).words) is in omega (arith, e))
    (λ d entries ns fresh cond gone few less r. remap_words old new d entries ns fresh cond r l h k few less blocks objects)
    u s

pub condense_room : (old new : Space) (outcome : Condensed) → CondensesSome old outcome new → IsUnderway old → room new ≡ room old
condense_room old new outcome s u =
    by_step old new outcome (room new ≡ room old)
    (λ is. ap room is)
    (λ d entries ns fresh cond gone few less r. remap_room old new d entries ns fresh cond r)
    u s

pub condense_others : (old new : Space) (outcome : Condensed) → CondensesSome old outcome new → IsLawful old → IsUnderway old → (blocks objects : ℕ) → sizes new blocks objects ≡ record (sizes old blocks objects) { words = (sizes new blocks objects).words }
condense_others old new outcome s l u blocks objects =
    by_step old new outcome (sizes new blocks objects ≡ record (sizes old blocks objects) { words = (sizes new blocks objects).words })
    (λ is. subst (λ (t : Space). sizes t blocks objects ≡ record (sizes old blocks objects) { words = (sizes t blocks objects).words }) (sym is) refl)
    (λ d entries ns fresh cond gone few less r. remap_others old new d entries ns fresh cond r l gone blocks objects)
    u s
