-- The counts over mappings from which the room is computed, as sums over the devices.
use Rattle.std.proofs.Common.{◌≡◌, ℕ, zero, suc, ◌+◌, ◌-◌, ◌≤◌, ◌^◌, Bool, true, false, ◌&&◌, ◌||◌, nat_le, nat_lt, max, min, List, [], ◌∷◌, map, length, refl, ◌∙◌, sym, ap, ap₂, arith, if◌then◌else◌}
use Rattle.std.specs.Prelude.{count_by, All}
use Rattle.std.specs.List.{sum_by, range_with_len}
use Rattle.std.proofs.lemmas.Bool.Decides.{nat_tests}
use Rattle.std.proofs.lemmas.List.{length-map}
use Rattle.std.proofs.lemmas.List.Elements.{All-head, All-tail}
use Rattle.std.proofs.lemmas.List.Sums.{sum_by-cons}
use Rattle.zr_base.specs.declared.space.Extent.{Extent}
use Rattle.zr_base.specs.declared.space.Entry.{Entry}
use Rattle.zr_base.specs.declared.space.DevPart.{DevPart}
use Rattle.zr_base.specs.declared.space.DevState.{DevState}
use Rattle.zr_base.specs.declared.space.DevState.TheVariants.{On, Leaving, Gone}
use Rattle.zr_base.specs.Extents.{in_extent, has_unit, unit_count, IsMaximalFrom, IsMaximal, EndsBy}
use Rattle.zr_base.proofs.ExtentSets.{has_unit-below}
use Rattle.zr_rules.specs.Places.{count_below, part_of, is_on, is_leaving, is_gone, state_of_dev}
use Rattle.zr_rules.specs.Mappings.{IsRisingFrom, IsRising, end_of_last}
use Rattle.zr_rules.specs.Space.{frontier}
use Rattle.zr_rules.specs.Columns as columns
use Rattle.zr_obsolete.proofs.Counting.{count-le, count-or, count-in, count-set}
use Rattle.zr_metaslab.specs.Devices.{Devices, free_at, count_at}
use Rattle.zr_indirect.specs.Mapped.{Mapped}
use Rattle.zr_units.specs.Apart.{IsWithin}
use Rattle.zr_units.specs.Uses.{Uses}
use Rattle.zr_space.specs.Views.{Kept, kept_of, part_in, space_of, EndsWithin, IsSpace, meta_from}
use Rattle.zr_space.specs.Totals.{HasWords, AreFew, total_by, serving_by, all_units, current_meta, late1_meta, late2_meta, words_in, all_words, all_streams, all_gone, all_left}
use Rattle.zr_space.specs.declared.whole.Whole.{Whole}
use Rattle.zr_space.proofs.Counts.{count_as, count_within, held_in, allocated_count}
use Rattle.zr_space.proofs.Keeps.{most_units}
use Rattle.zr_space.proofs.Synced.{leaving_state}
use Rattle.zr_space.proofs.Totalling.{sum_passing, from_range, late_meta_is, late1_total, late2_total, units_at, meta_len, words_are}
use Rattle.zr_space.proofs.Views.{part_is}

-- ---- what lies within a device is few

-- a set that ends by a unit has no more units
set_small : (low n : ℕ) (es : List Extent) → IsMaximalFrom low es → EndsBy n es → unit_count es ≤ n - low
set_small low n [] m ends = omega arith
set_small low n (e ∷ es) m ends =
    let rest = set_small (e.start + e.len + 1) n es m.3 ends.1 in
    let a = m.0 in
    let b = ends.0 in
    omega (arith, rest, a, b)

pub within_of : (n : ℕ) (es : List Extent) → EndsBy n es → IsWithin es n
within_of n [] ends u is = absurd (false_true is)
  where
    false_true : false ≡ true → ⊥
    false_true e = cc
within_of n (e ∷ es) ends u is = let rest = within_of n es ends.1 u in let b = ends.0 in grind (arith, nat_tests, rest, b, is)

-- a mapping of sources below a unit has no more entries
entries_few : (low n : ℕ) (es : List Entry) → IsRisingFrom low es → All (EndsWithin n) es → length es ≤ n - low
entries_few low n [] m all = omega arith
entries_few low n (e ∷ es) m all =
    let rest = entries_few (e.src + e.len) n es m.2 (All-tail (EndsWithin n) e es all) in
    let here : e.src + e.len ≤ n = All-head (EndsWithin n) e es all in
    let some = m.1.not_empty in
    let a = m.0 in
    omega (arith, rest, here, some, a)

-- ---- the units of a set from one on

piece_from : (at : ℕ) (e : Extent) (u : ℕ) → (in_extent e u && nat_le at u) ≡ (nat_le (max at e.start) u && nat_lt u (max at e.start + (e.start + e.len - max at e.start)))
piece_from at e u = grind (arith, nat_tests)

units_from : (low n at : ℕ) (es : List Extent) → IsMaximalFrom low es → 2 ^ 62 ≤ n → count_below n (λ u. has_unit es u && nat_le at u) ≡ sum_by (columns.units_from at) es
units_from low n at [] m le = none n
  where
    none : (n : ℕ) → count_below n (λ u. false) ≡ 0
    none zero = refl
    none (suc n) = omega (arith, none n)
units_from low n at (e ∷ es) m le =
    let rest = units_from (e.start + e.len + 1) n at es m.3 le in
    let split : count_below n (λ u. has_unit (e ∷ es) u && nat_le at u) ≡ count_below n (λ u. (in_extent e u && nat_le at u)) + count_below n (λ u. has_unit es u && nat_le at u) =
    count_as n (λ u. has_unit (e ∷ es) u && nat_le at u) (λ u. (in_extent e u && nat_le at u) || (has_unit es u && nat_le at u)) (λ u. grind (arith, nat_tests))
    ∙ count-or n (λ u. in_extent e u && nat_le at u) (λ u. has_unit es u && nat_le at u) (λ u is. let none = has_unit-below (e.start + e.len + 1) u es m.3 (grind (arith, nat_tests, is)) in grind (arith, none)) in
    let first = count_as n (λ u. in_extent e u && nat_le at u) (λ u. nat_le (max at e.start) u && nat_lt u (max at e.start + (e.start + e.len - max at e.start))) (piece_from at e) ∙ count-in n (max at e.start) (e.start + e.len - max at e.start) in
    let more = sum_by-cons (columns.units_from at) e es in
    let bound = m.2 in
    let here : min n (max at e.start + (e.start + e.len - max at e.start)) - min n (max at e.start) ≡ columns.units_from at e = grind (arith, nat_tests, bound, le) in
    omega (arith, rest, split, first, more, here)

-- what is left to copy is what the device holds from a unit on
left_units : (at : ℕ) (held left : List Extent) → IsMaximal held → IsMaximal left → ((u : ℕ) → has_unit left u ≡ (has_unit held u && nat_le at u)) → unit_count left ≡ sum_by (columns.units_from at) held
left_units at held left h l same =
    sym (count-set 0 (2 ^ 62) left l (omega arith)) ∙ (count_as (2 ^ 62) (has_unit left) (λ u. has_unit held u && nat_le at u) same ∙ units_from 0 (2 ^ 62) at held h (omega arith))

-- ---- sums over the devices

sum_map : (f : DevPart → ℕ) (g : Kept → ℕ) (devs : List Kept) → ((k : Kept) → f (part_in k) ≡ g k) → sum_by f (map part_in devs) ≡ sum_by g devs
sum_map f g [] same = refl
sum_map f g (k ∷ ks) same =
    let rest = sum_map f g ks same in
    let here = same k in
    let a = sum_by-cons f (part_in k) (map part_in ks) in
    let b = sum_by-cons g k ks in
    omega (arith, rest, here, a, b)

pub units_ever_are : (devs : List Kept) → sum_by (λ (p : DevPart). p.row.units) (map part_in devs) ≡ all_units devs
units_ever_are devs = sum_map (λ p. p.row.units) (λ k. k.row.units) devs (λ k. refl)

-- a sum is no more than another one where each device has no more
sum_at_most : (f g : Kept → ℕ) (devs : List Kept) → ((d : ℕ) → f (kept_of devs d) ≤ g (kept_of devs d)) → sum_by f devs ≤ sum_by g devs
sum_at_most f g [] less = omega arith
sum_at_most f g (k ∷ ks) less =
    let rest = sum_at_most f g ks (λ d. less (suc d)) in
    let here = less 0 in
    let a = sum_by-cons f k ks in
    let b = sum_by-cons g k ks in
    omega (arith, rest, here, a, b)

pub serving_few : (f : Uses → ℕ) (devs : List Kept) → serving_by f devs ≤ total_by f devs
serving_few f devs = sum_at_most (λ k. if is_on k.row.state then f k.uses else 0) (λ k. f k.uses) devs (λ d. grind (arith, nat_tests))

pub units_there_few : (devs : List Kept) → ((d : ℕ) → (kept_of devs d).uses.units ≤ (kept_of devs d).row.units) → total_by (λ x. x.units) devs ≤ all_units devs
units_there_few devs less = sum_at_most (λ k. k.uses.units) (λ k. k.row.units) devs less

not_gone : (st : DevState) → is_on st ≡ true → is_gone st ≡ false
not_gone On is = refl
not_gone Leaving is = refl
not_gone Gone is = absurd (false_true is)
  where
    false_true : false ≡ true → ⊥
    false_true e = cc

module _ (whole : Whole) (slabs : Devices) (devs : List Kept) (s : IsSpace whole slabs devs) where
  -- a device that is not leaving has nothing left to copy
  none_left : (d : ℕ) → is_leaving (kept_of devs d).row.state ≡ false → (kept_of devs d).moves.left ≡ []
  none_left d stays = by_state (kept_of devs d).row.state refl
    where
      by_state : (st : DevState) → (kept_of devs d).row.state ≡ st → (kept_of devs d).moves.left ≡ []
      by_state On is = ap (λ (m : Mapped). m.left) ((s.moved d).service is)
      by_state Leaving is = absurd (false_true (sym stays ∙ ap is_leaving is))
        where
          false_true : false ≡ true → ⊥
          false_true e = cc
      by_state Gone is = ((s.moved d).gone is).left_none

  left_of : (d : ℕ) → (if is_leaving (kept_of devs d).row.state then sum_by (columns.units_from (end_of_last (kept_of devs d).moves.entries)) (kept_of devs d).uses.held else 0) ≡ unit_count (kept_of devs d).moves.left
  left_of d = by_test (is_leaving (kept_of devs d).row.state) refl
    where
      by_test : (b : Bool) → is_leaving (kept_of devs d).row.state ≡ b
          → (if is_leaving (kept_of devs d).row.state then sum_by (columns.units_from (end_of_last (kept_of devs d).moves.entries)) (kept_of devs d).uses.held else 0) ≡ unit_count (kept_of devs d).moves.left
      by_test true is =
          let l = (s.moved d).leaving (leaving_state (kept_of devs d).row.state is) in
          let all = left_units (kept_of devs d).moves.opened (kept_of devs d).uses.held (kept_of devs d).moves.left (s.account d).lists.held l.left_maximal (s.tied d is).left in
          rw is (ap (λ (n : ℕ). sum_by (columns.units_from n) (kept_of devs d).uses.held) (sym l.marks.frontier) ∙ sym all)
      by_test false is = rw is (sym (ap unit_count (none_left d is)))

  uncopied_is : columns.uncopied_units (space_of whole devs) ≡ all_left devs
  uncopied_is =
      ap (λ n. sum_by (λ (d : ℕ). if is_leaving (part_of (map part_in devs) d).row.state then sum_by (columns.units_from (frontier (space_of whole devs) d)) (part_of (map part_in devs) d).held else 0) (range_with_len 0 n)) (length-map devs part_in)
      ∙ from_range (λ (d : ℕ). if is_leaving (part_of (map part_in devs) d).row.state then sum_by (columns.units_from (frontier (space_of whole devs) d)) (part_of (map part_in devs) d).held else 0) (λ (k : Kept). unit_count k.moves.left) 0 devs
      (λ i. ap (λ (p : DevPart). if is_leaving p.row.state then sum_by (columns.units_from (end_of_last p.entries)) p.held else 0) (ap (part_of (map part_in devs)) (let z : 0 + i ≡ i = omega arith in z) ∙ part_is devs i) ∙ left_of i)

  words_total : sum_by (columns.device_words (space_of whole devs)) (range_with_len 0 (length (map part_in devs))) ≡ all_words whole.version devs
  words_total =
      ap (λ n. sum_by (columns.device_words (space_of whole devs)) (range_with_len 0 n)) (length-map devs part_in)
      ∙ from_range (columns.device_words (space_of whole devs)) (words_in whole.version) 0 devs
      (λ i. ap (columns.device_words (space_of whole devs)) (let z : 0 + i ≡ i = omega arith in z) ∙ words_are whole devs i)

  turning_meta : sum_by (columns.units_on (meta_from 0 devs)) (columns.on_devices (space_of whole devs)) ≡ serving_by current_meta devs
  turning_meta =
      sum_passing (columns.units_on (meta_from 0 devs)) (λ d. is_on (state_of_dev (map part_in devs) d)) (range_with_len 0 (length (map part_in devs)))
      ∙ (ap (λ n. sum_by (λ d. if is_on (state_of_dev (map part_in devs) d) then columns.units_on (meta_from 0 devs) d else 0) (range_with_len 0 n)) (length-map devs part_in)
      ∙ from_range (λ d. if is_on (state_of_dev (map part_in devs) d) then columns.units_on (meta_from 0 devs) d else 0) (λ (k : Kept). if is_on k.row.state then current_meta k.uses else 0) 0 devs
      (λ i. ap₂ (λ (b : Bool) (n : ℕ). if b then n else 0)
      (ap (λ d. is_on (state_of_dev (map part_in devs) d)) (let z : 0 + i ≡ i = omega arith in z) ∙ ap (λ (p : DevPart). is_on p.row.state) (part_is devs i))
      (units_at 0 i devs)))

  late1_serving : columns.late1_meta (columns.on_parts (map part_in devs)) ≡ serving_by late1_meta devs
  late1_serving =
      sum_passing (λ (p : DevPart). columns.late_meta_units p.late1) (λ p. is_on p.row.state) (map part_in devs)
      ∙ sum_map (λ p. if is_on p.row.state then columns.late_meta_units p.late1 else 0) (λ k. if is_on k.row.state then late1_meta k.uses else 0) devs (λ k. ap (λ (n : ℕ). if is_on k.row.state then n else 0) (late_meta_is k.uses.late1))

  late2_serving : columns.late2_meta (columns.on_parts (map part_in devs)) ≡ serving_by late2_meta devs
  late2_serving =
      sum_passing (λ (p : DevPart). columns.late_meta_units p.late2) (λ p. is_on p.row.state) (map part_in devs)
      ∙ sum_map (λ p. if is_on p.row.state then columns.late_meta_units p.late2 else 0) (λ k. if is_on k.row.state then late2_meta k.uses else 0) devs (λ k. ap (λ (n : ℕ). if is_on k.row.state then n else 0) (late_meta_is k.uses.late2))

  streams_are : sum_by (λ (p : DevPart). columns.device_streams p.row.state) (map part_in devs) ≡ all_streams devs
  streams_are = sum_map (λ p. columns.device_streams p.row.state) (λ k. columns.device_streams k.row.state) devs (λ k. refl)

  gone_are : count_by (λ (p : DevPart). is_gone p.row.state) (map part_in devs) ≡ all_gone devs
  gone_are = sum_map (λ p. if is_gone p.row.state then 1 else 0) (λ k. if is_gone k.row.state then 1 else 0) devs (λ k. refl)

  -- the sums over the devices are the counts of the space
  pub sizes_are : (words streams gone left turning past : ℕ) → words ≡ all_words whole.version devs → streams ≡ 2 + all_streams devs → gone ≡ all_gone devs → left ≡ all_left devs
      → turning ≡ serving_by current_meta devs + serving_by late1_meta devs + serving_by late2_meta devs → past ≡ max (total_by current_meta devs) (max (total_by late1_meta devs) (total_by late2_meta devs))
      → record { blocks = 0; objects = 0; words = words; streams = streams; gone = gone; uncopied = left; turning = turning; past = past; snaps = false } ≡ columns.sizes (space_of whole devs) 0 0
  sizes_are words streams gone left turning past w st g l t p =
      let e1 = words_total in
      let e2 = streams_are in
      let e3 = gone_are in
      let e4 = uncopied_is in
      let e5 = turning_meta in
      let e6 = late1_serving in
      let e7 = late2_serving in
      let e8 = late1_total devs in
      let e9 = late2_total devs in
      let e10 = meta_len 0 devs in
      rw w rw st rw g rw l rw t rw p rw e1 rw e2 rw e3 rw e4 rw e5 rw e6 rw e7 rw e8 rw e9 rw e10 refl

  left_few : (d : ℕ) → unit_count (kept_of devs d).moves.left ≤ (kept_of devs d).row.units
  left_few d = by_test (is_leaving (kept_of devs d).row.state) refl
    where
      by_test : (b : Bool) → is_leaving (kept_of devs d).row.state ≡ b → unit_count (kept_of devs d).moves.left ≤ (kept_of devs d).row.units
      by_test true is =
          let l = (s.moved d).leaving (leaving_state (kept_of devs d).row.state is) in
          let within : IsWithin (kept_of devs d).moves.left (kept_of devs d).uses.units = λ u has. held_in (free_at slabs d) (count_at slabs d) (kept_of devs d).uses (s.account d) u (let t = (s.tied d is).left u in grind (arith, t, has)) in
          let small = (s.account d).small in
          let count = count_within (kept_of devs d).uses.units (kept_of devs d).moves.left l.left_maximal within (omega (arith, small)) in
          let most = count-le (kept_of devs d).uses.units (has_unit (kept_of devs d).moves.left) in
          let there = most_units (kept_of devs d) (s.rows d) in
          omega (arith, count, most, there)
      by_test false is = let none = ap unit_count (none_left d is) in omega (arith, none)

  rising : (d : ℕ) → IsRising (kept_of devs d).moves.entries
  rising d = by_state (kept_of devs d).row.state refl
    where
      by_state : (st : DevState) → (kept_of devs d).row.state ≡ st → IsRising (kept_of devs d).moves.entries
      by_state On is = rw (ap (λ (m : Mapped). m.entries) ((s.moved d).service is)) tt
      by_state Leaving is = ((s.moved d).leaving is).rising
      by_state Gone is = ((s.moved d).gone is).rising

  has_words : (d : ℕ) → HasWords (kept_of devs d)
  has_words d =
      let a = (s.account d).sum in
      let c = allocated_count (free_at slabs d) (count_at slabs d) (kept_of devs d).uses (s.account d) in
      let there = most_units (kept_of devs d) (s.rows d) in
      record {
        used = omega (arith, a, there);
        kept = omega (arith, c, a, there);
        small = s.small d;
        fresh = let f = set_small 0 (kept_of devs d).row.units (kept_of devs d).moves.fresh (s.moved d).fresh.maximal (s.moved d).fresh.within in omega (arith, f);
        entries = let e = entries_few 0 (kept_of devs d).row.units (kept_of devs d).moves.entries (rising d) (s.moved d).sources in omega (arith, e);
      }

  pub are_few : AreFew devs
  are_few = record {
    few = s.few;
    used = λ d. let a = (s.account d).sum in omega (arith, a);
    small = λ d. (s.account d).small;
    kept = λ d. let c = allocated_count (free_at slabs d) (count_at slabs d) (kept_of devs d).uses (s.account d) in let a = (s.account d).sum in omega (arith, c, a);
    rows = λ d. s.small d;
    left = left_few;
    words = has_words;
  }

  pub units_fit : (d : ℕ) → (kept_of devs d).uses.units ≤ (kept_of devs d).row.units
  units_fit d = most_units (kept_of devs d) (s.rows d)
