-- A removal is given up, and the counts behind that.
use Rattle.std.proofs.Common.{◌≡◌, ◌≢◌, ℕ, ◌+◌, ◌*◌, ◌<◌, ◌≤◌, Bool, true, false, not, ◌&&◌, ◌==◌, nat_lt, max, List, [], ◌∷◌, length, refl, ◌∙◌, sym, ap, ap₂, arith, if◌then◌else◌, ⊎_elim}
use Rattle.std.specs.List.{sum_by, range_with_len, list_any}
use Rattle.std.proofs.lemmas.Bool.{cases_eq}
use Rattle.std.proofs.lemmas.Bool.Decides.{nat_tests}
use Rattle.std.proofs.lemmas.List.Sums.{sum_by-cons}
use Rattle.zr_base.specs.declared.space.Extent.{Extent}
use Rattle.zr_base.specs.declared.space.Dva.{Dva}
use Rattle.zr_base.specs.declared.space.Entry.{Entry}
use Rattle.zr_base.specs.declared.space.DevPart.{DevPart}
use Rattle.zr_base.specs.declared.space.DevRow.{DevRow}
use Rattle.zr_base.specs.declared.space.DevState.TheVariants.{On, Leaving}
use Rattle.zr_base.specs.Extents.{has_unit}
use Rattle.zr_base.proofs.ExtentSets.{same_extents}
use Rattle.zr_rules.specs.Owed.{set_words}
use Rattle.zr_rules.specs.Places.{one_if, count_below, is_on, is_leaving, is_held, is_kept, part_of, state_of_dev, units_of_dev}
use Rattle.zr_rules.specs.Roles.{Role, given_up, is_copy_role, is_held_role, is_kept_role}
use Rattle.zr_rules.specs.Roles.Role.{Absent, Free, FreshLive, Live, FreshCopy, Copy, Kept, DeferredBlock, DeferredMeta, Late1Block, Late1Meta, Late2Block, Late2Meta, Meta, SavedMeta}
use Rattle.zr_rules.specs.Space.{Space, is_born, role_at, held_role, has_place, copy_hits, is_copy_by, IsLawful}
use Rattle.zr_rules.specs.Columns.{role_count, device_streams, late_meta_units, late1_meta, late2_meta, sizes}
use Rattle.zr_rules.specs.Steps.{Cancels}
use Rattle.zr_reckon.specs.Base.{device_base, base_words, LeavesAlone}
use Rattle.zr_reckon.specs.Uses.{is_room_role, room}
use Rattle.zr_reckon.proofs.Bits.{is_late1_meta, is_late2_meta}
use Rattle.zr_reckon.proofs.Lates.{late1_count, late2_count}
use Rattle.zr_reckon.proofs.RoleSets.{held_is, kept_is}
use Rattle.zr_reckon.proofs.Counting.{count_as, count_more, sum_as, sum_grows, sum_less, sum_both, sum_passing, sum_at, sum_at_most, only_at, by_index, sum_zero}
use Rattle.zr_reckon.proofs.Frames.{words_same, kept_same, fresh_same}
use Rattle.zr_reckon.proofs.Uncopied.{leaving_known}
use Rattle.zr_reckon.proofs.Elsewhere.{is_leaving_state, left_of, state_away, state_sum, units_stay}
use Rattle.zr_reckon.proofs.Gaps.{is_put_by, entry_words_on, starts_in, give_all, starts_few, full_words}

given_held : (r : Role) → is_held_role (given_up r) ≡ (is_held_role r && not (is_copy_role r))
given_held Absent = refl
given_held Free = refl
given_held FreshLive = refl
given_held Live = refl
given_held FreshCopy = refl
given_held Copy = refl
given_held Kept = refl
given_held DeferredBlock = refl
given_held DeferredMeta = refl
given_held Late1Block = refl
given_held Late1Meta = refl
given_held Late2Block = refl
given_held Late2Meta = refl
given_held Meta = refl
given_held SavedMeta = refl

given_kept : (r : Role) → is_kept_role (given_up r) ≡ is_kept_role r
given_kept Absent = refl
given_kept Free = refl
given_kept FreshLive = refl
given_kept Live = refl
given_kept FreshCopy = refl
given_kept Copy = refl
given_kept Kept = refl
given_kept DeferredBlock = refl
given_kept DeferredMeta = refl
given_kept Late1Block = refl
given_kept Late1Meta = refl
given_kept Late2Block = refl
given_kept Late2Meta = refl
given_kept Meta = refl
given_kept SavedMeta = refl

given_room : (r : Role) → is_room_role r ≡ true → is_room_role (given_up r) ≡ true
given_room Absent is = absurd (cc)
given_room Free is = refl
given_room FreshLive is = absurd (cc)
given_room Live is = absurd (cc)
given_room FreshCopy is = absurd (cc)
given_room Copy is = absurd (cc)
given_room Kept is = absurd (cc)
given_room DeferredBlock is = absurd (cc)
given_room DeferredMeta is = absurd (cc)
given_room Late1Block is = absurd (cc)
given_room Late1Meta is = refl
given_room Late2Block is = absurd (cc)
given_room Late2Meta is = refl
given_room Meta is = refl
given_room SavedMeta is = absurd (cc)

-- ---- where copies are

some_one : (test : Entry → Bool) (xs : List Entry) → nat_lt 0 (sum_by (λ (x : Entry). one_if (test x)) xs) ≡ list_any test xs
some_one test [] = refl
some_one test (x ∷ xs) =
    let r = some_one test xs in
    let s = sum_by-cons (λ (y : Entry). one_if (test y)) x xs in
    grind (arith, nat_tests, r, s)

-- a held unit is a copy where some entry has put it there
held_copy : (s : Space) (e u : ℕ) → is_kept s.parts.devs e u ≡ false → is_copy_role (held_role s e u) ≡ nat_lt 0 (copy_hits s.parts.devs e u)
held_copy s e u none = rw none (both (nat_lt 0 (copy_hits s.parts.devs e u)) (is_born s e u))
  where
    both : (c b : Bool) → is_copy_role (if c then (if b then FreshCopy else Copy) else (if b then FreshLive else Live)) ≡ c
    both true true = refl
    both true false = refl
    both false true = refl
    both false false = refl

given_late1_meta : (r : Role) → is_late1_meta (given_up r) ≡ is_late1_meta r
given_late1_meta Absent = refl
given_late1_meta Free = refl
given_late1_meta FreshLive = refl
given_late1_meta Live = refl
given_late1_meta FreshCopy = refl
given_late1_meta Copy = refl
given_late1_meta Kept = refl
given_late1_meta DeferredBlock = refl
given_late1_meta DeferredMeta = refl
given_late1_meta Late1Block = refl
given_late1_meta Late1Meta = refl
given_late1_meta Late2Block = refl
given_late1_meta Late2Meta = refl
given_late1_meta Meta = refl
given_late1_meta SavedMeta = refl

given_late2_meta : (r : Role) → is_late2_meta (given_up r) ≡ is_late2_meta r
given_late2_meta Absent = refl
given_late2_meta Free = refl
given_late2_meta FreshLive = refl
given_late2_meta Live = refl
given_late2_meta FreshCopy = refl
given_late2_meta Copy = refl
given_late2_meta Kept = refl
given_late2_meta DeferredBlock = refl
given_late2_meta DeferredMeta = refl
given_late2_meta Late1Block = refl
given_late2_meta Late1Meta = refl
given_late2_meta Late2Block = refl
given_late2_meta Late2Meta = refl
given_late2_meta Meta = refl
given_late2_meta SavedMeta = refl

module _ (s : Space) (l : IsLawful s) (e u : ℕ) where
  held_there : is_held s.parts.devs e u ≡ true → has_place s e u ≡ true
  held_there is = let o = l.once e u in grind (arith, nat_tests, o, is)

  copy_of_held : is_held s.parts.devs e u ≡ true → is_kept s.parts.devs e u ≡ false → is_copy_role (role_at s e u) ≡ nat_lt 0 (copy_hits s.parts.devs e u)
  unfolding role_at
  copy_of_held is none = let there = held_there is in rw there (rw is (held_copy s e u none))

  -- .. and every copy is held and not kept
  pub is_a_copy : is_held s.parts.devs e u ≡ true → is_copy_role (role_at s e u) ≡ nat_lt 0 (copy_hits s.parts.devs e u)
  is_a_copy is = by_kept (is_kept s.parts.devs e u) refl
    where
      kept_role : (r : Role) → is_kept_role r ≡ true → is_copy_role r ≡ false
      kept_role Kept h = refl
      kept_role FreshCopy h = absurd (cc)
      kept_role Copy h = absurd (cc)
      kept_role _ h = refl

      by_kept : (b : Bool) → is_kept s.parts.devs e u ≡ b → is_copy_role (role_at s e u) ≡ nat_lt 0 (copy_hits s.parts.devs e u)
      by_kept true k =
          let c = l.copies e u in
          let none : nat_lt 0 (copy_hits s.parts.devs e u) ≡ false = grind (arith, nat_tests, c, k) in
          kept_role (role_at s e u) (sym (kept_is s e u l) ∙ k) ∙ sym none
      by_kept false k = copy_of_held is k

module _ (s : Space) (d : ℕ) (a : LeavesAlone s d) where
  known : d < length s.parts.devs
  known = leaving_known s.parts.devs d a.leaving

  -- only the entries of the device that is leaving put copies
  hits_by : (e u : ℕ) → copy_hits s.parts.devs e u ≡ sum_by (λ (x : Entry). one_if (is_copy_by (part_of s.parts.devs d) e u x)) (part_of s.parts.devs d).entries
  hits_by e u =
      let mine : ℕ = sum_by (λ (x : Entry). one_if (is_copy_by (part_of s.parts.devs d) e u x)) (part_of s.parts.devs d).entries in
      by_index (λ (p : DevPart). if is_leaving p.row.state then sum_by (λ (x : Entry). one_if (is_copy_by p e u x)) p.entries else 0) s.parts.devs
      ∙ (sum_as _ (only_at d mine) (range_with_len 0 (length s.parts.devs)) each
      ∙ sum_at d mine (length s.parts.devs) known)
    where
      each : (k : ℕ) → (if is_leaving (state_of_dev s.parts.devs k) then sum_by (λ (x : Entry). one_if (is_copy_by (part_of s.parts.devs k) e u x)) (part_of s.parts.devs k).entries else 0)
          ≡ only_at d (sum_by (λ (x : Entry). one_if (is_copy_by (part_of s.parts.devs d) e u x)) (part_of s.parts.devs d).entries) k
      each k = ⊎_elim
          (λ here.
          let x = ap (λ (j : ℕ). if is_leaving (state_of_dev s.parts.devs j) then sum_by (λ (y : Entry). one_if (is_copy_by (part_of s.parts.devs j) e u y)) (part_of s.parts.devs j).entries else 0) here in
          let lv = a.leaving in
          x ∙ (rw lv (let yes : (k == d) ≡ true = grind (arith, nat_tests, here) in rw yes refl)))
          (λ away. by_state (is_leaving (state_of_dev s.parts.devs k)) refl away)
          (cases_eq k d)
        where
          by_state : (b : Bool) → is_leaving (state_of_dev s.parts.devs k) ≡ b → k ≢ d → (if is_leaving (state_of_dev s.parts.devs k) then sum_by (λ (x : Entry). one_if (is_copy_by (part_of s.parts.devs k) e u x)) (part_of s.parts.devs k).entries else 0)
              ≡ only_at d (sum_by (λ (x : Entry). one_if (is_copy_by (part_of s.parts.devs d) e u x)) (part_of s.parts.devs d).entries) k
          by_state true is away = absurd (away (a.alone k is))
          by_state false is away = rw is (let none : (k == d) ≡ false = grind (arith, nat_tests, away) in rw none refl)

  copies_by : (e u : ℕ) → nat_lt 0 (copy_hits s.parts.devs e u) ≡ list_any (is_put_by e (part_of s.parts.devs d).fresh u) (part_of s.parts.devs d).entries
  copies_by e u = ap (λ (n : ℕ). nat_lt 0 n) (hits_by e u) ∙ some_one (is_copy_by (part_of s.parts.devs d) e u) (part_of s.parts.devs d).entries

-- ---- sums

-- each entry has its copy on one device
words_once : (fresh : List Extent) (n : ℕ) (xs : List Entry) → sum_by (λ e. sum_by (entry_words_on e fresh) xs) (range_with_len 0 n) ≤ 2 * length xs + sum_by (λ (x : Entry). starts_in x.src (x.src + x.len) fresh) xs
words_once fresh n [] = let z = sum_zero (range_with_len 0 n) in omega (arith, z)
words_once fresh n (x ∷ xs) =
    let more : ℕ = 2 + starts_in x.src (x.src + x.len) fresh in
    let r = words_once fresh n xs in
    let b = sum_both (λ (e : ℕ). sum_by (entry_words_on e fresh) (x ∷ xs)) (only_at x.dev more) (λ (e : ℕ). sum_by (entry_words_on e fresh) xs) (range_with_len 0 n) each in
    let o = sum_at_most x.dev more n in
    let s = sum_by-cons (λ (y : Entry). starts_in y.src (y.src + y.len) fresh) x xs in
    omega (arith, r, b, o, s)
  where
    each : (e : ℕ) → sum_by (entry_words_on e fresh) (x ∷ xs) ≡ only_at x.dev (2 + starts_in x.src (x.src + x.len) fresh) e + sum_by (entry_words_on e fresh) xs
    each e =
        let s = sum_by-cons (entry_words_on e fresh) x xs in
        ⊎_elim
        (λ here. grind (arith, nat_tests, s, here))
        (λ away. grind (arith, nat_tests, s, away))
        (cases_eq e x.dev)

module _ (old new : Space) (d : ℕ) (c : Cancels old new d) (l : IsLawful old) (a : LeavesAlone old d) where
  m : IsLawful new
  m = c.elsewhere.lawful l

  count : length new.parts.devs ≡ length old.parts.devs
  count = c.elsewhere.devices

  on_now : state_of_dev new.parts.devs d ≡ On
  on_now = ap (λ (r : DevRow). r.state) c.row_is

  units : (e : ℕ) → units_of_dev new.parts.devs e ≡ units_of_dev old.parts.devs e
  units e = units_stay old new d c.elsewhere (ap (λ (r : DevRow). r.units) c.row_is) e

  held_now : (e u : ℕ) → has_unit (part_of new.parts.devs e).held u ≡ (has_unit (part_of old.parts.devs e).held u && not (list_any (is_put_by e (part_of old.parts.devs d).fresh u) (part_of old.parts.devs d).entries))
  held_now e u =
      held_is new e u m ∙ (ap is_held_role (c.roles e u) ∙ (given_held (role_at old e u)
      ∙ (ap (λ (b : Bool). b && not (is_copy_role (role_at old e u))) (sym (held_is old e u l)) ∙ by_held (is_held old.parts.devs e u) refl)))
    where
      by_held : (b : Bool) → is_held old.parts.devs e u ≡ b → (is_held old.parts.devs e u && not (is_copy_role (role_at old e u))) ≡ (is_held old.parts.devs e u && not (list_any (is_put_by e (part_of old.parts.devs d).fresh u) (part_of old.parts.devs d).entries))
      by_held true is = ap (λ (b : Bool). is_held old.parts.devs e u && not b) (is_a_copy old l e u is ∙ copies_by old d a e u)
      by_held false is = rw is refl

  held_words : (e : ℕ) → set_words old.parts.version (part_of new.parts.devs e).held ≤ set_words old.parts.version (part_of old.parts.devs e).held + sum_by (entry_words_on e (part_of old.parts.devs d).fresh) (part_of old.parts.devs d).entries
  held_words e =
      let v = old.parts.version in
      let g = give_all v e 0 (part_of old.parts.devs d).fresh (part_of old.parts.devs e).held (part_of old.parts.devs d).entries (l.sets d).fresh.maximal (l.sets e).held.maximal a.rising in
      let same = same_extents 0 0 (part_of new.parts.devs e).held g.all (m.sets e).held.maximal g.maximal (λ u. held_now e u ∙ sym (g.members u)) in
      let w = ap (set_words v) same in
      let h = g.words in
      omega (arith, w, h)

  -- what the device gives up
  abbrev spare : ℕ
  spare = 8 * length (part_of old.parts.devs d).entries + set_words old.parts.version (part_of old.parts.devs d).fresh

  each_base : (e : ℕ) → device_base new e + only_at d (8 * length (part_of old.parts.devs d).entries + set_words old.parts.version (part_of old.parts.devs d).fresh) e
      ≤ device_base old e + sum_by (entry_words_on e (part_of old.parts.devs d).fresh) (part_of old.parts.devs d).entries
  each_base e =
      let v = old.parts.version in
      let w = new.parts.version in
      let held = held_words e in
      let kept = ap (set_words v) (kept_same old new e e l m (λ u. ap is_kept_role (c.roles e u) ∙ given_kept (role_at old e u))) in
      let v1 = words_same w v (part_of new.parts.devs e).held _ c.elsewhere.version refl in
      let v2 = words_same w v (part_of new.parts.devs e).kept _ c.elsewhere.version refl in
      let v3 = words_same w v (part_of new.parts.devs e).fresh _ c.elsewhere.version refl in
      ⊎_elim
      (λ here.
      let n1 = ap (λ (j : ℕ). length (part_of new.parts.devs j).entries) here in
      let n2 = ap (λ (es : List Entry). length es) c.entries in
      let o1 = ap (λ (j : ℕ). length (part_of old.parts.devs j).entries) here in
      let f1 = ap (λ (j : ℕ). set_words v (part_of new.parts.devs j).fresh) here in
      let f2 = ap (set_words v) c.fresh in
      let p1 = ap (λ (j : ℕ). set_words v (part_of old.parts.devs j).fresh) here in
      let only : only_at d spare e ≡ spare = let is : (e == d) ≡ true = grind (arith, nat_tests, here) in rw is refl in
      omega (arith, held, kept, v1, v2, v3, n1, n2, o1, f1, f2, p1, only))
      (λ away.
      let n1 = ap (λ (es : List Entry). length es) (c.elsewhere.others e away).entries in
      let f1 = ap (set_words v) (fresh_same old new e l m (λ u. c.elsewhere.fresh e u away)) in
      let only : only_at d spare e ≡ 0 = let is : (e == d) ≡ false = grind (arith, nat_tests, away) in rw is refl in
      omega (arith, held, kept, v1, v2, v3, n1, f1, only))
      (cases_eq e d)

  pub cancel_base : base_words new ≤ base_words old
  cancel_base =
      let n = length old.parts.devs in
      let fresh = (part_of old.parts.devs d).fresh in
      let entries = (part_of old.parts.devs d).entries in
      let s = ap (λ (j : ℕ). sum_by (device_base new) (range_with_len 0 j)) count in
      let g = sum_grows (λ (e : ℕ). device_base new e + only_at d spare e) (device_base old) (λ (e : ℕ). sum_by (entry_words_on e fresh) entries) (range_with_len 0 n) each_base in
      let b = sum_both (λ (e : ℕ). device_base new e + only_at d spare e) (device_base new) (only_at d spare) (range_with_len 0 n) (λ e. refl) in
      let one = sum_at d spare n (known old d a) in
      let w = words_once fresh n entries in
      let few = starts_few 0 fresh entries a.rising in
      let full = full_words old.parts.version 0 fresh (l.sets d).fresh.maximal in
      omega (arith, s, g, b, one, w, few, full)

  pub cancel_streams : (blocks objects : ℕ) → (sizes new blocks objects).streams + 3 ≡ (sizes old blocks objects).streams
  cancel_streams blocks objects =
      let was : state_of_dev old.parts.devs d ≡ Leaving = is_leaving_state (state_of_dev old.parts.devs d) a.leaving in
      let s = state_sum old new d c.elsewhere device_streams 3 (known old d a) (ap device_streams was ∙ sym (ap (λ (n : ℕ). n + 3) (ap device_streams on_now))) in
      omega (arith, s)

  -- the device's units come to the room beside those of the copies
  room_each : (e : ℕ) → (if is_on (state_of_dev old.parts.devs e) then role_count old is_room_role e else 0) ≤ (if is_on (state_of_dev new.parts.devs e) then role_count new is_room_role e else 0)
  room_each e = by_state (is_on (state_of_dev old.parts.devs e)) refl
    where
      more : role_count old is_room_role e ≤ role_count new is_room_role e
      more =
          let many = ap (λ (k : ℕ). count_below k (λ u. is_room_role (role_at new e u))) (units e) in
          let grows = count_more (units_of_dev old.parts.devs e) (λ u. is_room_role (role_at old e u)) (λ u. is_room_role (role_at new e u)) (λ u lt is. ap is_room_role (c.roles e u) ∙ given_room (role_at old e u) is) in
          omega (arith, many, grows)

      still_on : is_on (state_of_dev old.parts.devs e) ≡ true → is_on (state_of_dev new.parts.devs e) ≡ true
      still_on is = ⊎_elim
          (λ here. ap (λ (k : ℕ). is_on (state_of_dev new.parts.devs k)) here ∙ ap is_on on_now)
          (λ away. ap is_on (state_away old new d c.elsewhere e away) ∙ is)
          (cases_eq e d)

      by_state : (b : Bool) → is_on (state_of_dev old.parts.devs e) ≡ b → (if is_on (state_of_dev old.parts.devs e) then role_count old is_room_role e else 0) ≤ (if is_on (state_of_dev new.parts.devs e) then role_count new is_room_role e else 0)
      by_state true is = let now = still_on is in let g = more in rw is rw now g
      by_state false is = rw is (omega arith)

  pub cancel_room : room old ≤ room new
  cancel_room =
      let n = length old.parts.devs in
      let x = sum_passing (role_count old is_room_role) (λ e. is_on (state_of_dev old.parts.devs e)) (range_with_len 0 n) in
      let y = sum_passing (role_count new is_room_role) (λ e. is_on (state_of_dev new.parts.devs e)) (range_with_len 0 (length new.parts.devs)) in
      let s = ap (λ (j : ℕ). sum_by (λ (e : ℕ). if is_on (state_of_dev new.parts.devs e) then role_count new is_room_role e else 0) (range_with_len 0 j)) count in
      let less = sum_less (λ (e : ℕ). if is_on (state_of_dev old.parts.devs e) then role_count old is_room_role e else 0) (λ (e : ℕ). if is_on (state_of_dev new.parts.devs e) then role_count new is_room_role e else 0) (range_with_len 0 n) room_each in
      omega (arith, x, y, s, less)

  pub cancel_uncopied : (blocks objects : ℕ) → (sizes new blocks objects).uncopied ≡ 0
  cancel_uncopied blocks objects =
      sum_as (left_of new) (λ (e : ℕ). 0) (range_with_len 0 (length new.parts.devs)) each ∙ sum_zero (range_with_len 0 (length new.parts.devs))
    where
      each : (e : ℕ) → left_of new e ≡ 0
      each e = ⊎_elim
          (λ here. let is : is_leaving (state_of_dev new.parts.devs e) ≡ false = ap (λ (k : ℕ). is_leaving (state_of_dev new.parts.devs k)) here ∙ ap is_leaving on_now in rw is refl)
          (λ away. by_state (is_leaving (state_of_dev old.parts.devs e)) refl (ap is_leaving (state_away old new d c.elsewhere e away)) away)
          (cases_eq e d)
        where
          by_state : (b : Bool) → is_leaving (state_of_dev old.parts.devs e) ≡ b → is_leaving (state_of_dev new.parts.devs e) ≡ is_leaving (state_of_dev old.parts.devs e) → e ≢ d → left_of new e ≡ 0
          by_state true is now away = absurd (away (a.alone e is))
          by_state false is now away = rw now rw is refl

  kind_stays : (kind : Role → Bool) → ((r : Role) → kind (given_up r) ≡ kind r) → (e : ℕ) → role_count new kind e ≡ role_count old kind e
  kind_stays kind is e =
      ap (λ (k : ℕ). count_below k (λ u. kind (role_at new e u))) (units e)
      ∙ count_as (units_of_dev old.parts.devs e) (λ u. kind (role_at new e u)) (λ u. kind (role_at old e u)) (λ u lt. ap kind (c.roles e u) ∙ is (role_at old e u))

  pub cancel_past : (blocks objects : ℕ) → (sizes new blocks objects).past ≡ (sizes old blocks objects).past
  cancel_past blocks objects =
      let x : sum_by (λ (y : Dva). y.len) new.meta ≡ sum_by (λ (y : Dva). y.len) old.meta = ap (sum_by (λ (y : Dva). y.len)) c.elsewhere.meta in
      let y : late1_meta new.parts.devs ≡ late1_meta old.parts.devs = metas (λ p. late_meta_units p.late1) (λ e. late1_count new e m ∙ (kind_stays is_late1_meta given_late1_meta e ∙ sym (late1_count old e l))) in
      let z : late2_meta new.parts.devs ≡ late2_meta old.parts.devs = metas (λ p. late_meta_units p.late2) (λ e. late2_count new e m ∙ (kind_stays is_late2_meta given_late2_meta e ∙ sym (late2_count old e l))) in
      ap₂ max x (ap₂ max y z)
    where
      metas : (g : DevPart → ℕ) → ((e : ℕ) → g (part_of new.parts.devs e) ≡ g (part_of old.parts.devs e)) → sum_by g new.parts.devs ≡ sum_by g old.parts.devs
      metas g is =
          by_index g new.parts.devs
          ∙ (sum_as (λ (e : ℕ). g (part_of new.parts.devs e)) (λ (e : ℕ). g (part_of old.parts.devs e)) (range_with_len 0 (length new.parts.devs)) is
          ∙ (ap (λ (n : ℕ). sum_by (λ (e : ℕ). g (part_of old.parts.devs e)) (range_with_len 0 n)) count ∙ sym (by_index g old.parts.devs)))
