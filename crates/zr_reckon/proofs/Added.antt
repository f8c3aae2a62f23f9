-- A device more, and the counts behind it.
use Rattle.std.proofs.Common.{◌≡◌, ◌≢◌, ℕ, zero, suc, ◌+◌, ◌<◌, Bool, true, false, ◌&&◌, ◌==◌, nat_lt, max, List, [], ◌∷◌, ◌++◌, length, refl, ◌∙◌, sym, ap, ap₂, arith, if◌then◌else◌, ⊎_elim}
use Rattle.std.specs.List.{sum_by, range_with_len}
use Rattle.std.proofs.lemmas.Bool.{cases_eq}
use Rattle.std.proofs.lemmas.Bool.Decides.{nat_tests}
use Rattle.std.proofs.lemmas.List.{length_push}
use Rattle.std.proofs.lemmas.List.Sums.{sum_by-cons, sum_by-append}
use Rattle.zr_base.specs.declared.space.Dva.{Dva}
use Rattle.zr_base.specs.declared.space.DevPart.{DevPart}
use Rattle.zr_base.specs.declared.space.DevState.TheVariants.{On}
use Rattle.zr_base.proofs.ExtentSets.{same_extents}
use Rattle.zr_rules.specs.Owed.{set_words}
use Rattle.zr_rules.specs.Places.{count_below, no_part, is_on, is_leaving, is_gone, part_of, state_of_dev, units_of_dev}
use Rattle.zr_rules.specs.Mappings.{end_of_last}
use Rattle.zr_rules.specs.Roles.{Role, is_free_role}
use Rattle.zr_rules.specs.Roles.Role.{Absent, Free}
use Rattle.zr_rules.specs.Space.{Space, opened_of, role_at, IsLawful}
use Rattle.zr_rules.specs.Columns.{role_count, on_devices, device_words, device_streams, late_blocks, late_meta_units, late1_meta, late2_meta, units_from, uncopied_units, sizes}
use Rattle.zr_rules.specs.Steps.{AddsDevice}
use Rattle.zr_reckon.specs.Uses.{is_room_role, room}
use Rattle.zr_reckon.proofs.Bits.{is_deferred_block}
use Rattle.zr_reckon.proofs.RoleSets.{deferred_is}
use Rattle.zr_reckon.proofs.Counting.{count_as, sum_as, sum_both, sum_passing, sum_at, only_at}
use Rattle.zr_reckon.proofs.Frames.{words_same, deferred_same, sized}
use Rattle.zr_reckon.proofs.Placed.{beyond}
use Rattle.zr_reckon.proofs.RoomUnits.{room_is}

-- a list of devices with one more
push_same : {A : Type 0} (f : DevPart → A) (xs : List DevPart) (p : DevPart) → f p ≡ f no_part → (d : ℕ) → f (part_of (xs ++ p ∷ []) d) ≡ f (part_of xs d)
push_same f [] p same zero = same
push_same f [] p same (suc d) = refl
push_same f (x ∷ xs) p same zero = refl
push_same f (x ∷ xs) p same (suc d) = push_same f xs p same d

push_away : (xs : List DevPart) (p : DevPart) (d : ℕ) → d ≢ length xs → part_of (xs ++ p ∷ []) d ≡ part_of xs d
push_away [] p zero away = absurd (away refl)
push_away [] p (suc d) away = refl
push_away (x ∷ xs) p zero away = refl
push_away (x ∷ xs) p (suc d) away = push_away xs p d (λ e. away (omega (arith, e)))

push_last : (xs : List DevPart) (p : DevPart) → part_of (xs ++ p ∷ []) (length xs) ≡ p
push_last [] p = refl
push_last (x ∷ xs) p = push_last xs p

past_part : (xs : List DevPart) → part_of xs (length xs) ≡ no_part
past_part [] = refl
past_part (x ∷ xs) = past_part xs

sum_push : (f : DevPart → ℕ) (xs : List DevPart) (p : DevPart) → sum_by f (xs ++ p ∷ []) ≡ sum_by f xs + f p
sum_push f xs p = let a = sum_by-append f xs (p ∷ []) in let b = sum_by-cons f p [] in omega (arith, a, b)

range_suc : (h : ℕ → ℕ) (a n : ℕ) → sum_by h (range_with_len a (suc n)) ≡ sum_by h (range_with_len a n) + h (a + n)
range_suc h a zero = let z : a + 0 ≡ a = omega arith in let e = ap h z in omega (arith, e)
range_suc h a (suc n) =
    let next : (a + 1) + n ≡ a + suc n = omega arith in
    let r = range_suc h (a + 1) n in
    let e = ap h next in
    let x = sum_by-cons h a (range_with_len (a + 1) (suc n)) in
    let y = sum_by-cons h a (range_with_len (a + 1) n) in
    omega (arith, r, e, x, y)

count_all : (n : ℕ) (test : ℕ → Bool) → ((u : ℕ) → u < n → test u ≡ true) → count_below n test ≡ n
count_all zero test all = refl
count_all (suc n) test all = let r = count_all n test (λ u lt. all u (omega (arith, lt))) in let h = all n (omega arith) in grind (arith, nat_tests, r, h)

module _ (old new : Space) (units txg : ℕ) (c : AddsDevice old new units txg) (l : IsLawful old) where
  n : ℕ
  n = length old.parts.devs

  m : IsLawful new
  m = c.lawful l

  abbrev added : DevPart
  added = record { row = record { state = On; added = txg; units = units; gone = 0 }; held = []; kept = []; entries = []; counts = []; fresh = []; late1 = []; late2 = [] }

  part_is : {A : Type 0} (f : DevPart → A) → f added ≡ f no_part → (d : ℕ) → f (part_of new.parts.devs d) ≡ f (part_of old.parts.devs d)
  part_is f same d = ap (λ (xs : List DevPart). f (part_of xs d)) c.devs ∙ push_same f old.parts.devs added same d

  part_away : (d : ℕ) → d ≢ length old.parts.devs → part_of new.parts.devs d ≡ part_of old.parts.devs d
  part_away d away = ap (λ (xs : List DevPart). part_of xs d) c.devs ∙ push_away old.parts.devs added d away

  part_here : part_of new.parts.devs (length old.parts.devs) ≡ added
  part_here = ap (λ (xs : List DevPart). part_of xs (length old.parts.devs)) c.devs ∙ push_last old.parts.devs added

  count : length new.parts.devs ≡ suc (length old.parts.devs)
  count = let p = length_push old.parts.devs added in let q = ap (λ (xs : List DevPart). length xs) c.devs in omega (arith, p, q)

  absent : (u : ℕ) → role_at old (length old.parts.devs) u ≡ Absent
  absent u = beyond old (length old.parts.devs) u (grind (arith, nat_tests))

  sum_more : (f : ℕ → ℕ) → sum_by f (range_with_len 0 (length new.parts.devs)) ≡ sum_by f (range_with_len 0 (length old.parts.devs)) + f (length old.parts.devs)
  sum_more f =
      let a = ap (λ (k : ℕ). sum_by f (range_with_len 0 k)) count in
      let b = range_suc f 0 (length old.parts.devs) in
      let e : f (0 + length old.parts.devs) ≡ f (length old.parts.devs) = ap f (let z : 0 + length old.parts.devs ≡ length old.parts.devs = omega arith in z) in
      omega (arith, a, b, e)

  -- a kind that neither absent nor free units have is had by the same units
  kind_same : (kind : Role → Bool) → kind Free ≡ kind Absent → (d u : ℕ) → kind (role_at new d u) ≡ kind (role_at old d u)
  kind_same kind same d u = ap kind (c.roles d u) ∙ by_test ((d == length old.parts.devs) && nat_lt u units) refl
    where
      by_test : (b : Bool) → ((d == length old.parts.devs) && nat_lt u units) ≡ b → kind (if (d == length old.parts.devs) && nat_lt u units then Free else role_at old d u) ≡ kind (role_at old d u)
      by_test true is =
          let here : d ≡ length old.parts.devs = grind (arith, nat_tests, is) in
          let was = ap (λ (k : ℕ). kind (role_at old k u)) here ∙ ap kind (absent u) in
          rw is (same ∙ sym was)
      by_test false is = rw is refl

  words : (d : ℕ) → device_words new d ≡ device_words old d
  words d =
      let v = new.parts.version in
      let w = old.parts.version in
      let held = words_same v w _ _ c.version (part_is (λ p. p.held) refl d) in
      let kept = words_same v w _ _ c.version (part_is (λ p. p.kept) refl d) in
      let fresh = words_same v w _ _ c.version (part_is (λ p. p.fresh) refl d) in
      let entries = part_is (λ p. length p.entries) refl d in
      let late1 = words_same v w _ _ c.version (part_is (λ p. late_blocks p.late1) refl d) in
      let late2 = words_same v w _ _ c.version (part_is (λ p. late_blocks p.late2) refl d) in
      let deferred = words_same v w _ _ c.version (deferred_same old new d d l m (λ u. kind_same is_deferred_block refl d u)) in
      omega (arith, held, kept, fresh, entries, late1, late2, deferred)

  no_words_past : device_words old (length old.parts.devs) ≡ 0
  no_words_past =
      let k = length old.parts.devs in
      let p = past_part old.parts.devs in
      let v = old.parts.version in
      let held = ap (λ (x : DevPart). set_words v x.held) p in
      let kept = ap (λ (x : DevPart). set_words v x.kept) p in
      let fresh = ap (λ (x : DevPart). set_words v x.fresh) p in
      let entries = ap (λ (x : DevPart). length x.entries) p in
      let late1 = ap (λ (x : DevPart). set_words v (late_blocks x.late1)) p in
      let late2 = ap (λ (x : DevPart). set_words v (late_blocks x.late2)) p in
      let none = same_extents 0 0 (opened_of old k).deferred [] (l.sets k).deferred.maximal tt (λ u. deferred_is old k u l ∙ ap is_deferred_block (absent u)) in
      let deferred = ap (set_words v) none in
      omega (arith, held, kept, fresh, entries, late1, late2, deferred)

  all_words : sum_by (device_words new) (range_with_len 0 (length new.parts.devs)) ≡ sum_by (device_words old) (range_with_len 0 (length old.parts.devs))
  all_words =
      let a = sum_as (device_words new) (device_words old) (range_with_len 0 (length new.parts.devs)) words in
      let b = sum_more (device_words old) in
      let z = no_words_past in
      omega (arith, a, b, z)

  sum_of : (f : DevPart → ℕ) → sum_by f new.parts.devs ≡ sum_by f old.parts.devs + f added
  sum_of f = ap (sum_by f) c.devs ∙ sum_push f old.parts.devs added

  abbrev left_part : DevPart → ℕ
  left_part p = if is_leaving p.row.state then sum_by (units_from (end_of_last p.entries)) p.held else 0

  uncopied : uncopied_units new ≡ uncopied_units old
  uncopied =
      let a = sum_as (λ (d : ℕ). left_part (part_of new.parts.devs d)) (λ (d : ℕ). left_part (part_of old.parts.devs d)) (range_with_len 0 (length new.parts.devs)) (part_is left_part refl) in
      let b = sum_more (λ (d : ℕ). left_part (part_of old.parts.devs d)) in
      let z = ap left_part (past_part old.parts.devs) in
      omega (arith, a, b, z)

  -- ---- units of the devices in service

  module _ (kind : Role → Bool) (free : kind Free ≡ true) where
    abbrev served : Space → ℕ → ℕ
    served s d = if is_on (state_of_dev s.parts.devs d) then role_count s kind d else 0

    here_now : served new (length old.parts.devs) ≡ units
    here_now =
        let k = length old.parts.devs in
        let on : is_on (state_of_dev new.parts.devs k) ≡ true = ap (λ (p : DevPart). is_on p.row.state) part_here in
        let many : units_of_dev new.parts.devs k ≡ units = ap (λ (p : DevPart). p.row.units) part_here in
        let all = count_all units (λ u. kind (role_at new k u)) (λ u lt. ap kind (c.roles k u) ∙ (let is : ((k == length old.parts.devs) && nat_lt u units) ≡ true = grind (arith, nat_tests, lt) in rw is free)) in
        rw on (ap (λ (i : ℕ). count_below i (λ u. kind (role_at new k u))) many ∙ all)

    here_before : served old (length old.parts.devs) ≡ 0
    here_before =
        let k = length old.parts.devs in
        let on : is_on (state_of_dev old.parts.devs k) ≡ true = ap (λ (p : DevPart). is_on p.row.state) (past_part old.parts.devs) in
        let none : units_of_dev old.parts.devs k ≡ 0 = ap (λ (p : DevPart). p.row.units) (past_part old.parts.devs) in
        rw on (ap (λ (i : ℕ). count_below i (λ u. kind (role_at old k u))) none)

    away_same : (d : ℕ) → d ≢ length old.parts.devs → served new d ≡ served old d
    away_same d away =
        let p = part_away d away in
        let state : is_on (state_of_dev new.parts.devs d) ≡ is_on (state_of_dev old.parts.devs d) = ap (λ (x : DevPart). is_on x.row.state) p in
        let many : units_of_dev new.parts.devs d ≡ units_of_dev old.parts.devs d = ap (λ (x : DevPart). x.row.units) p in
        let same = count_as (units_of_dev old.parts.devs d) (λ u. kind (role_at new d u)) (λ u. kind (role_at old d u)) (λ u lt. ap kind (c.roles d u) ∙ (let is : ((d == length old.parts.devs) && nat_lt u units) ≡ false = grind (arith, nat_tests, away) in rw is refl)) in
        ap₂ (λ (b : Bool) (i : ℕ). if b then i else 0) state (ap (λ (i : ℕ). count_below i (λ u. kind (role_at new d u))) many ∙ same)

    each : (d : ℕ) → served new d ≡ served old d + only_at (length old.parts.devs) units d
    each d = ⊎_elim
        (λ here.
        let x = ap (served new) here in
        let y = ap (served old) here in
        let z = here_now in
        let w = here_before in
        grind (arith, nat_tests, x, y, z, w, here))
        (λ away. let x = away_same d away in grind (arith, nat_tests, x, away))
        (cases_eq d (length old.parts.devs))

    pub kind_more : sum_by (role_count new kind) (on_devices new) ≡ sum_by (role_count old kind) (on_devices old) + units
    kind_more =
        let k = length old.parts.devs in
        let a = sum_passing (role_count new kind) (λ d. is_on (state_of_dev new.parts.devs d)) (range_with_len 0 (length new.parts.devs)) in
        let b = sum_passing (role_count old kind) (λ d. is_on (state_of_dev old.parts.devs d)) (range_with_len 0 k) in
        let both = sum_both (served new) (served old) (only_at k units) (range_with_len 0 (length new.parts.devs)) each in
        let more = sum_more (served old) in
        let z = here_before in
        let one = sum_at k units (length new.parts.devs) (let e = count in omega (arith, e)) in
        omega (arith, a, b, both, more, z, one)

  pub added_room : room new ≡ room old + units
  added_room = kind_more is_room_role refl

  pub added_sizes : (blocks objects : ℕ) → sizes new blocks objects ≡ record (sizes old blocks objects) { streams = (sizes old blocks objects).streams + 4 }
  added_sizes blocks objects =
      all_sizes _ _ _ _ _ _ _ _ _ _ _ _ blocks objects all_words
      (let s = sum_of (λ p. device_streams p.row.state) in omega (arith, s))
      (let s = sum_of (λ p. if is_gone p.row.state then 1 else 0) in omega (arith, s))
      uncopied turning past
    where
      all_sizes : (w1 w2 s1 s2 g1 g2 u1 u2 t1 t2 p1 p2 : ℕ) (blocks objects : ℕ) → w1 ≡ w2 → s1 ≡ s2 → g1 ≡ g2 → u1 ≡ u2 → t1 ≡ t2 → p1 ≡ p2
          → sized blocks objects w1 s1 g1 u1 t1 p1 ≡ sized blocks objects w2 s2 g2 u2 t2 p2
      all_sizes w1 w2 s1 s2 g1 g2 u1 u2 t1 t2 p1 p2 blocks objects w s g u t p = cc

      turning : (sizes new blocks objects).turning ≡ (sizes old blocks objects).turning
      turning =
          let a = room_is new m blocks objects in
          let b = room_is old l blocks objects in
          let x = added_room in
          let y = kind_more is_free_role refl in
          omega (arith, a, b, x, y)

      past : (sizes new blocks objects).past ≡ (sizes old blocks objects).past
      past =
          let a : sum_by (λ (x : Dva). x.len) new.meta ≡ sum_by (λ (x : Dva). x.len) old.meta = ap (sum_by (λ (x : Dva). x.len)) c.meta in
          let b : late1_meta new.parts.devs ≡ late1_meta old.parts.devs = let s = sum_of (λ p. late_meta_units p.late1) in omega (arith, s) in
          let e : late2_meta new.parts.devs ≡ late2_meta old.parts.devs = let s = sum_of (λ p. late_meta_units p.late2) in omega (arith, s) in
          ap₂ max a (ap₂ max b e)
