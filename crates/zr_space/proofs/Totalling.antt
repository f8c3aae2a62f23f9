-- The counts from which the room is computed, as sums over the devices.
use Rattle.std.proofs.Common.{◌≡◌, ℕ, zero, suc, ◌+◌, ◌*◌, ◌<◌, ◌≤◌, ◌^◌, Bool, true, false, ◌==◌, List, [], ◌∷◌, ◌++◌, map, length, refl, ◌∙◌, sym, ap, ap₂, arith, subst, add-one, cond, if◌then◌else◌}
use Rattle.std.specs.Prelude.{filter}
use Rattle.std.specs.List.{sum_by, range_with_len}
use Rattle.std.proofs.lemmas.List.{length-map}
use Rattle.std.proofs.lemmas.List.Sums.{sum_by-cons, sum_by-append}
use Rattle.std.proofs.lemmas.Bool.Decides.{nat_tests}
use Rattle.zr_base.specs.declared.space.Extent.{Extent}
use Rattle.zr_base.specs.declared.space.Dva.{Dva}
use Rattle.zr_base.specs.declared.space.LateRun.{LateRun}
use Rattle.zr_base.specs.declared.space.DevPart.{DevPart}
use Rattle.zr_base.specs.declared.space.DevState.TheVariants.{On, Leaving, Gone}
use Rattle.zr_base.specs.declared.space.DevState.{DevState}
use Rattle.zr_base.specs.Extents.{IsMaximal, unit_count, has_unit}
use Rattle.zr_rules.specs.Owed.{set_words}
use Rattle.zr_rules.specs.Roles.{is_free_role}
use Rattle.zr_rules.specs.Places.{count_below, is_on, is_gone, part_of, units_of_dev, state_of_dev}
use Rattle.zr_rules.specs.Space.{Space, OpenSets, role_at}
use Rattle.zr_rules.specs.Columns as columns
use Rattle.zr_rules.specs.Equation.{devices_in}
use Rattle.zr_rules.specs.Steps.{touch}
use Rattle.zr_metaslab.specs.Devices.{Devices, count_at}
use Rattle.zr_units.specs.Uses.{Freed}
use Rattle.zr_space.specs.Views.{units_there, Kept, kept_of, part_in, opened_in, late_runs, addresses, meta_from, space_of, IsSpace}
use Rattle.zr_space.specs.Totals.{total_by, serving_units, kept_in, current_meta, late1_meta, late2_meta, words_in}
use Rattle.zr_space.proofs.Sums.{as_runs}
use Rattle.zr_space.proofs.Views.{part_is, opened_is}
use Rattle.zr_space.proofs.Keeps.{same_free}
use Rattle.zr_space.specs.Paths.{AreInService}
use Rattle.zr_space.proofs.Leads.{are_on}
use Rattle.zr_space.proofs.Paths.{one_piece}
use Rattle.zr_space.specs.declared.whole.Whole.{Whole}

-- ---- sums

pass_first : {X : Type 0} (p : X → Bool) (x : X) (xs : List X) → p x ≡ true → filter p (x ∷ xs) ≡ x ∷ filter p xs
pass_first p x xs is = rw is refl

all_pass : {X : Type 0} (p : X → Bool) (xs : List X) → ((x : X) → p x ≡ true) → filter p xs ≡ xs
all_pass p [] pass = refl
all_pass {X} p (x ∷ xs) pass = pass_first p x xs (pass x) ∙ ap (λ (l : List X). x ∷ l) (all_pass p xs pass)

pub sum_as : {X : Type 0} (f g : X → ℕ) (xs : List X) → ((x : X) → f x ≡ g x) → sum_by f xs ≡ sum_by g xs
sum_as f g [] same = refl
sum_as f g (x ∷ xs) same =
    let s = same x in
    let r = sum_as f g xs same in
    let a = sum_by-cons f x xs in
    let b = sum_by-cons g x xs in
    omega (arith, s, r, a, b)

pub sum_none : {X : Type 0} (f : X → ℕ) (xs : List X) → ((x : X) → f x ≡ 0) → sum_by f xs ≡ 0
sum_none f [] none = refl
sum_none f (x ∷ xs) none = let s = none x in let r = sum_none f xs none in let a = sum_by-cons f x xs in omega (arith, s, r, a)

-- a sum over those that pass is one in which the others have none
pub sum_passing : {X : Type 0} (h : X → ℕ) (p : X → Bool) (xs : List X) → sum_by h (filter p xs) ≡ sum_by (λ x. if p x then h x else 0) xs
sum_passing h p [] = refl
sum_passing {X} h p (x ∷ xs) = one (p x) x (filter p xs) ∙ (ap (λ n. (if p x then h x else 0) + n) (sum_passing h p xs) ∙ sym (sum_by-cons (λ (y : X). if p y then h y else 0) x xs))
  where
    one : (b : Bool) (y : X) (ys : List X) → sum_by h (cond b (y ∷ ys) ys) ≡ (if b then h y else 0) + sum_by h ys
    one true y ys = sum_by-cons h y ys
    one false y ys = omega arith

range_suc : (h : ℕ → ℕ) (a n : ℕ) → sum_by h (range_with_len a (suc n)) ≡ sum_by h (range_with_len a n) + h (a + n)
range_suc h a zero = let z : a + 0 ≡ a = omega arith in let e = ap h z in omega (arith, e)
range_suc h a (suc n) =
    let next : (a + 1) + n ≡ a + suc n = omega arith in
    let r = range_suc h (a + 1) n in
    let e = ap h next in
    let x = sum_by-cons h a (range_with_len (a + 1) (suc n)) in
    let y = sum_by-cons h a (range_with_len (a + 1) n) in
    omega (arith, r, e, x, y)

pub range_more : (h : ℕ → ℕ) (a n : ℕ) → sum_by h (range_with_len a (n + 1)) ≡ sum_by h (range_with_len a n) + h (a + n)
range_more h a n = rw add-one (range_suc h a n)

-- a sum by index is one over the devices
pub from_range : (h : ℕ → ℕ) (g : Kept → ℕ) (a : ℕ) (devs : List Kept) → ((i : ℕ) → h (a + i) ≡ g (kept_of devs i)) → sum_by h (range_with_len a (length devs)) ≡ sum_by g devs
from_range h g a [] same = refl
from_range h g a (x ∷ xs) same =
    let here : h a ≡ g x = ap h (let z : a ≡ a + 0 = omega arith in z) ∙ same 0 in
    let rest = from_range h g (a + 1) xs (λ i. ap h (let z : (a + 1) + i ≡ a + suc i = omega arith in z) ∙ same (suc i)) in
    let p = sum_by-cons h a (range_with_len (a + 1) (length xs)) in
    let q = sum_by-cons g x xs in
    omega (arith, here, rest, p, q)

sum_less : {X : Type 0} (f g : X → ℕ) (xs : List X) → ((x : X) → f x ≤ g x) → sum_by f xs ≤ sum_by g xs
sum_less f g [] less = omega arith
sum_less f g (x ∷ xs) less =
    let s = less x in
    let r = sum_less f g xs less in
    let a = sum_by-cons f x xs in
    let b = sum_by-cons g x xs in
    omega (arith, s, r, a, b)

count_within : (n : ℕ) (test : ℕ → Bool) → count_below n test ≤ n
count_within zero test = omega arith
count_within (suc n) test = let r = count_within n test in grind (arith, nat_tests, r)

-- no more units are free than there are
pub free_within : (s : Space) → columns.free_units s ≤ columns.on_units s
free_within s = sum_less (λ (d : ℕ). (columns.columns s d).free) (units_of_dev s.parts.devs) (columns.on_devices s) (λ d. count_within (units_of_dev s.parts.devs d) (λ u. is_free_role (role_at s d u)))

-- ---- late sets and metadata

abbrev late_len : LateRun → ℕ
late_len r = if r.meta then r.at.len else 0

late_len_of : (meta : Bool) (es : List Extent) → sum_by late_len (as_runs meta es) ≡ (if meta then unit_count es else 0)
late_len_of true [] = refl
late_len_of false [] = refl
late_len_of true (e ∷ es) = let r = late_len_of true es in let a = sum_by-cons late_len (record { at = e; meta = true }) (as_runs true es) in omega (arith, r, a)
late_len_of false (e ∷ es) = let r = late_len_of false es in let a = sum_by-cons late_len (record { at = e; meta = false }) (as_runs false es) in omega (arith, r, a)

pub late_meta_is : (f : Freed) → columns.late_meta_units (late_runs f) ≡ unit_count f.meta
late_meta_is f =
    let a = sum_by-append late_len (as_runs false f.blocks) (as_runs true f.meta) in
    let b = late_len_of false f.blocks in
    let m = late_len_of true f.meta in
    omega (arith, a, b, m)

late_blocks_of : (es ms : List Extent) → columns.late_blocks (as_runs false es ++ as_runs true ms) ≡ es
late_blocks_of [] [] = refl
late_blocks_of [] (m ∷ ms) = late_blocks_of [] ms
late_blocks_of (e ∷ es) ms = ap (λ (l : List Extent). e ∷ l) (late_blocks_of es ms)

-- the blocks of a late set are kept as their maximal extents
pub first_late_maximal : (whole : Whole) (slabs : Devices) (devs : List Kept) → IsSpace whole slabs devs → (d : ℕ) → IsMaximal (columns.late_blocks (part_of (map part_in devs) d).late1)
first_late_maximal whole slabs devs h d =
    let is = ap (λ (p : DevPart). columns.late_blocks p.late1) (part_is devs d) ∙ late_blocks_of (kept_of devs d).uses.late1.blocks (kept_of devs d).uses.late1.meta in
    subst IsMaximal (sym is) (h.account d).lists.late1.blocks

pub second_late_maximal : (whole : Whole) (slabs : Devices) (devs : List Kept) → IsSpace whole slabs devs → (d : ℕ) → IsMaximal (columns.late_blocks (part_of (map part_in devs) d).late2)
second_late_maximal whole slabs devs h d =
    let is = ap (λ (p : DevPart). columns.late_blocks p.late2) (part_is devs d) ∙ late_blocks_of (kept_of devs d).uses.late2.blocks (kept_of devs d).uses.late2.meta in
    subst IsMaximal (sym is) (h.account d).lists.late2.blocks

addresses_units : (k d : ℕ) (es : List Extent) → columns.units_on (addresses k es) d ≡ (if k == d then unit_count es else 0)
addresses_units k d [] = grind (arith, nat_tests)
addresses_units k d (e ∷ es) =
    let rest = addresses_units k d es in
    let more = sum_by-cons (λ (a : Dva). if a.dev == d then a.len else 0) (record { dev = k; start = e.start; len = e.len }) (addresses k es) in
    grind (arith, nat_tests, rest, more)

units_append : (xs ys : List Dva) (d : ℕ) → columns.units_on (xs ++ ys) d ≡ columns.units_on xs d + columns.units_on ys d
units_append xs ys d = sum_by-append (λ (a : Dva). if a.dev == d then a.len else 0) xs ys

units_below : (k d : ℕ) (devs : List Kept) → d < k → columns.units_on (meta_from k devs) d ≡ 0
units_below k d [] lt = refl
units_below k d (x ∷ xs) lt =
    let rest = units_below (k + 1) d xs (omega (arith, lt)) in
    grind (arith, nat_tests, lt, rest, units_append (addresses k x.uses.meta) (meta_from (k + 1) xs) d, addresses_units k d x.uses.meta)

pub units_at : (k j : ℕ) (devs : List Kept) → columns.units_on (meta_from k devs) (k + j) ≡ unit_count (kept_of devs j).uses.meta
units_at k zero [] = refl
units_at k (suc j) [] = refl
units_at k zero (x ∷ xs) =
    let rest = units_below (k + 1) (k + 0) xs (omega arith) in
    grind (arith, nat_tests, rest, units_append (addresses k x.uses.meta) (meta_from (k + 1) xs) (k + 0), addresses_units k (k + 0) x.uses.meta)
units_at k (suc j) (x ∷ xs) =
    let next : (k + 1) + j ≡ k + suc j = omega arith in
    let rest = ap (λ (d : ℕ). columns.units_on (meta_from (k + 1) xs) d) (sym next) ∙ units_at (k + 1) j xs in
    grind (arith, nat_tests, rest, units_append (addresses k x.uses.meta) (meta_from (k + 1) xs) (k + suc j), addresses_units k (k + suc j) x.uses.meta)

addresses_len : (k : ℕ) (es : List Extent) → sum_by (λ (a : Dva). a.len) (addresses k es) ≡ unit_count es
addresses_len k [] = refl
addresses_len k (e ∷ es) =
    let rest = addresses_len k es in
    let more = sum_by-cons (λ (a : Dva). a.len) (record { dev = k; start = e.start; len = e.len }) (addresses k es) in
    omega (arith, rest, more)

pub meta_len : (k : ℕ) (devs : List Kept) → sum_by (λ (a : Dva). a.len) (meta_from k devs) ≡ total_by current_meta devs
meta_len k [] = refl
meta_len k (x ∷ xs) =
    let rest = meta_len (k + 1) xs in
    let here = addresses_len k x.uses.meta in
    let both = sum_by-append (λ (a : Dva). a.len) (addresses k x.uses.meta) (meta_from (k + 1) xs) in
    let more = sum_by-cons (λ (d : Kept). current_meta d.uses) x xs in
    omega (arith, rest, here, both, more)

-- ---- what a root records of devices that are all in service

abbrev AreOn : List Kept → Type 0
AreOn devs = (d : ℕ) → (kept_of devs d).row.state ≡ On

pub kept_total : (devs : List Kept) → total_by kept_in devs ≡ sum_by (λ (p : DevPart). unit_count p.kept) (map part_in devs)
kept_total [] = refl
kept_total (x ∷ xs) =
    sum_by-cons (λ (k : Kept). kept_in k.uses) x xs ∙ (ap (λ n. unit_count x.uses.kept + n) (kept_total xs) ∙ sym (sum_by-cons (λ (p : DevPart). unit_count p.kept) (part_in x) (map part_in xs)))

pub late1_total : (devs : List Kept) → columns.late1_meta (map part_in devs) ≡ total_by late1_meta devs
late1_total [] = refl
late1_total (x ∷ xs) =
    let rest = late1_total xs in
    let here = late_meta_is x.uses.late1 in
    let p = sum_by-cons (λ (p : DevPart). columns.late_meta_units p.late1) (part_in x) (map part_in xs) in
    let q = sum_by-cons (λ (d : Kept). late1_meta d.uses) x xs in
    omega (arith, rest, here, p, q)

pub late2_total : (devs : List Kept) → columns.late2_meta (map part_in devs) ≡ total_by late2_meta devs
late2_total [] = refl
late2_total (x ∷ xs) =
    let rest = late2_total xs in
    let here = late_meta_is x.uses.late2 in
    let p = sum_by-cons (λ (p : DevPart). columns.late_meta_units p.late2) (part_in x) (map part_in xs) in
    let q = sum_by-cons (λ (d : Kept). late2_meta d.uses) x xs in
    omega (arith, rest, here, p, q)

-- the words of a device, by its part and what the open group did on it
abbrev words_by : ℕ → DevPart → OpenSets → ℕ
words_by version p o =
    set_words version p.held + 3 * set_words version p.kept + 8 * length p.entries + set_words version p.fresh
    + set_words version o.deferred + set_words version (columns.late_blocks p.late1) + set_words version (columns.late_blocks p.late2)

pub words_are : (whole : Whole) (devs : List Kept) (d : ℕ) → columns.device_words (space_of whole devs) d ≡ words_in whole.version (kept_of devs d)
words_are whole devs d =
    let k = kept_of devs d in
    let both : columns.device_words (space_of whole devs) d ≡ words_by whole.version (part_in k) (opened_in k) = ap₂ (words_by whole.version) (part_is devs d) (opened_is whole devs d) in
    let one : set_words whole.version (columns.late_blocks (late_runs k.uses.late1)) ≡ set_words whole.version k.uses.late1.blocks = ap (set_words whole.version) (late_blocks_of k.uses.late1.blocks k.uses.late1.meta) in
    let two : set_words whole.version (columns.late_blocks (late_runs k.uses.late2)) ≡ set_words whole.version k.uses.late2.blocks = ap (set_words whole.version) (late_blocks_of k.uses.late2.blocks k.uses.late2.meta) in
    let all : words_by whole.version (part_in k) (opened_in k) ≡ words_in whole.version k = omega (arith, one, two) in
    both ∙ all

-- the free units of a device, where it is in service
abbrev pub free_on : Devices → List Kept → ℕ → ℕ
free_on slabs devs d = if is_on (kept_of devs d).row.state then count_at slabs d else 0

module _ (whole : Whole) (slabs : Devices) (devs : List Kept) (s : IsSpace whole slabs devs) where
  count_is : length (map part_in devs) ≡ length devs
  count_is = length-map devs part_in

  on_is : (d : ℕ) → is_on (state_of_dev (map part_in devs) d) ≡ is_on (kept_of devs d).row.state
  on_is d = ap (λ (p : DevPart). is_on p.row.state) (part_is devs d)

  pub free_units_are : sum_by (free_on slabs devs) (range_with_len 0 (length devs)) ≡ columns.free_units (space_of whole devs)
  free_units_are =
      sum_as (free_on slabs devs) (λ (d : ℕ). if is_on (state_of_dev (map part_in devs) d) then (columns.columns (space_of whole devs) d).free else 0) (range_with_len 0 (length devs))
      (λ d. ap₂ (λ (b : Bool) (n : ℕ). if b then n else 0) (sym (on_is d)) (sym ((same_free whole slabs devs s).count d)))
      ∙ (ap (λ n. sum_by (λ (d : ℕ). if is_on (state_of_dev (map part_in devs) d) then (columns.columns (space_of whole devs) d).free else 0) (range_with_len 0 n)) (sym count_is)
      ∙ sym (sum_passing (λ (d : ℕ). (columns.columns (space_of whole devs) d).free) (λ d. is_on (state_of_dev (map part_in devs) d)) (range_with_len 0 (length (map part_in devs)))))

  pub free_at_most : (d : ℕ) → free_on slabs devs d < 2 ^ 40
  free_at_most d = let a = (s.account d).sum in let m = (s.account d).small in grind (arith, nat_tests, a, m)

  serving : (d : ℕ) → (if is_on (state_of_dev (map part_in devs) d) then units_of_dev (map part_in devs) d else 0) ≡ (if is_on (kept_of devs d).row.state then (kept_of devs d).uses.units else 0)
  serving d =
      let on = on_is d in
      let units : units_of_dev (map part_in devs) d ≡ (kept_of devs d).row.units = ap (λ (p : DevPart). p.row.units) (part_is devs d) in
      let rows = s.rows d in
      let there = on_there (kept_of devs d).row.state in
      grind (arith, nat_tests, on, units, rows, there)
    where
      on_there : (st : DevState) → is_on st ≡ true → is_gone st ≡ false
      on_there On is = refl
      on_there Leaving is = refl
      on_there Gone is = absurd (false_true is)
        where
          false_true : false ≡ true → ⊥
          false_true e = cc

  pub on_units_are : serving_units devs ≡ columns.on_units (space_of whole devs)
  on_units_are =
      sym (from_range (λ d. if is_on (state_of_dev (map part_in devs) d) then units_of_dev (map part_in devs) d else 0) (λ (k : Kept). if is_on k.row.state then k.uses.units else 0) 0 devs
      (λ i. ap (λ d. if is_on (state_of_dev (map part_in devs) d) then units_of_dev (map part_in devs) d else 0) (let z : 0 + i ≡ i = omega arith in z) ∙ serving i))
      ∙ (ap (λ n. sum_by (λ d. if is_on (state_of_dev (map part_in devs) d) then units_of_dev (map part_in devs) d else 0) (range_with_len 0 n)) (sym count_is)
      ∙ sym (sum_passing (units_of_dev (map part_in devs)) (λ d. is_on (state_of_dev (map part_in devs) d)) (range_with_len 0 (length (map part_in devs)))))

-- ---- all devices are in service

module _ (whole : Whole) (slabs : Devices) (devs : List Kept) (s : IsSpace whole slabs devs) (service : AreInService (devices_in (space_of whole devs))) where
  on : AreOn devs
  on = are_on whole devs service

  on_are : columns.on_devices (space_of whole devs) ≡ range_with_len 0 (length devs)
  on_are =
      all_pass (λ (d : ℕ). is_on (state_of_dev (map part_in devs) d)) (range_with_len 0 (length (map part_in devs))) (λ d. ap (λ (p : DevPart). is_on p.row.state) (part_is devs d) ∙ ap is_on (on d))
      ∙ ap (range_with_len 0) (length-map devs part_in)

  pub one_touched : (a : Dva) → 1 ≡ touch (devices_in (space_of whole devs)) a
  one_touched a = sym (one_piece (length (map part_in devs)) (devices_in (space_of whole devs)) a.dev a.start a.len service)

  pub units_here : sum_by (λ (p : DevPart). p.row.units) (map part_in devs) ≡ columns.on_units (space_of whole devs)
  units_here = all_rows devs ∙ (all_serve devs on (λ d. s.rows d) ∙ on_units_are whole slabs devs s)
    where
      all_rows : (ks : List Kept) → sum_by (λ (p : DevPart). p.row.units) (map part_in ks) ≡ sum_by (λ (k : Kept). k.row.units) ks
      all_rows [] = refl
      all_rows (k ∷ ks) = sum_by-cons (λ (p : DevPart). p.row.units) (part_in k) (map part_in ks) ∙ (ap (λ n. k.row.units + n) (all_rows ks) ∙ sym (sum_by-cons (λ (x : Kept). x.row.units) k ks))

      all_serve : (ks : List Kept) → AreOn ks → ((d : ℕ) → (kept_of ks d).uses.units ≡ units_there (kept_of ks d).row) → sum_by (λ (x : Kept). x.row.units) ks ≡ serving_units ks
      all_serve [] all rows = refl
      all_serve (k ∷ ks) all rows =
          let rest = all_serve ks (λ d. all (suc d)) (λ d. rows (suc d)) in
          let there : k.uses.units ≡ k.row.units = rows 0 ∙ (rw (all 0) refl) in
          let here : (if is_on k.row.state then k.uses.units else 0) ≡ k.uses.units = rw (all 0) refl in
          let a = sum_by-cons (λ (x : Kept). x.row.units) k ks in
          let b = sum_by-cons (λ (x : Kept). if is_on x.row.state then x.uses.units else 0) k ks in
          omega (arith, rest, here, there, a, b)
