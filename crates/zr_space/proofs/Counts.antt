-- The units of a device by role, counted.
use Rattle.std.proofs.Common.{◌≡◌, ℕ, zero, suc, ◌+◌, ◌-◌, ◌≤◌, ◌<◌, ◌^◌, Bool, true, false, List, refl, ◌∙◌, sym, ap, arith}
use Rattle.std.proofs.lemmas.Bool.Decides.{nat_tests}
use Rattle.zr_base.specs.declared.space.Extent.{Extent}
use Rattle.zr_base.specs.Extents.{has_unit, unit_count, IsMaximal}
use Rattle.zr_rules.specs.Places.{one_if, count_below}
use Rattle.zr_rules.specs.Roles.{is_allocated_role, is_deferred_role, is_kept_role}
use Rattle.zr_rules.specs.Roles.Role.{Absent}
use Rattle.zr_obsolete.proofs.Counting.{count-gap, count-set}
use Rattle.zr_units.specs.Apart.{IsWithin}
use Rattle.zr_units.specs.Uses.{Uses, Freed, IsAccount, use_hits, use_count, freed_count}
use Rattle.zr_space.specs.Views.{role_in}

none_above : (b : Bool) (u n : ℕ) → n ≤ u → (b ≡ true → u < n) → b ≡ false
none_above true u n le within = let lt = within refl in absurd (omega (arith, lt, le))
none_above false u n le within = refl

-- a set within so many units has as many as its extents together
pub count_within : (n : ℕ) (es : List Extent) → IsMaximal es → IsWithin es n → n ≤ 2 ^ 62 → count_below n (has_unit es) ≡ unit_count es
count_within n es m within le =
    let all : n + (2 ^ 62 - n) ≡ 2 ^ 62 = omega (arith, le) in
    let gap = count-gap n (2 ^ 62 - n) (has_unit es) (λ j from lt. none_above (has_unit es j) j n from (within j)) in
    sym gap ∙ (ap (λ (k : ℕ). count_below k (has_unit es)) all ∙ count-set 0 (2 ^ 62) es m (omega arith))

pub count_as : (n : ℕ) (f g : ℕ → Bool) → ((u : ℕ) → f u ≡ g u) → count_below n f ≡ count_below n g
count_as zero f g same = refl
count_as (suc n) f g same = let r = count_as n f g same in let s = ap one_if (same n) in omega (arith, r, s)

-- no unit beyond a number passes
pub count_beyond : (n m : ℕ) (f : ℕ → Bool) → m ≤ n → ((u : ℕ) → m ≤ u → f u ≡ false) → count_below n f ≡ count_below m f
count_beyond n m f le none =
    let all : m + (n - m) ≡ n = omega (arith, le) in
    ap (λ (k : ℕ). count_below k f) (sym all) ∙ count-gap m (n - m) f (λ j from lt. none j from)

-- a unit that the device has not is none
pub absent_in : (x : Uses) (u : ℕ) → x.units ≤ u → role_in x u ≡ Absent
absent_in x u past = grind (arith, nat_tests, past)

-- the sets of a device, counted unit by unit
abbrev pub freed_below : ℕ → Freed → ℕ
freed_below n f = count_below n (has_unit f.blocks) + count_below n (has_unit f.meta)

abbrev pub use_below : ℕ → Uses → ℕ
use_below n x = count_below n (has_unit x.held) + freed_below n x.freed + freed_below n x.late1 + freed_below n x.late2 + count_below n (has_unit x.meta) + count_below n (has_unit x.saved)

-- units of which each is once free or in one of the sets
partition : (n : ℕ) (f : ℕ → Bool) (x : Uses) → ((u : ℕ) → u < n → one_if (f u) + use_hits x u ≡ 1) → count_below n f + use_below n x ≡ n
partition zero f x once = refl
partition (suc n) f x once = let r = partition n f x (λ u lt. once u (omega (arith, lt))) in let o = once n (omega arith) in omega (arith, r, o)

-- a kind of units that are those of some of the sets
pub allocated_below : (n : ℕ) (x : Uses) → ((u : ℕ) → u < n → one_if (is_allocated_role (role_in x u)) + one_if (has_unit x.kept u) ≡ one_if (has_unit x.held u) + one_if (has_unit x.meta u) + one_if (has_unit x.saved u)) → count_below n (λ u. is_allocated_role (role_in x u)) + count_below n (has_unit x.kept) ≡ count_below n (has_unit x.held) + count_below n (has_unit x.meta) + count_below n (has_unit x.saved)
allocated_below zero x same = refl
allocated_below (suc n) x same = let r = allocated_below n x (λ u lt. same u (omega (arith, lt))) in let s = same n (omega arith) in omega (arith, r, s)

pub deferred_below : (n : ℕ) (x : Uses) → ((u : ℕ) → u < n → one_if (is_deferred_role (role_in x u)) + (one_if (has_unit x.held u) + one_if (has_unit x.meta u) + one_if (has_unit x.saved u)) ≡ use_hits x u) → count_below n (λ u. is_deferred_role (role_in x u)) + (count_below n (has_unit x.held) + count_below n (has_unit x.meta) + count_below n (has_unit x.saved)) ≡ use_below n x
deferred_below zero x same = refl
deferred_below (suc n) x same = let r = deferred_below n x (λ u lt. same u (omega (arith, lt))) in let s = same n (omega arith) in omega (arith, r, s)

module _ (f : ℕ → Bool) (m : ℕ) (x : Uses) (a : IsAccount f m x) where
  once_below : (u : ℕ) → u < x.units → one_if (f u) + use_hits x u ≡ 1
  once_below u lt = let o = a.once u in grind (arith, nat_tests, o, lt)

  pub held_in : IsWithin x.held x.units
  held_in u is = let o = a.once u in grind (arith, nat_tests, o, is)

  pub meta_in : IsWithin x.meta x.units
  meta_in u is = let o = a.once u in grind (arith, nat_tests, o, is)

  pub saved_in : IsWithin x.saved x.units
  saved_in u is = let o = a.once u in grind (arith, nat_tests, o, is)

  pub freed_blocks_in : IsWithin x.freed.blocks x.units
  freed_blocks_in u is = let o = a.once u in grind (arith, nat_tests, o, is)

  pub freed_meta_in : IsWithin x.freed.meta x.units
  freed_meta_in u is = let o = a.once u in grind (arith, nat_tests, o, is)

  late1_blocks_in : IsWithin x.late1.blocks x.units
  late1_blocks_in u is = let o = a.once u in grind (arith, nat_tests, o, is)

  late1_meta_in : IsWithin x.late1.meta x.units
  late1_meta_in u is = let o = a.once u in grind (arith, nat_tests, o, is)

  late2_blocks_in : IsWithin x.late2.blocks x.units
  late2_blocks_in u is = let o = a.once u in grind (arith, nat_tests, o, is)

  late2_meta_in : IsWithin x.late2.meta x.units
  late2_meta_in u is = let o = a.once u in grind (arith, nat_tests, o, is)

  small : x.units ≤ 2 ^ 62
  small = let s = a.small in omega (arith, s)

  count_held : count_below x.units (has_unit x.held) ≡ unit_count x.held
  count_held = count_within x.units x.held a.lists.held held_in small

  kept_in : IsWithin x.kept x.units
  kept_in u is = held_in u (a.keeping.held u is)

  count_kept : count_below x.units (has_unit x.kept) ≡ unit_count x.kept
  count_kept = count_within x.units x.kept a.lists.kept kept_in small

  count_meta : count_below x.units (has_unit x.meta) ≡ unit_count x.meta
  count_meta = count_within x.units x.meta a.lists.meta meta_in small

  count_saved : count_below x.units (has_unit x.saved) ≡ unit_count x.saved
  count_saved = count_within x.units x.saved a.lists.saved saved_in small

  counted : use_below x.units x ≡ use_count x
  counted =
      let fb = count_within x.units x.freed.blocks a.lists.freed.blocks freed_blocks_in small in
      let fm = count_within x.units x.freed.meta a.lists.freed.meta freed_meta_in small in
      let ab = count_within x.units x.late1.blocks a.lists.late1.blocks late1_blocks_in small in
      let am = count_within x.units x.late1.meta a.lists.late1.meta late1_meta_in small in
      let bb = count_within x.units x.late2.blocks a.lists.late2.blocks late2_blocks_in small in
      let bm = count_within x.units x.late2.meta a.lists.late2.meta late2_meta_in small in
      omega (arith, count_held, count_meta, count_saved, fb, fm, ab, am, bb, bm)

  -- as many units are free as the allocator has
  pub free_count : count_below x.units f ≡ m
  free_count = let p = partition x.units f x once_below in let c = counted in let s = a.sum in omega (arith, p, c, s)

  -- kept units are in use, and not allocated
  pub allocated_count : count_below x.units (λ u. is_allocated_role (role_in x u)) + unit_count x.kept ≡ unit_count x.held + unit_count x.meta + unit_count x.saved
  allocated_count =
      let p = allocated_below x.units x (λ u lt. let o = a.once u in let k = a.keeping.held u in grind (arith, nat_tests, o, k, lt)) in
      omega (arith, p, count_held, count_kept, count_meta, count_saved)

  pub deferred_count : count_below x.units (λ u. is_deferred_role (role_in x u)) ≡ freed_count x.freed + freed_count x.late1 + freed_count x.late2
  deferred_count =
      let p = deferred_below x.units x (λ u lt. let o = a.once u in grind (arith, nat_tests, o, lt)) in
      omega (arith, p, count_held, count_meta, count_saved, counted)

  pub kept_is : (u : ℕ) → is_kept_role (role_in x u) ≡ has_unit x.kept u
  kept_is u = let o = a.once u in let k = a.keeping.held u in grind (arith, nat_tests, o, k)

  pub kept_count : count_below x.units (λ u. is_kept_role (role_in x u)) ≡ unit_count x.kept
  kept_count = count_as x.units (λ u. is_kept_role (role_in x u)) (has_unit x.kept) kept_is ∙ count_kept
