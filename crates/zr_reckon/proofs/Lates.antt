-- Late sets by roles, and the words of a device from those of its sets.
use Rattle.std.proofs.Common.{◌≡◌, ℕ, ◌+◌, ◌*◌, ◌≤◌, Bool, true, false, ◌||◌, max, List, [], ◌∷◌, length, refl, ◌∙◌, sym, ap, ap₂, arith}
use Rattle.std.specs.List.{sum_by}
use Rattle.std.proofs.lemmas.Bool.Decides.{nat_tests}
use Rattle.zr_base.specs.declared.space.Dva.{Dva}
use Rattle.zr_base.specs.declared.space.LateRun.{LateRun}
use Rattle.zr_base.specs.Extents.{in_extent, has_unit}
use Rattle.zr_base.proofs.ExtentSets.{same_extents}
use Rattle.zr_rules.specs.Owed.{set_words}
use Rattle.zr_rules.specs.Places.{part_of, units_of_dev}
use Rattle.zr_rules.specs.Space.{Space, opened_of, has_late, role_at, IsLawful}
use Rattle.zr_rules.specs.Columns.{role_count, late_blocks, late_meta_units, late1_meta, late2_meta, on_parts, on_devices, units_on, device_words, sizes}
use Rattle.zr_reckon.specs.Uses.{HasLateSets}
use Rattle.zr_reckon.proofs.Bits.{is_late1_block, is_late2_block, is_late1_meta, is_late2_meta}
use Rattle.zr_reckon.proofs.RoleSets.{late1_is, late2_is, late1_meta_is, late2_meta_is}
use Rattle.zr_reckon.proofs.RoomUnits.{late_counted}
use Rattle.zr_reckon.proofs.Counting.{count_as}
use Rattle.zr_reckon.proofs.Frames.{words_same, count_same, sum_same, on_sum_same, on_same}

-- the units of a late set's blocks
late_unit : (runs : List LateRun) (u : ℕ) → has_unit (late_blocks runs) u ≡ has_late false runs u
late_unit [] u = refl
late_unit (r ∷ runs) u = by_kind r.meta refl (late_unit runs u)
  where
    by_kind : (b : Bool) → r.meta ≡ b → has_unit (late_blocks runs) u ≡ has_late false runs u → has_unit (late_blocks (r ∷ runs)) u ≡ has_late false (r ∷ runs) u
    by_kind true is rest = rw is rest
    by_kind false is rest = rw is (ap (λ (b : Bool). in_extent r.at u || b) rest)

pub late1_unit : (s : Space) (d u : ℕ) → IsLawful s → has_unit (late_blocks (part_of s.parts.devs d).late1) u ≡ is_late1_block (role_at s d u)
late1_unit s d u l = late_unit (part_of s.parts.devs d).late1 u ∙ late1_is s d u l

pub late2_unit : (s : Space) (d u : ℕ) → IsLawful s → has_unit (late_blocks (part_of s.parts.devs d).late2) u ≡ is_late2_block (role_at s d u)
late2_unit s d u l = late_unit (part_of s.parts.devs d).late2 u ∙ late2_is s d u l

-- the metadata of a late set, counted
pub late1_count : (s : Space) (d : ℕ) → IsLawful s → late_meta_units (part_of s.parts.devs d).late1 ≡ role_count s is_late1_meta d
late1_count s d l =
    late_counted (part_of s.parts.devs d).late1 (units_of_dev s.parts.devs d) (λ u. let o = l.once d u in grind (arith, nat_tests, o))
    ∙ count_as (units_of_dev s.parts.devs d) (has_late true (part_of s.parts.devs d).late1) (λ u. is_late1_meta (role_at s d u)) (λ u lt. late1_meta_is s d u l)

pub late2_count : (s : Space) (d : ℕ) → IsLawful s → late_meta_units (part_of s.parts.devs d).late2 ≡ role_count s is_late2_meta d
late2_count s d l =
    late_counted (part_of s.parts.devs d).late2 (units_of_dev s.parts.devs d) (λ u. let o = l.once d u in grind (arith, nat_tests, o))
    ∙ count_as (units_of_dev s.parts.devs d) (has_late true (part_of s.parts.devs d).late2) (λ u. is_late2_meta (role_at s d u)) (λ u lt. late2_meta_is s d u l)

module _ (old new : Space) (l : IsLawful old) (m : IsLawful new) (h : HasLateSets old) (k : HasLateSets new) where
  pub late1_same : (d : ℕ) → ((u : ℕ) → is_late1_block (role_at new d u) ≡ is_late1_block (role_at old d u)) → late_blocks (part_of new.parts.devs d).late1 ≡ late_blocks (part_of old.parts.devs d).late1
  late1_same d same = same_extents 0 0 _ _ (k.late1 d) (h.late1 d) (λ u. late1_unit new d u m ∙ (same u ∙ sym (late1_unit old d u l)))

  pub late2_same : (d : ℕ) → ((u : ℕ) → is_late2_block (role_at new d u) ≡ is_late2_block (role_at old d u)) → late_blocks (part_of new.parts.devs d).late2 ≡ late_blocks (part_of old.parts.devs d).late2
  late2_same d same = same_extents 0 0 _ _ (k.late2 d) (h.late2 d) (λ u. late2_unit new d u m ∙ (same u ∙ sym (late2_unit old d u l)))

-- the counts of metadata, where no unit's role changes that is metadata of a late set
module _ (old new : Space) (l : IsLawful old) (m : IsLawful new) (count : length new.parts.devs ≡ length old.parts.devs) (rows : (d : ℕ) → (part_of new.parts.devs d).row ≡ (part_of old.parts.devs d).row) (meta : new.meta ≡ old.meta)
    (first : (d u : ℕ) → is_late1_meta (role_at new d u) ≡ is_late1_meta (role_at old d u)) (second : (d u : ℕ) → is_late2_meta (role_at new d u) ≡ is_late2_meta (role_at old d u)) where
  first_same : (d : ℕ) → late_meta_units (part_of new.parts.devs d).late1 ≡ late_meta_units (part_of old.parts.devs d).late1
  first_same d = late1_count new d m ∙ (count_same old new count rows is_late1_meta d (first d) ∙ sym (late1_count old d l))

  second_same : (d : ℕ) → late_meta_units (part_of new.parts.devs d).late2 ≡ late_meta_units (part_of old.parts.devs d).late2
  second_same d = late2_count new d m ∙ (count_same old new count rows is_late2_meta d (second d) ∙ sym (late2_count old d l))

  pub turning_same : (blocks objects : ℕ) → (sizes new blocks objects).turning ≡ (sizes old blocks objects).turning
  turning_same blocks objects =
      let a : sum_by (units_on new.meta) (on_devices new) ≡ sum_by (units_on old.meta) (on_devices old) = ap₂ (λ ms ds. sum_by (units_on ms) ds) meta (on_same old new count rows) in
      let b : late1_meta (on_parts new.parts.devs) ≡ late1_meta (on_parts old.parts.devs) = on_sum_same old new count rows (λ p. late_meta_units p.late1) first_same in
      let c : late2_meta (on_parts new.parts.devs) ≡ late2_meta (on_parts old.parts.devs) = on_sum_same old new count rows (λ p. late_meta_units p.late2) second_same in
      ap₂ (λ (x y : ℕ). x + y) (ap₂ (λ (x y : ℕ). x + y) a b) c

  pub past_same : (blocks objects : ℕ) → (sizes new blocks objects).past ≡ (sizes old blocks objects).past
  past_same blocks objects =
      let a : sum_by (λ (x : Dva). x.len) new.meta ≡ sum_by (λ (x : Dva). x.len) old.meta = ap (sum_by (λ (x : Dva). x.len)) meta in
      let b : late1_meta new.parts.devs ≡ late1_meta old.parts.devs = sum_same old new count rows (λ p. late_meta_units p.late1) first_same in
      let c : late2_meta new.parts.devs ≡ late2_meta old.parts.devs = sum_same old new count rows (λ p. late_meta_units p.late2) second_same in
      ap₂ max a (ap₂ max b c)

-- the words of a device, from those of its sets
pub compare : (old new : Space) (d h k n f e : ℕ) → new.parts.version ≡ old.parts.version
    → set_words old.parts.version (part_of new.parts.devs d).held ≤ set_words old.parts.version (part_of old.parts.devs d).held + h
    → set_words old.parts.version (part_of new.parts.devs d).kept ≤ set_words old.parts.version (part_of old.parts.devs d).kept + k
    → length (part_of new.parts.devs d).entries ≤ length (part_of old.parts.devs d).entries + n
    → set_words old.parts.version (part_of new.parts.devs d).fresh ≤ set_words old.parts.version (part_of old.parts.devs d).fresh + f
    → set_words old.parts.version (opened_of new d).deferred ≤ set_words old.parts.version (opened_of old d).deferred + e
    → set_words old.parts.version (late_blocks (part_of new.parts.devs d).late1) ≤ set_words old.parts.version (late_blocks (part_of old.parts.devs d).late1)
    → set_words old.parts.version (late_blocks (part_of new.parts.devs d).late2) ≤ set_words old.parts.version (late_blocks (part_of old.parts.devs d).late2)
    → device_words new d ≤ device_words old d + (h + 3 * k + 8 * n + f + e)
compare old new d h k n f e version held kept entries fresh deferred late1 late2 =
    let v = old.parts.version in
    let w = new.parts.version in
    let a1 = words_same w v (part_of new.parts.devs d).held _ version refl in
    let a2 = words_same w v (part_of new.parts.devs d).kept _ version refl in
    let a3 = words_same w v (part_of new.parts.devs d).fresh _ version refl in
    let a4 = words_same w v (opened_of new d).deferred _ version refl in
    let a5 = words_same w v (late_blocks (part_of new.parts.devs d).late1) _ version refl in
    let a6 = words_same w v (late_blocks (part_of new.parts.devs d).late2) _ version refl in
    omega (arith, a1, a2, a3, a4, a5, a6, held, kept, entries, fresh, deferred, late1, late2)
