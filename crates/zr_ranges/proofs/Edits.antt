-- The edits of add_run, remove_run and take_front_run, as the code makes them.
use Rattle.std.proofs.Common.{◌≡◌, ℕ, zero, suc, ◌+◌, ◌-◌, ◌<◌, ◌≤◌, ◌^◌, List, length, set, take, drop, refl, sym, subst, ap, arith, add-one, sub-one}
use Rattle.std.specs.Prelude.{insert, remove}
use Rattle.std.proofs.lemmas.Grind.{common_steps}
use Rattle.zr_base.specs.declared.space.Extent.{Extent}
use Rattle.zr_base.specs.Extents.{extent_at, end_of, IsMaximal, HasAll, HasNone, AddsUnits, RemovesUnits, EndsBy, unit_count}
use Rattle.zr_base.proofs.ExtentSets.{EndsBelow, StartsAbove, AddsFrom, RemovesFrom, insert_adds, set_adds_after, set_adds_before, join_adds, remove_removes, set_removes_end, set_removes_start, split_removes, ends_below-front, apart_starts_from, starts_above-ne, within-has_all, unit_count-le}

abbrev none : Extent
none = record { start = 0; len = 0 }

pub adds : (xs ys : List Extent) (e : Extent) → AddsFrom 0 xs ys e → AddsUnits xs ys e
adds xs ys e s = record { members = s.members; count = s.count; maximal = s.maximal }

pub removes : (xs ys : List Extent) (e : Extent) → RemovesFrom 0 xs ys e → RemovesUnits xs ys e
removes xs ys e s = record { members = s.members; count = s.count; maximal = s.maximal }

-- the place of a new extent, and that it touches none of the set
pub record IsPlace (xs : List Extent) (e : Extent) (i : ℕ) : Type 0 where
  pub maximal : IsMaximal xs
  pub not_empty : 0 < e.len
  pub in_range : e.start + e.len ≤ 2 ^ 62
  pub apart : HasNone xs e
  pub within : i ≤ length xs
  pub below : EndsBy e.start (take i xs)
  pub above : i < length xs → e.start < end_of (extent_at xs i)

below_front : (xs : List Extent) (e : Extent) (i : ℕ) → IsPlace xs e i → ((0 < i) × (end_of (extent_at xs (i - 1)) ≡ e.start) → ⊥) → EndsBelow e.start (take i xs)
below_front xs e zero p ne = tt
below_front xs e (suc j) p ne =
    ends_below-front 0 e.start j xs none p.maximal p.within p.below (λ same. ne (omega arith, rw sub-one same))

above_back : (xs : List Extent) (e : Extent) (i : ℕ) → IsPlace xs e i → ((i < length xs) × ((extent_at xs i).start ≡ e.start + e.len) → ⊥) → StartsAbove (e.start + e.len) (drop i xs)
above_back xs e i p ne =
    starts_above-ne (e.start + e.len) i xs none (apart_starts_from 0 i xs e none p.maximal p.above p.not_empty p.apart) (λ h same. ne (h, same))

pub adds-insert : (xs : List Extent) (e : Extent) (i : ℕ) → IsPlace xs e i → ((0 < i) × (end_of (extent_at xs (i - 1)) ≡ e.start) → ⊥) → ((i < length xs) × ((extent_at xs i).start ≡ e.start + e.len) → ⊥) → AddsUnits xs (insert xs i e) e
adds-insert xs e i p left right =
    adds _ _ _ (insert_adds 0 i xs e p.maximal (omega arith) (below_front xs e i p left) (above_back xs e i p right) p.not_empty p.in_range)

pub adds-after : (xs : List Extent) (e l : Extent) (i : ℕ) → IsPlace xs e i → (0 < i) × (end_of (extent_at xs (i - 1)) ≡ e.start) → ((i < length xs) × ((extent_at xs i).start ≡ e.start + e.len) → ⊥) → extent_at xs (i - 1) ≡ l → AddsUnits xs (set xs (i - 1) (record { start = l.start; len = l.len + e.len })) e
adds-after xs e l zero p left right l_is = absurd (omega (arith, left.0))
adds-after xs e l (suc j) p left right l_is =
    subst (λ (r : Extent). AddsUnits xs (set xs (suc j - 1) (record { start = r.start; len = r.len + e.len })) e) l_is
    (rw sub-one (adds _ _ _ (set_adds_after 0 j xs e none p.maximal (omega (arith, p.within)) (rw sub-one at left.1) (above_back xs e (suc j) p right) p.in_range)))

pub adds-before : (xs : List Extent) (e r : Extent) (i : ℕ) → IsPlace xs e i → ((0 < i) × (end_of (extent_at xs (i - 1)) ≡ e.start) → ⊥) → (i < length xs) × ((extent_at xs i).start ≡ e.start + e.len) → extent_at xs i ≡ r → AddsUnits xs (set xs i (record { start = e.start; len = e.len + r.len })) e
adds-before xs e r i p left right r_is =
    subst (λ (r : Extent). AddsUnits xs (set xs i (record { start = e.start; len = e.len + r.len })) e) r_is
    (adds _ _ _ (set_adds_before 0 i xs e none p.maximal right.0 (omega arith) (below_front xs e i p left) (sym right.1)))

pub adds-join : (xs : List Extent) (e l r : Extent) (i : ℕ) → IsPlace xs e i → (0 < i) × (end_of (extent_at xs (i - 1)) ≡ e.start) → (i < length xs) × ((extent_at xs i).start ≡ e.start + e.len) → extent_at xs (i - 1) ≡ l → extent_at xs i ≡ r → AddsUnits xs (remove (set xs (i - 1) (record { start = l.start; len = l.len + e.len + r.len })) i) e
adds-join xs e l r zero p left right l_is r_is = absurd (omega (arith, left.0))
adds-join xs e l r (suc j) p left right l_is r_is =
    subst (λ (s : Extent). AddsUnits xs (remove (set xs (suc j - 1) (record { start = s.start; len = s.len + e.len + r.len })) (suc j)) e) l_is
    (subst (λ (t : Extent). AddsUnits xs (remove (set xs (suc j - 1) (record { start = (extent_at xs (suc j - 1)).start; len = (extent_at xs (suc j - 1)).len + e.len + t.len })) (suc j)) e) r_is
    (rw sub-one (adds _ _ _ (join_adds 0 j xs e none p.maximal right.0 (rw sub-one at left.1) (sym right.1)))))

-- the extent at i has all units of e
pub record IsHolder (xs : List Extent) (e r : Extent) (i : ℕ) : Type 0 where
  pub maximal : IsMaximal xs
  pub not_empty : 0 < e.len
  pub index : i < length xs
  pub value : extent_at xs i ≡ r

starts_of : (xs : List Extent) (e r : Extent) (i : ℕ) → IsHolder xs e r i → (extent_at xs i).start ≡ r.start
starts_of xs e r i h = ap (λ (t : Extent). t.start) h.value

len_of : (xs : List Extent) (e r : Extent) (i : ℕ) → IsHolder xs e r i → (extent_at xs i).len ≡ r.len
len_of xs e r i h = ap (λ (t : Extent). t.len) h.value

pub removes-whole : (xs : List Extent) (e r : Extent) (i : ℕ) → IsHolder xs e r i → r.start ≡ e.start → r.len ≡ e.len → RemovesUnits xs (remove xs i) e
removes-whole xs e r i h starts ends =
    removes _ _ _ (remove_removes 0 i xs e none h.maximal h.index (omega (arith, starts_of xs e r i h)) (omega (arith, len_of xs e r i h)))

pub removes-end : (xs : List Extent) (e r : Extent) (i : ℕ) → IsHolder xs e r i → r.start < e.start → e.start + e.len ≡ r.start + r.len → RemovesUnits xs (set xs i (record { start = r.start; len = e.start - r.start })) e
removes-end xs e r i h starts ends =
    subst (λ (t : Extent). RemovesUnits xs (set xs i (record { start = t.start; len = e.start - t.start })) e) h.value
    (removes _ _ _ (set_removes_end 0 i xs e none h.maximal h.index (omega (arith, starts_of xs e r i h)) (omega (arith, starts_of xs e r i h, len_of xs e r i h))))

pub removes-start : (xs : List Extent) (e r : Extent) (i : ℕ) → IsHolder xs e r i → r.start ≡ e.start → e.len < r.len → RemovesUnits xs (set xs i (record { start = e.start + e.len; len = r.start + r.len - (e.start + e.len) })) e
removes-start xs e r i h starts ends =
    let same : (extent_at xs i).len - e.len ≡ r.start + r.len - (e.start + e.len) = omega (arith, len_of xs e r i h) in
    subst (λ (n : ℕ). RemovesUnits xs (set xs i (record { start = e.start + e.len; len = n })) e) same
    (removes _ _ _ (set_removes_start 0 i xs e none h.maximal h.index (omega (arith, starts_of xs e r i h)) (omega (arith, len_of xs e r i h))))

pub removes-middle : (xs : List Extent) (e r : Extent) (i : ℕ) → IsHolder xs e r i → r.start < e.start → e.start + e.len < r.start + r.len → RemovesUnits xs (set (insert xs (i + 1) (record { start = e.start + e.len; len = r.start + r.len - (e.start + e.len) })) i (record { start = r.start; len = e.start - r.start })) e
removes-middle xs e r i h starts ends =
    subst (λ (t : Extent). RemovesUnits xs (set (insert xs (i + 1) (record { start = e.start + e.len; len = t.start + t.len - (e.start + e.len) })) i (record { start = t.start; len = e.start - t.start })) e) h.value
    (rw add-one (removes _ _ _ (split_removes 0 i xs e none h.maximal h.index (omega (arith, starts_of xs e r i h)) (omega (arith, starts_of xs e r i h, len_of xs e r i h)) h.not_empty)))

pub removes-front : (xs : List Extent) (r : Extent) (n i : ℕ) → IsMaximal xs → i < length xs → extent_at xs i ≡ r → n < r.len → RemovesUnits xs (set xs i (record { start = r.start + n; len = r.len - n })) (record { start = r.start; len = n })
removes-front xs r n i m some r_is lt =
    subst (λ (t : Extent). RemovesUnits xs (set xs i (record { start = t.start + n; len = t.len - n })) (record { start = t.start; len = n })) r_is
    (removes _ _ _ (set_removes_start 0 i xs (record { start = (extent_at xs i).start; len = n }) none m some refl (omega (arith, ap (λ (t : Extent). t.len) r_is))))

-- the set has all units of a front of one of its extents
pub has_all-front : (xs : List Extent) (r : Extent) (n i : ℕ) → i < length xs → extent_at xs i ≡ r → n ≤ r.len → HasAll xs (record { start = r.start; len = n })
has_all-front xs r n i some r_is le =
    within-has_all i xs (record { start = r.start; len = n }) none
    (record { index = some; starts = omega (arith, ap (λ (t : Extent). t.start) r_is); ends = omega (arith, ap (λ (t : Extent). t.start) r_is, ap (λ (t : Extent). t.len) r_is) })

-- no more units than there are below 2 ^ 62
pub count_bound : (xs : List Extent) → IsMaximal xs → unit_count xs ≤ 2 ^ 62
count_bound xs m =
    let le : unit_count (take (length xs) xs) ≤ 2 ^ 62 - 0 = unit_count-le 0 (length xs) xs m in
    grind (arith, common_steps, le)
