-- What an edit of a list of maximal extents does to its set.
use Rattle.std.proofs.Common.{◌≡◌, ℕ, zero, suc, ◌+◌, ◌-◌, ◌<◌, ◌≤◌, ◌^◌, Bool, true, false, not, ◌&&◌, ◌||◌, List, [], ◌∷◌, length, get_or, set, take, drop, max, Some, None, refl, ap, ◌∙◌, arith, add-one, ⊎_elim, ap₂, subst, sym}
use Rattle.std.specs.Prelude.{insert, remove}
use Rattle.std.proofs.lemmas.Bool.Decides.{nat_tests}
use Rattle.std.proofs.lemmas.Bool.{cases_lt, or_parts, or_left, or_right, le-ltb, lt-leb, le-leb}
use Rattle.zr_base.specs.declared.space.Extent.{Extent}
use Rattle.zr_base.specs.Extents.{in_extent, has_unit, unit_count, IsMaximalFrom, HasAll, HasNone, part_from, first_part_from, longest_len, EndsBy, IsFirstPart}

-- each extent ends below the unit
abbrev pub EndsBelow : ℕ → List Extent → Type 0
EndsBelow u [] = Unit {0}
EndsBelow u (e ∷ es) = (e.start + e.len < u) × EndsBelow u es

-- the first extent, if there is one, starts above the unit
abbrev pub StartsAbove : ℕ → List Extent → Type 0
StartsAbove u [] = Unit {0}
StartsAbove u (e ∷ es) = u < e.start

-- the same, or at it
abbrev pub StartsFrom : ℕ → List Extent → Type 0
StartsFrom u [] = Unit {0}
StartsFrom u (e ∷ es) = u ≤ e.start

or_assoc : (x y z : Bool) → (x || (y || z)) ≡ ((x || y) || z)
or_assoc true y z = refl
or_assoc false y z = refl

or_comm : (x y : Bool) → (x || y) ≡ (y || x)
or_comm true true = refl
or_comm true false = refl
or_comm false true = refl
or_comm false false = refl

-- a unit below the first extent is not in the set
pub has_unit-below : (low u : ℕ) (xs : List Extent) → IsMaximalFrom low xs → u < low → has_unit xs u ≡ false
has_unit-below low u [] m h = refl
has_unit-below low u (x ∷ xs) m h = grind (arith, nat_tests, has_unit-below (x.start + x.len + 1) u xs m.3 (omega arith))

pub raised : (low high : ℕ) (xs : List Extent) → IsMaximalFrom low xs → StartsFrom high xs → IsMaximalFrom high xs
raised low high [] m h = tt
raised low high (x ∷ xs) m h = (h, m.1, m.2, m.3)

-- the change of `AddsUnits`, for extents from `low` on
pub record AddsFrom (low : ℕ) (old new : List Extent) (e : Extent) : Type 0 where
  pub members : (u : ℕ) → has_unit new u ≡ (has_unit old u || in_extent e u)
  pub count : unit_count new ≡ unit_count old + e.len
  pub maximal : IsMaximalFrom low new

adds_under : (low : ℕ) (h : Extent) (old new : List Extent) (e : Extent) → low ≤ h.start → 0 < h.len → h.start + h.len ≤ 2 ^ 62 → AddsFrom (h.start + h.len + 1) old new e → AddsFrom low (h ∷ old) (h ∷ new) e
adds_under low h old new e a b c s = record {
  members = λ u. ap (λ t. in_extent h u || t) (s.members u) ∙ or_assoc (in_extent h u) (has_unit old u) (in_extent e u);
  count = omega (arith, s.count);
  maximal = (a, b, c, s.maximal);
}

-- an extent that touches no other is inserted
pub insert_adds : (low i : ℕ) (xs : List Extent) (e : Extent) → IsMaximalFrom low xs → low ≤ e.start → EndsBelow e.start (take i xs) → StartsAbove (e.start + e.len) (drop i xs) → 0 < e.len → e.start + e.len ≤ 2 ^ 62 → AddsFrom low xs (insert xs i e) e
insert_adds low zero [] e m l below above n fits = record { members = λ u. or_comm (in_extent e u) false; count = omega arith; maximal = (l, n, fits, tt) }
insert_adds low (suc i) [] e m l below above n fits = record { members = λ u. or_comm (in_extent e u) false; count = omega arith; maximal = (l, n, fits, tt) }
insert_adds low zero (x ∷ xs) e m l below above n fits = record {
  members = λ u. or_comm (in_extent e u) (has_unit (x ∷ xs) u);
  count = omega arith;
  maximal = (l, n, fits, (omega arith, m.1, m.2, m.3));
}
insert_adds low (suc i) (x ∷ xs) e m l below above n fits =
    adds_under low x xs (insert xs i e) e m.0 m.1 m.2 (insert_adds (x.start + x.len + 1) i xs e m.3 (omega arith) below.1 above n fits)

pub starts_after : (u v : ℕ) (xs : List Extent) → StartsAbove u xs → v ≤ u + 1 → StartsFrom v xs
starts_after u v [] above le = tt
starts_after u v (x ∷ xs) above le = omega arith

pub starts_again : (low v : ℕ) (xs : List Extent) → IsMaximalFrom low xs → v ≤ low → StartsFrom v xs
starts_again low v [] m le = tt
starts_again low v (x ∷ xs) m le = omega arith

-- an extent that another ends at is joined to that one
pub set_adds_after : (low j : ℕ) (xs : List Extent) (e d : Extent) → IsMaximalFrom low xs → j < length xs → (get_or xs j d).start + (get_or xs j d).len ≡ e.start → StartsAbove (e.start + e.len) (drop (suc j) xs) → e.start + e.len ≤ 2 ^ 62 → AddsFrom low xs (set xs j (record { start = (get_or xs j d).start; len = (get_or xs j d).len + e.len })) e
set_adds_after low j [] e d m j_in meets above fits = absurd (omega arith)
set_adds_after low zero (x ∷ xs) e d m j_in meets above fits = record {
  members = λ u. grind (arith, nat_tests);
  count = omega arith;
  maximal = (m.0, omega arith, omega arith, raised (x.start + x.len + 1) (x.start + (x.len + e.len) + 1) xs m.3 (starts_after (e.start + e.len) _ xs above (omega arith)));
}
set_adds_after low (suc j) (x ∷ xs) e d m j_in meets above fits =
    adds_under low x xs _ e m.0 m.1 m.2 (set_adds_after (x.start + x.len + 1) j xs e d m.3 (omega arith) meets above fits)

-- an extent that ends where another starts is joined to that one
pub set_adds_before : (low i : ℕ) (xs : List Extent) (e d : Extent) → IsMaximalFrom low xs → i < length xs → low ≤ e.start → EndsBelow e.start (take i xs) → e.start + e.len ≡ (get_or xs i d).start → AddsFrom low xs (set xs i (record { start = e.start; len = e.len + (get_or xs i d).len })) e
set_adds_before low i [] e d m i_in l below meets = absurd (omega arith)
set_adds_before low zero (x ∷ xs) e d m i_in l below meets = record {
  members = λ u. grind (arith, nat_tests);
  count = omega arith;
  maximal = (l, omega arith, omega arith, raised (x.start + x.len + 1) _ xs m.3 (starts_again (x.start + x.len + 1) _ xs m.3 (omega arith)));
}
set_adds_before low (suc i) (x ∷ xs) e d m i_in l below meets =
    adds_under low x xs _ e m.0 m.1 m.2 (set_adds_before (x.start + x.len + 1) i xs e d m.3 (omega arith) (omega arith) below.1 meets)

-- an extent between two that it touches joins all three
pub join_adds : (low j : ℕ) (xs : List Extent) (e d : Extent) → IsMaximalFrom low xs → suc j < length xs → (get_or xs j d).start + (get_or xs j d).len ≡ e.start → e.start + e.len ≡ (get_or xs (suc j) d).start → AddsFrom low xs (remove (set xs j (record { start = (get_or xs j d).start; len = (get_or xs j d).len + e.len + (get_or xs (suc j) d).len })) (suc j)) e
join_adds low j [] e d m j_in after before = absurd (omega arith)
join_adds low zero (x ∷ []) e d m j_in after before = absurd (omega arith)
join_adds low zero (x ∷ (y ∷ xs)) e d m j_in after before = record {
  members = λ u. grind (arith, nat_tests);
  count = omega arith;
  maximal = (m.0, omega arith, omega arith, raised (y.start + y.len + 1) _ xs m.3.3 (starts_again (y.start + y.len + 1) _ xs m.3.3 (omega arith)));
}
join_adds low (suc j) (x ∷ xs) e d m j_in after before =
    adds_under low x xs _ e m.0 m.1 m.2 (join_adds (x.start + x.len + 1) j xs e d m.3 (omega arith) after before)

-- the change of `RemovesUnits`, for extents from `low` on
pub record RemovesFrom (low : ℕ) (old new : List Extent) (e : Extent) : Type 0 where
  pub members : (u : ℕ) → has_unit new u ≡ (has_unit old u && not (in_extent e u))
  pub count : unit_count new + e.len ≡ unit_count old
  pub maximal : IsMaximalFrom low new

removes_under : (low : ℕ) (h : Extent) (old new : List Extent) (e : Extent) → low ≤ h.start → 0 < h.len → h.start + h.len ≤ 2 ^ 62 → h.start + h.len ≤ e.start → RemovesFrom (h.start + h.len + 1) old new e → RemovesFrom low (h ∷ old) (h ∷ new) e
removes_under low h old new e a b c apart s = record {
  members = λ u. grind (arith, nat_tests, s.members u);
  count = omega (arith, s.count);
  maximal = (a, b, c, s.maximal);
}

pub low_le_start : (low i : ℕ) (xs : List Extent) (d : Extent) → IsMaximalFrom low xs → i < length xs → low ≤ (get_or xs i d).start
low_le_start low i [] d m i_in = absurd (omega arith)
low_le_start low zero (x ∷ xs) d m i_in = m.0
low_le_start low (suc i) (x ∷ xs) d m i_in = omega (arith, low_le_start (x.start + x.len + 1) i xs d m.3 (omega arith))

-- a whole extent is taken out
pub remove_removes : (low i : ℕ) (xs : List Extent) (e d : Extent) → IsMaximalFrom low xs → i < length xs → (get_or xs i d).start ≡ e.start → (get_or xs i d).len ≡ e.len → RemovesFrom low xs (remove xs i) e
remove_removes low i [] e d m i_in starts ends = absurd (omega arith)
remove_removes low zero (x ∷ xs) e d m i_in starts ends = record {
  members = λ u. grind (arith, nat_tests, has_unit-below (x.start + x.len + 1) u xs m.3);
  count = omega arith;
  maximal = raised (x.start + x.len + 1) low xs m.3 (starts_again (x.start + x.len + 1) low xs m.3 (omega arith));
}
remove_removes low (suc i) (x ∷ xs) e d m i_in starts ends =
    removes_under low x xs (remove xs i) e m.0 m.1 m.2 (omega (arith, low_le_start (x.start + x.len + 1) i xs d m.3)) (remove_removes (x.start + x.len + 1) i xs e d m.3 (omega arith) starts ends)

-- the end of an extent is taken out
pub set_removes_end : (low i : ℕ) (xs : List Extent) (e d : Extent) → IsMaximalFrom low xs → i < length xs → (get_or xs i d).start < e.start → e.start + e.len ≡ (get_or xs i d).start + (get_or xs i d).len → RemovesFrom low xs (set xs i (record { start = (get_or xs i d).start; len = e.start - (get_or xs i d).start })) e
set_removes_end low i [] e d m i_in starts ends = absurd (omega arith)
set_removes_end low zero (x ∷ xs) e d m i_in starts ends = record {
  members = λ u. grind (arith, nat_tests, has_unit-below (x.start + x.len + 1) u xs m.3);
  count = omega arith;
  maximal = (m.0, omega arith, omega arith, raised (x.start + x.len + 1) _ xs m.3 (starts_again (x.start + x.len + 1) _ xs m.3 (omega arith)));
}
set_removes_end low (suc i) (x ∷ xs) e d m i_in starts ends =
    removes_under low x xs _ e m.0 m.1 m.2 (omega (arith, low_le_start (x.start + x.len + 1) i xs d m.3)) (set_removes_end (x.start + x.len + 1) i xs e d m.3 (omega arith) starts ends)

-- the start of an extent is taken out
pub set_removes_start : (low i : ℕ) (xs : List Extent) (e d : Extent) → IsMaximalFrom low xs → i < length xs → (get_or xs i d).start ≡ e.start → e.len < (get_or xs i d).len → RemovesFrom low xs (set xs i (record { start = e.start + e.len; len = (get_or xs i d).len - e.len })) e
set_removes_start low i [] e d m i_in starts ends = absurd (omega arith)
set_removes_start low zero (x ∷ xs) e d m i_in starts ends = record {
  members = λ u. grind (arith, nat_tests, has_unit-below (x.start + x.len + 1) u xs m.3);
  count = omega arith;
  maximal = (omega arith, omega arith, omega arith, raised (x.start + x.len + 1) _ xs m.3 (starts_again (x.start + x.len + 1) _ xs m.3 (omega arith)));
}
set_removes_start low (suc i) (x ∷ xs) e d m i_in starts ends =
    removes_under low x xs _ e m.0 m.1 m.2 (omega (arith, low_le_start (x.start + x.len + 1) i xs d m.3)) (set_removes_start (x.start + x.len + 1) i xs e d m.3 (omega arith) starts ends)

-- the middle of an extent is taken out
pub split_removes : (low i : ℕ) (xs : List Extent) (e d : Extent) → IsMaximalFrom low xs → i < length xs → (get_or xs i d).start < e.start → e.start + e.len < (get_or xs i d).start + (get_or xs i d).len → 0 < e.len → RemovesFrom low xs (set (insert xs (suc i) (record { start = e.start + e.len; len = (get_or xs i d).start + (get_or xs i d).len - (e.start + e.len) })) i (record { start = (get_or xs i d).start; len = e.start - (get_or xs i d).start })) e
split_removes low i [] e d m i_in starts ends n = absurd (omega arith)
split_removes low zero (x ∷ xs) e d m i_in starts ends n = record {
  members = λ u. grind (arith, nat_tests, has_unit-below (x.start + x.len + 1) u xs m.3);
  count = omega arith;
  maximal = (m.0, omega arith, omega arith, (omega arith, omega arith, omega arith, raised (x.start + x.len + 1) _ xs m.3 (starts_again (x.start + x.len + 1) _ xs m.3 (omega arith))));
}
split_removes low (suc i) (x ∷ xs) e d m i_in starts ends n =
    removes_under low x xs _ e m.0 m.1 m.2 (omega (arith, low_le_start (x.start + x.len + 1) i xs d m.3)) (split_removes (x.start + x.len + 1) i xs e d m.3 (omega arith) starts ends n)

-- an extent ends within 2 ^ 62 and is not empty
pub extent_fits : (low i : ℕ) (xs : List Extent) (d : Extent) → IsMaximalFrom low xs → i < length xs → (0 < (get_or xs i d).len) × ((get_or xs i d).start + (get_or xs i d).len ≤ 2 ^ 62)
extent_fits low i [] d m i_in = absurd (omega arith)
extent_fits low zero (x ∷ xs) d m i_in = (m.1, m.2)
extent_fits low (suc i) (x ∷ xs) d m i_in = extent_fits (x.start + x.len + 1) i xs d m.3 (omega arith)

-- where an extent ends by the unit, so do those before it
pub ends_by-at : (low u i : ℕ) (xs : List Extent) (d : Extent) → IsMaximalFrom low xs → i < length xs → (get_or xs i d).start + (get_or xs i d).len ≤ u → EndsBy u (take (suc i) xs)
ends_by-at low u i [] d m i_in le = absurd (omega arith)
ends_by-at low u zero (x ∷ xs) d m i_in le = (le, tt)
ends_by-at low u (suc i) (x ∷ xs) d m i_in le =
    (omega (arith, low_le_start (x.start + x.len + 1) i xs d m.3), ends_by-at (x.start + x.len + 1) u i xs d m.3 (omega arith) le)

pub ends_by-last : (u j : ℕ) (xs : List Extent) (d : Extent) → EndsBy u (take (suc j) xs) → j < length xs → (get_or xs j d).start + (get_or xs j d).len ≤ u
ends_by-last u j [] d by j_in = absurd (omega arith)
ends_by-last u zero (x ∷ xs) d by j_in = by.0
ends_by-last u (suc j) (x ∷ xs) d by j_in = ends_by-last u j xs d by.1 (omega arith)

-- where the last of those that end by the unit does not end at it, all end below it
pub ends_below-front : (low u j : ℕ) (xs : List Extent) (d : Extent) → IsMaximalFrom low xs → suc j ≤ length xs → EndsBy u (take (suc j) xs) → ((get_or xs j d).start + (get_or xs j d).len ≡ u → ⊥) → EndsBelow u (take (suc j) xs)
ends_below-front low u j [] d m j_in by ne = absurd (omega arith)
ends_below-front low u zero (x ∷ xs) d m j_in by ne = (omega (arith, by.0), tt)
ends_below-front low u (suc j) (x ∷ xs) d m j_in by ne =
    (omega (arith, by.1, low_le_start (x.start + x.len + 1) j xs d m.3, extent_fits (x.start + x.len + 1) j xs d m.3, ends_by-last u j xs d by.1), ends_below-front (x.start + x.len + 1) u j xs d m.3 (omega arith) by.1 ne)

-- the extent has no unit of the set, and those from i on are the ones that end above its start: they start at its end or above it
pub apart_starts_from : (low i : ℕ) (xs : List Extent) (e d : Extent) → IsMaximalFrom low xs → (i < length xs → e.start < (get_or xs i d).start + (get_or xs i d).len) → 0 < e.len → HasNone xs e → StartsFrom (e.start + e.len) (drop i xs)
apart_starts_from low zero [] e d m above n none = tt
apart_starts_from low (suc i) [] e d m above n none = tt
apart_starts_from low zero (x ∷ xs) e d m above n none =
    ⊎_elim
    (λ lt. let ends : e.start < x.start + x.len = above (omega arith) in absurd (grind (arith, nat_tests, none (max e.start x.start))))
    (λ ge. ge)
    (cases_lt x.start (e.start + e.len))
apart_starts_from low (suc i) (x ∷ xs) e d m above n none =
    apart_starts_from (x.start + x.len + 1) i xs e d m.3 (λ h. above (omega arith)) n (λ u t. (or_parts (in_extent x u) (has_unit xs u) (none u t)).1)

-- .. and above it where the first does not start at it
pub starts_above-ne : (t i : ℕ) (xs : List Extent) (d : Extent) → StartsFrom t (drop i xs) → (i < length xs → (get_or xs i d).start ≡ t → ⊥) → StartsAbove t (drop i xs)
starts_above-ne t zero [] d from ne = tt
starts_above-ne t (suc i) [] d from ne = tt
starts_above-ne t zero (x ∷ xs) d from ne = let other : x.start ≡ t → ⊥ = ne (omega arith) in omega arith
starts_above-ne t (suc i) (x ∷ xs) d from ne = starts_above-ne t i xs d from (λ h. ne (omega arith))

-- .. and above it where that one is joined: the next starts above the end of that one
pub starts_above-next : (low i : ℕ) (xs : List Extent) (d : Extent) → IsMaximalFrom low xs → i < length xs → StartsAbove ((get_or xs i d).start + (get_or xs i d).len) (drop (suc i) xs)
starts_above-next low i [] d m i_in = absurd (omega arith)
starts_above-next low zero (x ∷ []) d m i_in = tt
starts_above-next low zero (x ∷ (y ∷ xs)) d m i_in = omega (arith, m.3)
starts_above-next low (suc i) (x ∷ xs) d m i_in = starts_above-next (x.start + x.len + 1) i xs d m.3 (omega arith)

-- a unit of one of the extents is in the set
pub has_unit-at : (i u : ℕ) (xs : List Extent) (d : Extent) → i < length xs → in_extent (get_or xs i d) u ≡ true → has_unit xs u ≡ true
has_unit-at i u [] d i_in t = absurd (omega arith)
has_unit-at zero u (x ∷ xs) d i_in t = or_left (in_extent x u) (has_unit xs u) t
has_unit-at (suc i) u (x ∷ xs) d i_in t = or_right (in_extent x u) (has_unit xs u) (has_unit-at i u xs d (omega arith) t)

-- the extent at i has all of another
pub record IsWithinAt (xs : List Extent) (i : ℕ) (d e : Extent) : Type 0 where
  pub index : i < length xs
  pub starts : (get_or xs i d).start ≤ e.start
  pub ends : e.start + e.len ≤ (get_or xs i d).start + (get_or xs i d).len

has_all-tail : (x : Extent) (xs : List Extent) (e : Extent) → x.start + x.len ≤ e.start → HasAll (x ∷ xs) e → HasAll xs e
has_all-tail x xs e le all u t = grind (arith, nat_tests, all u t)

-- where the set has all units of an extent, the lowest of its extents that ends above the start has them all
pub has_all-within : (low i : ℕ) (xs : List Extent) (e d : Extent) → IsMaximalFrom low xs → i ≤ length xs → EndsBy e.start (take i xs) → (i < length xs → e.start < (get_or xs i d).start + (get_or xs i d).len) → 0 < e.len → HasAll xs e → IsWithinAt xs i d e
has_all-within low zero [] e d m i_le by above n all = absurd (grind (arith, nat_tests, all e.start))
has_all-within low (suc i) [] e d m i_le by above n all = absurd (omega arith)
has_all-within low zero (x ∷ xs) e d m i_le by above n all =
    let ends_above : e.start < x.start + x.len = above (omega arith) in
    let starts : x.start ≤ e.start = ⊎_elim
    (λ lt. absurd (grind (arith, nat_tests, all e.start, has_unit-below (x.start + x.len + 1) e.start xs m.3)))
    (λ ge. ge)
    (cases_lt e.start x.start) in
    let ends : e.start + e.len ≤ x.start + x.len = ⊎_elim
    (λ lt. absurd (grind (arith, nat_tests, all (x.start + x.len), has_unit-below (x.start + x.len + 1) (x.start + x.len) xs m.3)))
    (λ ge. ge)
    (cases_lt (x.start + x.len) (e.start + e.len)) in
    record { index = omega arith; starts = starts; ends = ends }
has_all-within low (suc i) (x ∷ xs) e d m i_le by above n all =
    let rest : IsWithinAt xs i d e = has_all-within (x.start + x.len + 1) i xs e d m.3 (omega arith) by.1 (λ h. above (omega arith)) n
    (λ u t. has_all-tail x xs e by.0 all u t) in
    record { index = omega (arith, rest.index); starts = rest.starts; ends = rest.ends }

-- .. and then it has them all
pub within-has_all : (i : ℕ) (xs : List Extent) (e d : Extent) → IsWithinAt xs i d e → HasAll xs e
within-has_all i xs e d w u t = has_unit-at i u xs d w.index (grind (arith, nat_tests, w.starts, w.ends))

-- the first part above a unit
pub first_part_from-at : (u i : ℕ) (xs : List Extent) (d : Extent) → EndsBy u (take i xs) → i < length xs → u < (get_or xs i d).start + (get_or xs i d).len → first_part_from u xs ≡ Some (part_from u (get_or xs i d))
first_part_from-at u i [] d by i_in above = absurd (omega arith)
first_part_from-at u zero (x ∷ xs) d by i_in above = grind (arith, nat_tests)
first_part_from-at u (suc i) (x ∷ xs) d by i_in above = rw (le-ltb u (x.start + x.len) by.0) (first_part_from-at u i xs d by.1 (omega arith) above)

pub first_part_from-none : (u : ℕ) (xs : List Extent) → EndsBy u xs → first_part_from u xs ≡ None
first_part_from-none u [] by = refl
first_part_from-none u (x ∷ xs) by = rw (le-ltb u (x.start + x.len) by.0) (first_part_from-none u xs by.1)

-- one more extent
longest_len-suc : (i : ℕ) (xs : List Extent) (d : Extent) → i < length xs → longest_len (take (suc i) xs) ≡ max (longest_len (take i xs)) (get_or xs i d).len
longest_len-suc i [] d i_in = absurd (omega arith)
longest_len-suc zero (x ∷ xs) d i_in = omega arith
longest_len-suc (suc i) (x ∷ xs) d i_in = omega (arith, longest_len-suc i xs d (omega arith))

pub longest_len-more : (i : ℕ) (xs : List Extent) (d : Extent) → i < length xs → longest_len (take (i + 1) xs) ≡ max (longest_len (take i xs)) (get_or xs i d).len
longest_len-more i xs d i_in = rw add-one (longest_len-suc i xs d i_in)

unit_count-suc : (i : ℕ) (xs : List Extent) (d : Extent) → i < length xs → unit_count (take (suc i) xs) ≡ unit_count (take i xs) + (get_or xs i d).len
unit_count-suc i [] d i_in = absurd (omega arith)
unit_count-suc zero (x ∷ xs) d i_in = omega arith
unit_count-suc (suc i) (x ∷ xs) d i_in = omega (arith, unit_count-suc i xs d (omega arith))

pub unit_count-more : (i : ℕ) (xs : List Extent) (d : Extent) → i < length xs → unit_count (take (i + 1) xs) ≡ unit_count (take i xs) + (get_or xs i d).len
unit_count-more i xs d i_in = rw add-one (unit_count-suc i xs d i_in)

-- no more units than there are from the first on and below 2 ^ 62
pub unit_count-le : (low i : ℕ) (xs : List Extent) → IsMaximalFrom low xs → unit_count (take i xs) ≤ 2 ^ 62 - low
unit_count-le low zero xs m = omega arith
unit_count-le low (suc i) [] m = omega arith
unit_count-le low (suc i) (x ∷ xs) m = omega (arith, unit_count-le (x.start + x.len + 1) i xs m.3)

-- a set has one list of maximal extents: the first units agree ..
first_le : (low high : ℕ) (x y : Extent) (xs ys : List Extent) → IsMaximalFrom low (x ∷ xs) → IsMaximalFrom high (y ∷ ys) → ((u : ℕ) → has_unit (x ∷ xs) u ≡ has_unit (y ∷ ys) u) → x.start ≤ y.start
first_le low high x y xs ys m n same =
    ⊎_elim
    (λ lt. absurd (grind (arith, nat_tests, same y.start, has_unit-below (x.start + x.len + 1) y.start xs m.3)))
    (λ ge. ge)
    (cases_lt y.start x.start)

-- .. and so do the ends
end_le : (low high : ℕ) (x y : Extent) (xs ys : List Extent) → IsMaximalFrom low (x ∷ xs) → IsMaximalFrom high (y ∷ ys) → x.start ≡ y.start → ((u : ℕ) → has_unit (x ∷ xs) u ≡ has_unit (y ∷ ys) u) → x.start + x.len ≤ y.start + y.len
end_le low high x y xs ys m n start same =
    ⊎_elim
    (λ lt. absurd (grind (arith, nat_tests, same (y.start + y.len), has_unit-below (y.start + y.len + 1) (y.start + y.len) ys n.3)))
    (λ ge. ge)
    (cases_lt (y.start + y.len) (x.start + x.len))

tail_same : (x : Extent) (xs ys : List Extent) → IsMaximalFrom (x.start + x.len + 1) xs → IsMaximalFrom (x.start + x.len + 1) ys → ((u : ℕ) → has_unit (x ∷ xs) u ≡ has_unit (x ∷ ys) u) → (u : ℕ) → has_unit xs u ≡ has_unit ys u
tail_same x xs ys m n same u =
    ⊎_elim
    (λ lt. has_unit-below _ u xs m lt ∙ sym (has_unit-below _ u ys n lt))
    (λ ge. grind (arith, nat_tests, same u))
    (cases_lt u (x.start + x.len + 1))

-- two lists of maximal extents with the same units are equal
pub same_extents : (low high : ℕ) (xs ys : List Extent) → IsMaximalFrom low xs → IsMaximalFrom high ys → ((u : ℕ) → has_unit xs u ≡ has_unit ys u) → xs ≡ ys
same_extents low high [] [] m n same = refl
same_extents low high [] (y ∷ ys) m n same = absurd (grind (arith, nat_tests, same y.start))
same_extents low high (x ∷ xs) [] m n same = absurd (grind (arith, nat_tests, same x.start))
same_extents low high (x ∷ xs) (y ∷ ys) m n same =
    let start : x.start ≡ y.start = omega (arith, first_le low high x y xs ys m n same, first_le high low y x ys xs n m (λ u. sym (same u))) in
    let len : x.len ≡ y.len = omega (arith, end_le low high x y xs ys m n start same, end_le high low y x ys xs n m (sym start) (λ u. sym (same u))) in
    let first : x ≡ y = ap₂ (λ (s k : ℕ). let e : Extent = record { start = s; len = k } in e) start len in
    let there : IsMaximalFrom (x.start + x.len + 1) ys = subst (λ (e : Extent). IsMaximalFrom (e.start + e.len + 1) ys) (sym first) n.3 in
    let alike : (u : ℕ) → has_unit (x ∷ xs) u ≡ has_unit (x ∷ ys) u = subst (λ (e : Extent). (u : ℕ) → has_unit (x ∷ xs) u ≡ has_unit (e ∷ ys) u) (sym first) same in
    ap₂ (λ (e : Extent) (es : List Extent). e ∷ es) first (same_extents (x.start + x.len + 1) (x.start + x.len + 1) xs ys m.3 there (tail_same x xs ys m.3 there alike))

-- the first part from u on, by its units
pub first_part-is : (low u i : ℕ) (xs : List Extent) (d : Extent) → IsMaximalFrom low xs → EndsBy u (take i xs) → i < length xs → u < (get_or xs i d).start + (get_or xs i d).len → IsFirstPart xs u (part_from u (get_or xs i d))
first_part-is low u i [] d m by i_in above = absurd (omega arith)
first_part-is low u zero (x ∷ xs) d m by i_in above =
    ⊎_elim
    (λ lt. rw (lt-leb u x.start lt, part_from) (record {
      not_empty = omega arith;
      from = omega arith;
      covered = λ v t. grind (arith, nat_tests);
      gap = λ v ge below. absurd (omega arith);
      ends = grind (arith, nat_tests, has_unit-below (x.start + x.len + 1) (u + (x.start + x.len - u)) xs m.3);
    }))
    (λ ge. rw (le-leb u x.start ge, part_from) (record {
      not_empty = m.1;
      from = ge;
      covered = λ v t. grind (arith, nat_tests);
      gap = λ v le below. has_unit-below x.start v (x ∷ xs) (omega arith, m.1, m.2, m.3) below;
      ends = grind (arith, nat_tests, has_unit-below (x.start + x.len + 1) (x.start + x.len) xs m.3);
    }))
    (cases_lt x.start u)
first_part-is low u (suc i) (x ∷ xs) d m by i_in above =
    let rest : IsFirstPart xs u (part_from u (get_or xs i d)) = first_part-is (x.start + x.len + 1) u i xs d m.3 by.1 (omega arith) above in
    record {
      not_empty = rest.not_empty;
      from = rest.from;
      covered = λ v t. or_right (in_extent x v) (has_unit xs v) (rest.covered v t);
      gap = λ v ge below. grind (arith, nat_tests, rest.gap v ge below, by.0);
      ends = grind (arith, nat_tests, rest.ends, rest.from, rest.not_empty, by.0);
    }

pub none_from : (u : ℕ) (xs : List Extent) → EndsBy u xs → (v : ℕ) → u ≤ v → has_unit xs v ≡ false
none_from u [] by v le = refl
none_from u (x ∷ xs) by v le = grind (arith, nat_tests, by.0, none_from u xs by.1 v le)
