-- A search by halves in a rising list of entries.
use Rattle.std.proofs.Common.{◌≡◌, ◌≢◌, ℕ, zero, suc, ◌+◌, ◌-◌, ◌*◌, ◌^◌, ◌<◌, ◌≤◌, max, Bool, true, false, ◌||◌, List, [], ◌∷◌, ◌++◌, length, take, drop, map, filter, min, refl, sym, arith, nat_le, nat_lt, Some, ◌∙◌, ⊎_elim, ap, ap₂}
use Rattle.std.proofs.lemmas.Bool.Decides.{nat_tests}
use Rattle.std.proofs.lemmas.Bool.{or_parts, or_from, and_from, and_left, and_right, le-leb, lt-leb, lt-ltb, le-ltb, cases_lt}
use Rattle.std.proofs.Math.Nat.{mul-le-mul_left, pow-suc}
use Rattle.zr_base.specs.declared.space.Entry.{Entry}
use Rattle.zr_rules.specs.Mappings.{entry_at, IsEntry, IsRisingFrom, IsRising, IsAfterAll, in_source, has_source, entry_order, target}
use Rattle.zr_rules.specs.Steps.{moved_part, meets}
use Rattle.zr_base.specs.declared.space.Dva.{Dva}
use Rattle.std.specs.Prelude.{if◌then◌else◌, ◌⊎◌}
use Rattle.zr_imap.specs.Searches.{piece_target, FollowFrom, IsSearchable, place_of, moved_parts}
use Rattle.zr_imap.specs.declared.image.Piece.{Piece}
use Rattle.std.specs.declared.cmp.Ordering.{Ordering}
use Rattle.std.specs.declared.cmp.Ordering.TheVariants.{Less, Equal, Greater}

pub entry_fits : (low i : ℕ) (xs : List Entry) → IsRisingFrom low xs → i < length xs → IsEntry (entry_at xs i)
entry_fits low i [] m i_in = absurd (omega arith)
entry_fits low zero (x ∷ xs) m i_in = m.1
entry_fits low (suc i) (x ∷ xs) m i_in = entry_fits (x.src + x.len) i xs m.2 (omega arith)

low_le_src : (low i : ℕ) (xs : List Entry) → IsRisingFrom low xs → i < length xs → low ≤ (entry_at xs i).src
low_le_src low i [] m i_in = absurd (omega arith)
low_le_src low zero (x ∷ xs) m i_in = m.0
low_le_src low (suc i) (x ∷ xs) m i_in = omega (arith, low_le_src (x.src + x.len) i xs m.2 (omega arith))

has_source-below : (low u : ℕ) (xs : List Entry) → IsRisingFrom low xs → u < low → has_source xs u ≡ false
has_source-below low u [] m h = refl
has_source-below low u (x ∷ xs) m h = grind (arith, nat_tests, has_source-below (x.src + x.len) u xs m.2 (omega arith))

-- where an entry ends by the unit, none up to it has the unit
pub has_source-take : (low u i : ℕ) (xs : List Entry) → IsRisingFrom low xs → i < length xs → (entry_at xs i).src + (entry_at xs i).len ≤ u → has_source (take (suc i) xs) u ≡ false
has_source-take low u i [] m i_in le = absurd (omega arith)
has_source-take low u zero (x ∷ xs) m i_in le = grind (arith, nat_tests)
has_source-take low u (suc i) (x ∷ xs) m i_in le =
    let apart : x.src + x.len ≤ (entry_at xs i).src = low_le_src (x.src + x.len) i xs m.2 (omega arith) in
    grind (arith, nat_tests, has_source-take (x.src + x.len) u i xs m.2 (omega arith) le)

-- where an entry begins above the unit, none from it on has the unit
pub has_source-drop : (low u i : ℕ) (xs : List Entry) → IsRisingFrom low xs → i < length xs → u < (entry_at xs i).src → has_source (drop i xs) u ≡ false
has_source-drop low u i [] m i_in lt = absurd (omega arith)
has_source-drop low u zero (x ∷ xs) m i_in lt = grind (arith, nat_tests, has_source-below (x.src + x.len) u xs m.2)
has_source-drop low u (suc i) (x ∷ xs) m i_in lt = has_source-drop (x.src + x.len) u i xs m.2 (omega arith) lt

pub has_source-parts : (u i : ℕ) (xs : List Entry) → has_source (take i xs) u ≡ false → has_source (drop i xs) u ≡ false → has_source xs u ≡ false
has_source-parts u zero xs front back = back
has_source-parts u (suc i) [] front back = refl
has_source-parts u (suc i) (x ∷ xs) front back =
    or_from (in_source x u) (has_source xs u) (or_parts (in_source x u) (has_source (take i xs) u) front).0
    (has_source-parts u i xs (or_parts (in_source x u) (has_source (take i xs) u) front).1 back)

pub IsRising-push : (low : ℕ) (xs : List Entry) (e : Entry) → IsRisingFrom low xs → low ≤ e.src → IsAfterAll xs e → IsEntry e → IsRisingFrom low (xs ++ e ∷ [])
IsRising-push low [] e m le after fits = (le, fits, tt)
IsRising-push low (x ∷ xs) e m le after fits = (m.0, m.1, IsRising-push (x.src + x.len) xs e m.2 after.0 after.1 fits)

-- a step that leaves half of the places at most
pub cost_more : (s begun w v m : ℕ) → begun ≤ s → 2 ^ (s - begun) * max (2 * w) 1 ≤ m → 0 < w → 2 * v ≤ w → 2 ^ (s + 1 - begun) * max (2 * v) 1 ≤ m
cost_more s begun w v m le cost some half =
    let next : s + 1 - begun ≡ suc (s - begun) = omega arith in
    rw (next, pow-suc)
    (omega (arith, mul-le-mul_left (2 ^ (s - begun)) (halves w v some half)))
  where
    halves : (w v : ℕ) → 0 < w → 2 * v ≤ w → 2 * max (2 * v) 1 ≤ max (2 * w) 1
    halves w v some half = omega arith

pub order-less : (e : Entry) (u : ℕ) → Less ≡ entry_order e u → e.src + e.len ≤ u
order-less e u same = grind (arith, nat_tests)

pub order-greater : (e : Entry) (u : ℕ) → Greater ≡ entry_order e u → u < e.src
order-greater e u same = grind (arith, nat_tests)

or_assoc : (x y z : Bool) → (x || (y || z)) ≡ ((x || y) || z)
or_assoc true y z = refl
or_assoc false y z = refl

or-false : (x : Bool) → (x || false) ≡ x
or-false true = refl
or-false false = refl

-- one more entry
pub has_source-more : (i u : ℕ) (xs : List Entry) → i < length xs → has_source (take (suc i) xs) u ≡ (has_source (take i xs) u || in_source (entry_at xs i) u)
has_source-more i u [] i_in = absurd (omega arith)
has_source-more zero u (x ∷ xs) i_in = or-false (in_source x u)
has_source-more (suc i) u (x ∷ xs) i_in = rw (has_source-more i u xs (omega arith)) (or_assoc (in_source x u) (has_source (take i xs) u) (in_source (entry_at xs i) u))

-- no entry of a rising list has a unit at 2 ^ 62 or above
pub has_source-past : (low u : ℕ) (xs : List Entry) → IsRisingFrom low xs → 2 ^ 62 ≤ u → has_source xs u ≡ false
has_source-past low u [] m h = refl
has_source-past low u (x ∷ xs) m h = let ends : x.src + x.len ≤ 2 ^ 62 = m.1.source in grind (arith, nat_tests, has_source-past (x.src + x.len) u xs m.2 h)

-- the entry that has a unit says where it went
pub target-at : (low i u : ℕ) (xs : List Entry) → IsRisingFrom low xs → i < length xs → (entry_at xs i).src ≤ u → u < (entry_at xs i).src + (entry_at xs i).len → target xs u ≡ Some ((entry_at xs i).dev, (entry_at xs i).dst + (u - (entry_at xs i).src))
target-at low i u [] m i_in starts ends = absurd (omega arith)
target-at low zero u (x ∷ xs) m i_in starts ends = rw (and_from (nat_le x.src u) (nat_lt u (x.src + x.len)) (le-leb x.src u starts) (lt-ltb u (x.src + x.len) ends)) refl
target-at low (suc i) u (x ∷ xs) m i_in starts ends =
    let apart : x.src + x.len ≤ (entry_at xs i).src = low_le_src (x.src + x.len) i xs m.2 (omega arith) in
    rw (and_right (nat_le x.src u) (nat_lt u (x.src + x.len)) (le-ltb u (x.src + x.len) (omega arith))) (target-at (x.src + x.len) i u xs m.2 (omega arith) starts ends)

pub FollowFrom-push : (from end : ℕ) (ps : List Piece) (p : Piece) → FollowFrom from end ps → p.split ≡ end → 0 < p.at.len → FollowFrom from (end + p.at.len) (ps ++ p ∷ [])
FollowFrom-push from end [] p follow at some = (at ∙ sym follow, some, omega (arith, follow))
FollowFrom-push from end (q ∷ ps) p follow at some = (follow.0, follow.1, FollowFrom-push (q.split + q.at.len) end ps p follow.2 at some)

FollowFrom-le : (from end : ℕ) (ps : List Piece) → FollowFrom from end ps → from ≤ end
FollowFrom-le from end [] follow = omega (arith, follow)
FollowFrom-le from end (q ∷ ps) follow = omega (arith, FollowFrom-le (q.split + q.at.len) end ps follow.2)

-- one more piece leaves the targets before it ..
pub piece_target-before : (from end k : ℕ) (ps : List Piece) (p : Piece) → FollowFrom from end ps → from ≤ k → k < end → piece_target (ps ++ p ∷ []) k ≡ piece_target ps k
piece_target-before from end k [] p follow ge lt = absurd (omega (arith, follow))
piece_target-before from end k (q ∷ ps) p follow ge lt =
    ⊎_elim
    (λ in_q. rw (lt-ltb k (q.split + q.at.len) in_q) refl)
    (λ past. rw (le-ltb k (q.split + q.at.len) past) (piece_target-before (q.split + q.at.len) end k ps p follow.2 past lt))
    (cases_lt k (q.split + q.at.len))

-- .. and has its own
pub piece_target-new : (from end k : ℕ) (ps : List Piece) (p : Piece) → FollowFrom from end ps → p.split ≡ end → end ≤ k → k < end + p.at.len → piece_target (ps ++ p ∷ []) k ≡ Some (p.dev, p.at.start + (k - p.split))
piece_target-new from end k [] p follow at ge lt = rw (lt-ltb k (p.split + p.at.len) (omega arith)) refl
piece_target-new from end k (q ∷ ps) p follow at ge lt =
    let past : q.split + q.at.len ≤ end = FollowFrom-le _ end ps follow.2 in
    rw (le-ltb k (q.split + q.at.len) (omega arith)) (piece_target-new (q.split + q.at.len) end k ps p follow.2 at ge lt)

-- the piece of entry i that follows the others
pub record IsNextPiece (xs : List Entry) (i u n done : ℕ) (p : Piece) : Type 0 where
  pub split : p.split ≡ done
  pub device : p.dev ≡ (entry_at xs i).dev
  pub start : p.at.start ≡ (entry_at xs i).dst + (u - (entry_at xs i).src)
  pub len : p.at.len ≡ n
  pub starts : (entry_at xs i).src ≤ u
  pub ends : u + n ≤ (entry_at xs i).src + (entry_at xs i).len

pub targets_more : (xs : List Entry) (i from done n : ℕ) (ps : List Piece) (p : Piece) → IsRising xs → i < length xs → FollowFrom 0 done ps → IsNextPiece xs i (from + done) n done p → ((k : ℕ) → k < done → piece_target ps k ≡ target xs (from + k)) → (k : ℕ) → k < done + n → piece_target (ps ++ p ∷ []) k ≡ target xs (from + k)
targets_more xs i from done n ps p m i_in follow next old k lt =
    ⊎_elim
    (λ before. piece_target-before 0 done k ps p follow (omega arith) before ∙ old k before)
    (λ past.
    let place : p.at.start + (k - p.split) ≡ (entry_at xs i).dst + (from + k - (entry_at xs i).src) = omega (arith, next.split, next.start, next.starts) in
    let starts : (entry_at xs i).src ≤ from + k = omega (arith, next.starts) in
    let ends : from + k < (entry_at xs i).src + (entry_at xs i).len = omega (arith, next.ends) in
    piece_target-new 0 done k ps p follow next.split past (omega (arith, next.len))
    ∙ ap₂ (λ (d w : ℕ). Some (d, w)) next.device place
    ∙ sym (target-at 0 i (from + k) xs m i_in starts ends))
    (cases_lt k done)

-- a source that has not the unit
not_in_source : (e : Entry) (u : ℕ) → entry_order e u ≢ Equal → in_source e u ≡ false
not_in_source e u other = ⊎_elim
    (λ below. and_left (nat_le e.src u) (nat_lt u (e.src + e.len)) (lt-leb e.src u below))
    (λ from. ⊎_elim
    (λ in_it. absurd (other (rw (le-ltb u e.src from, lt-ltb u (e.src + e.len) in_it) refl)))
    (λ past. and_right (nat_le e.src u) (nat_lt u (e.src + e.len)) (le-ltb u (e.src + e.len) past))
    (cases_lt u (e.src + e.len)))
    (cases_lt u e.src)

-- where no entry has the unit, the mapping has it not
pub none_equal : (u : ℕ) (xs : List Entry) → ((i : ℕ) → i < length xs → entry_order (entry_at xs i) u ≢ Equal) → has_source xs u ≡ false
none_equal u [] each = refl
none_equal u (x ∷ xs) each =
    or_from (in_source x u) (has_source xs u) (not_in_source x u (each 0 (omega arith))) (none_equal u xs (λ i lt. each (suc i) (omega arith)))

pub order-equal : (e : Entry) (u : ℕ) → Equal ≡ entry_order e u → (e.src ≤ u) × (u < e.src + e.len)
order-equal e u same = (grind (arith, nat_tests), grind (arith, nat_tests))

-- each entry ends at or below the beginning of a later one
pub apart : (low i j : ℕ) (xs : List Entry) → IsRisingFrom low xs → i < j → j < length xs → (entry_at xs i).src + (entry_at xs i).len ≤ (entry_at xs j).src
apart low i j [] m lt j_in = absurd (omega arith)
apart low i zero (x ∷ xs) m lt j_in = absurd (omega arith)
apart low zero (suc j) (x ∷ xs) m lt j_in = low_le_src (x.src + x.len) j xs m.2 (omega arith)
apart low (suc i) (suc j) (x ∷ xs) m lt j_in = apart (x.src + x.len) i j xs m.2 (omega arith) (omega arith)

order-not_less : (e : Entry) (u : ℕ) → entry_order e u ≢ Less → u < e.src + e.len
order-not_less e u other = ⊎_elim
    (λ below. omega arith)
    (λ from. ⊎_elim (λ in_it. in_it) (λ past. absurd (other (rw (le-ltb u e.src from, le-ltb u (e.src + e.len) past) refl))) (cases_lt u (e.src + e.len)))
    (cases_lt u e.src)

-- a rising mapping can be searched
pub rising_searchable : (xs : List Entry) (u : ℕ) → IsRising xs → IsSearchable xs u
rising_searchable xs u m = record {
  after = λ i j lt j_in other.
      let ends = order-not_less (entry_at xs i) u other in
      let starts : u < (entry_at xs j).src = omega (arith, ends, apart 0 i j xs m lt j_in) in
      rw (lt-ltb u (entry_at xs j).src starts) refl;
}

only_less : (o : Ordering) → (o ≢ Less → ⊥) → o ≡ Less
only_less Less h = refl
only_less Equal h = absurd (h (λ same. cc))
only_less Greater h = absurd (h (λ same. cc))

pub earlier_less : (xs : List Entry) (u i j : ℕ) → IsSearchable xs u → i < j → j < length xs → Less ≡ entry_order (entry_at xs j) u → entry_order (entry_at xs i) u ≡ Less
earlier_less xs u i j s lt j_in less = only_less (entry_order (entry_at xs i) u) (λ other. let g = s.after i j lt j_in other in cc)

pub later_greater : (xs : List Entry) (u i j : ℕ) → IsSearchable xs u → i < j → j < length xs → Greater ≡ entry_order (entry_at xs i) u → entry_order (entry_at xs j) u ≡ Greater
later_greater xs u i j s lt j_in greater = s.after i j lt j_in (λ less. cc)

-- no entry before one that begins by the unit has it
pub before_entry : (low u i : ℕ) (xs : List Entry) → IsRisingFrom low xs → i < length xs → (entry_at xs i).src ≤ u → has_source (take i xs) u ≡ false
before_entry low u i [] m i_in le = absurd (omega arith)
before_entry low u zero (x ∷ xs) m i_in le = refl
before_entry low u (suc i) (x ∷ xs) m i_in le =
    let ends : x.src + x.len ≤ (entry_at xs i).src = low_le_src (x.src + x.len) i xs m.2 (omega arith) in
    or_from (in_source x u) (has_source (take i xs) u)
    (and_right (nat_le x.src u) (nat_lt u (x.src + x.len)) (le-ltb u (x.src + x.len) (omega arith)))
    (before_entry (x.src + x.len) u i xs m.2 (omega arith) le)

pub has_source-all : (u : ℕ) (xs : List Entry) → has_source (take (length xs) xs) u ≡ false → has_source xs u ≡ false
has_source-all u [] h = refl
has_source-all u (x ∷ xs) h =
    or_from (in_source x u) (has_source xs u) (or_parts (in_source x u) (has_source (take (length xs) xs) u) h).0
    (has_source-all u xs (or_parts (in_source x u) (has_source (take (length xs) xs) u) h).1)

-- each entry is behind those before it
pub after_front : (low i : ℕ) (xs : List Entry) → IsRisingFrom low xs → i < length xs → IsAfterAll (take i xs) (entry_at xs i)
after_front low i [] m i_in = absurd (omega arith)
after_front low zero (x ∷ xs) m i_in = tt
after_front low (suc i) (x ∷ xs) m i_in = (low_le_src (x.src + x.len) i xs m.2 (omega arith), after_front (x.src + x.len) i xs m.2 (omega arith))

pub take_one_more : (i : ℕ) (xs : List Entry) → i < length xs → take (suc i) xs ≡ take i xs ++ entry_at xs i ∷ []
take_one_more i [] i_in = absurd (omega arith)
take_one_more zero (x ∷ xs) i_in = refl
take_one_more (suc i) (x ∷ xs) i_in = ap (λ (es : List Entry). x ∷ es) (take_one_more i xs (omega arith))

or-true : (x : Bool) → (x || true) ≡ true
or-true true = refl
or-true false = refl

-- the entry that has a unit is one of the entries
pub has_source-at : (u i : ℕ) (xs : List Entry) → i < length xs → (entry_at xs i).src ≤ u → u < (entry_at xs i).src + (entry_at xs i).len → has_source xs u ≡ true
has_source-at u i [] i_in starts ends = absurd (omega arith)
has_source-at u zero (x ∷ xs) i_in starts ends = rw (and_from (nat_le x.src u) (nat_lt u (x.src + x.len)) (le-leb x.src u starts) (lt-ltb u (x.src + x.len) ends)) refl
has_source-at u (suc i) (x ∷ xs) i_in starts ends = rw (has_source-at u i xs (omega arith) starts ends) (or-true (in_source x u))

-- ---- pieces are cut as the entries are

meets-not_before : (u n : ℕ) (e : Entry) → e.src + e.len ≤ u → meets u n e ≡ false
meets-not_before u n e le = and_left (nat_lt u (e.src + e.len)) (nat_lt e.src (u + n)) (le-ltb u (e.src + e.len) le)

meets-not_after : (u n : ℕ) (e : Entry) → u + n ≤ e.src → meets u n e ≡ false
meets-not_after u n e le = and_right (nat_lt u (e.src + e.len)) (nat_lt e.src (u + n)) (le-ltb e.src (u + n) le)

filter_step : (p : Entry → Bool) (x : Entry) (xs : List Entry) → p x ≡ false → filter p (x ∷ xs) ≡ filter p xs
filter_step p x xs h = rw h refl

-- entries that end by the extent make no part of it
pub parts-before : (low u n i : ℕ) (xs : List Entry) → IsRisingFrom low xs → i < length xs → (entry_at xs i).src ≤ u → moved_parts (take i xs) u n ≡ []
parts-before low u n i [] m i_in le = absurd (omega arith)
parts-before low u n zero (x ∷ xs) m i_in le = refl
parts-before low u n (suc i) (x ∷ xs) m i_in le =
    let ends : x.src + x.len ≤ (entry_at xs i).src = low_le_src (x.src + x.len) i xs m.2 (omega arith) in
    ap (map (moved_part u n)) (filter_step (meets u n) x (take i xs) (meets-not_before u n x (omega arith))) ∙ parts-before (x.src + x.len) u n i xs m.2 (omega arith) le

none_after : (low u n : ℕ) (xs : List Entry) → IsRisingFrom low xs → u + n ≤ low → moved_parts xs u n ≡ []
none_after low u n [] m le = refl
none_after low u n (x ∷ xs) m le =
    let from = m.0 in
    ap (map (moved_part u n)) (filter_step (meets u n) x xs (meets-not_after u n x (omega arith))) ∙ none_after (x.src + x.len) u n xs m.2 (omega arith)

-- where the next entry begins at its end or above, the others make no part of it either
pub parts-all : (low u n i : ℕ) (xs : List Entry) → IsRisingFrom low xs → (i < length xs → u + n ≤ (entry_at xs i).src) → moved_parts (take i xs) u n ≡ moved_parts xs u n
parts-all low u n zero [] m h = refl
parts-all low u n (suc i) [] m h = refl
parts-all low u n zero (x ∷ xs) m h =
    let from = h (omega arith) in
    sym (ap (map (moved_part u n)) (filter_step (meets u n) x xs (meets-not_after u n x from)) ∙ none_after (x.src + x.len) u n xs m.2 (omega arith))
parts-all low u n (suc i) (x ∷ xs) m h =
    let rest = parts-all (x.src + x.len) u n i xs m.2 (λ lt. h (omega arith)) in
    step (meets u n x) rest
  where
    step : (b : Bool) → moved_parts (take i xs) u n ≡ moved_parts xs u n → map (moved_part u n) (if b then x ∷ filter (meets u n) (take i xs) else filter (meets u n) (take i xs)) ≡ map (moved_part u n) (if b then x ∷ filter (meets u n) xs else filter (meets u n) xs)
    step true rest = ap (λ (t : List Dva). moved_part u n x ∷ t) rest
    step false rest = rest

-- one entry more that has units of it
pub parts-more : (u n i : ℕ) (xs : List Entry) → i < length xs → meets u n (entry_at xs i) ≡ true → moved_parts (take (suc i) xs) u n ≡ moved_parts (take i xs) u n ++ moved_part u n (entry_at xs i) ∷ []
parts-more u n i [] lt h = absurd (omega arith)
parts-more u n zero (x ∷ xs) lt h = rw h refl
parts-more u n (suc i) (x ∷ xs) lt h = step (meets u n x) (parts-more u n i xs (omega arith) h)
  where
    step : (b : Bool) → moved_parts (take (suc i) xs) u n ≡ moved_parts (take i xs) u n ++ moved_part u n (entry_at xs i) ∷ [] →
        map (moved_part u n) (if b then x ∷ filter (meets u n) (take (suc i) xs) else filter (meets u n) (take (suc i) xs)) ≡ map (moved_part u n) (if b then x ∷ filter (meets u n) (take i xs) else filter (meets u n) (take i xs)) ++ moved_part u n (entry_at xs i) ∷ []
    step true rest = ap (λ (t : List Dva). moved_part u n x ∷ t) rest
    step false rest = rest

pub meets-both : (u n : ℕ) (e : Entry) → u < e.src + e.len → e.src < u + n → meets u n e ≡ true
meets-both u n e h k = and_from (nat_lt u (e.src + e.len)) (nat_lt e.src (u + n)) (lt-ltb u (e.src + e.len) h) (lt-ltb e.src (u + n) k)

abbrev dva_of : ℕ → ℕ → ℕ → Dva
dva_of dev start len = record { dev = dev; start = start; len = len }

-- the piece that follows is the part of its entry
pub part_is : (u n done m : ℕ) (e : Entry) (p : Piece) → p.dev ≡ e.dev → p.at.start ≡ e.dst + (u + done - e.src) → p.at.len ≡ m → m ≡ min (e.len - (u + done - e.src)) (n - done) → e.src ≤ u + done → u + done < e.src + e.len → done < n →
    (done ≡ 0) ⊎ (u + done ≤ e.src) → place_of p ≡ moved_part u n e
part_is u n done m e p dev start len least starts ends within place =
    same p.dev p.at.start p.at.len e.dev (e.dst + (max u e.src - e.src)) (min (u + n) (e.src + e.len) - max u e.src) dev
    (⊎_elim (λ zero_done. omega (arith, zero_done)) (λ joins. omega (arith, joins)) place)
    (⊎_elim (λ zero_done. omega (arith, zero_done)) (λ joins. omega (arith, joins)) place)
  where
    same : (a b c d e f : ℕ) → a ≡ d → b ≡ e → c ≡ f → dva_of a b c ≡ dva_of d e f
    same a b c d e f h k l = rw (h, k, l) refl

pub map_push : {X Y : Type 0} (f : X → Y) (xs : List X) (x : X) → map f (xs ++ x ∷ []) ≡ map f xs ++ f x ∷ []
map_push f [] x = refl
map_push {Y = Y} f (y ∷ ys) x = ap (λ (t : List Y). f y ∷ t) (map_push f ys x)
