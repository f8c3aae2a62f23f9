-- What lies below a frontier and what lies above it.
use Rattle.std.proofs.Common.{◌≡◌, ℕ, ◌+◌, ◌-◌, ◌≤◌, ◌<◌, ◌^◌, true, false, List, [], ◌∷◌, ◌++◌, length, refl, sym, arith, ⊎_elim}
use Rattle.std.proofs.lemmas.Grind.{common_steps}
use Rattle.std.proofs.lemmas.Bool.{cases_lt}
use Rattle.std.proofs.lemmas.Bool.Decides.{nat_tests}
use Rattle.zr_base.specs.declared.space.Extent.{Extent}
use Rattle.zr_base.specs.declared.space.Entry.{Entry}
use Rattle.zr_base.specs.Extents.{extent_at, has_unit, in_extent, IsMaximal, IsMaximalFrom, HasAll, RemovesUnits}
use Rattle.zr_base.proofs.ExtentSets.{has_unit-below}
use Rattle.zr_rules.specs.Mappings.{entry_at, IsRisingFrom, IsAfterAll, has_source, end_of_last}
use Rattle.zr_evac.specs.Evacuations.{EntriesEndBy}

-- the end of the last entry
pub last_of : (x : Entry) (xs : List Entry) → end_of_last (x ∷ xs) ≡ (entry_at (x ∷ xs) (length xs)).src + (entry_at (x ∷ xs) (length xs)).len
last_of x [] = refl
last_of x (y ∷ ys) = last_of y ys

pub last_end : (xs : List Entry) (n : ℕ) (e : Entry) → n ≡ length xs → 0 < n → e ≡ entry_at xs (n - 1) → e.src + e.len ≡ end_of_last xs
last_end [] n e len some is = absurd (omega (arith, len, some))
last_end (x ∷ xs) n e len some is =
    let at : n - 1 ≡ length xs = omega (arith, len) in
    let e_is : e ≡ entry_at (x ∷ xs) (length xs) = rw at at is in
    rw e_is (sym (last_of x xs))

ends_all : (low u : ℕ) (x : Entry) (xs : List Entry) → IsRisingFrom low (x ∷ xs) → end_of_last (x ∷ xs) ≤ u → EntriesEndBy u (x ∷ xs)
ends_all low u x [] m h = (h, tt)
ends_all low u x (y ∷ ys) m h =
    let rest : EntriesEndBy u (y ∷ ys) = ends_all (x.src + x.len) u y ys m.2 h in
    (omega (arith, m.2.0, rest.0), rest)

pub all_end : (u : ℕ) (xs : List Entry) → IsRisingFrom 0 xs → u ≡ end_of_last xs → EntriesEndBy u xs
all_end u [] m is = tt
all_end u (x ∷ xs) m is = ends_all 0 u x xs m (omega (arith, is))

pub ends_push : (u v : ℕ) (xs : List Entry) (e : Entry) → EntriesEndBy u xs → u ≤ v → e.src + e.len ≤ v → EntriesEndBy v (xs ++ e ∷ [])
ends_push u v [] e ends le new = (new, tt)
ends_push u v (x ∷ xs) e ends le new = (omega (arith, ends.0, le), ends_push u v xs e ends.1 le new)

pub after_all : (u : ℕ) (xs : List Entry) (e : Entry) → EntriesEndBy u xs → u ≤ e.src → IsAfterAll xs e
after_all u [] e ends le = tt
after_all u (x ∷ xs) e ends le = (omega (arith, ends.0, le), after_all u xs e ends.1 le)

pub no_source : (u v : ℕ) (xs : List Entry) → EntriesEndBy u xs → u ≤ v → has_source xs v ≡ false
no_source u v [] ends le = refl
no_source u v (x ∷ xs) ends le =
    let rest : has_source xs v ≡ false = no_source u v xs ends.1 le in
    let end : x.src + x.len ≤ u = ends.0 in
    grind (arith, nat_tests, rest, end, le)

-- no unit is at or above 2 ^ 62
pub unit_bound : (low u : ℕ) (xs : List Extent) → IsMaximalFrom low xs → has_unit xs u ≡ true → u < 2 ^ 62
unit_bound low u [] m has = absurd (cc)
unit_bound low u (x ∷ xs) m has =
    let ends : x.start + x.len ≤ 2 ^ 62 = m.2 in
    let rest : has_unit xs u ≡ true → u < 2 ^ 62 = unit_bound (x.start + x.len + 1) u xs m.3 in
    grind (arith, nat_tests, has, ends, rest)

pub covered_end : (xs : List Extent) (e : Extent) → IsMaximal xs → 0 < e.len → HasAll xs e → e.start + e.len ≤ 2 ^ 62
covered_end xs e m some all =
    let last : ℕ = e.start + e.len - 1 in
    let inside : in_extent e (e.start + e.len - 1) ≡ true = grind (arith, nat_tests, some) in
    omega (arith, unit_bound 0 (e.start + e.len - 1) xs m (all (e.start + e.len - 1) inside), some)

-- nothing lies below the first extent
pub none_below_first : (xs : List Extent) (u : ℕ) → IsMaximal xs → 0 < length xs → u < (extent_at xs 0).start → has_unit xs u ≡ false
none_below_first [] u m some lt = refl
none_below_first (x ∷ xs) u m some lt = has_unit-below x.start u (x ∷ xs) (omega arith, m.1, m.2, m.3) lt

-- a piece of what is left starts at the open frontier or above it
pub starts_above : (left : List Extent) (piece : Extent) (opened : ℕ) → HasAll left piece → 0 < piece.len → ((u : ℕ) → u < opened → has_unit left u ≡ false) → opened ≤ piece.start
starts_above left piece opened all some none =
    ⊎_elim
    (λ lt.
    let inside : in_extent piece piece.start ≡ true = grind (arith, nat_tests, some) in
    let has : has_unit left piece.start ≡ true = all piece.start inside in
    let not_there : has_unit left piece.start ≡ false = none piece.start lt in
    absurd (grind (arith, common_steps, has, not_there)))
    (λ ge. ge)
    (cases_lt piece.start opened)

-- nothing that is left lies below the end of the piece that was taken
pub rest_above : (old new : List Extent) (piece : Extent) → IsMaximal old → 0 < length old → piece.start ≡ (extent_at old 0).start → RemovesUnits old new piece → (u : ℕ) → u < piece.start + piece.len → has_unit new u ≡ false
rest_above old new piece m some start removes u lt =
    ⊎_elim
    (λ below.
    let none : has_unit old u ≡ false = none_below_first old u m some (omega (arith, below, start)) in
    grind (arith, nat_tests, none, removes.members u))
    (λ above.
    let inside : in_extent piece u ≡ true = grind (arith, nat_tests, above, lt) in
    grind (arith, nat_tests, inside, removes.members u))
    (cases_lt u piece.start)
