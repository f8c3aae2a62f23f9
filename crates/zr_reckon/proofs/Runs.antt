-- Runs of units of several devices, by device.
use Rattle.std.proofs.Common.{◌≡◌, ℕ, zero, suc, ◌+◌, ◌-◌, ◌≤◌, min, Bool, true, false, ◌&&◌, ◌==◌, nat_lt, List, [], ◌∷◌, ◌++◌, length, map, refl, arith, if◌then◌else◌, ⊎_elim}
use Rattle.std.specs.Prelude.{filter, count_by}
use Rattle.std.specs.List.{sum_by, range_with_len, flat_map}
use Rattle.std.proofs.lemmas.Bool.{cases_eq}
use Rattle.std.proofs.lemmas.Bool.Decides.{nat_tests}
use Rattle.std.proofs.lemmas.List.{length-append, length-map}
use Rattle.std.proofs.lemmas.List.Sums.{sum_by-cons, length-filter}
use Rattle.zr_base.specs.declared.space.Extent.{Extent}
use Rattle.zr_base.specs.declared.space.Dva.{Dva}
use Rattle.zr_base.specs.declared.space.Entry.{Entry}
use Rattle.zr_base.specs.Extents.{has_unit}
use Rattle.zr_rules.specs.Owed.{set_words}
use Rattle.zr_rules.specs.Places.{is_gone, is_leaving}
use Rattle.zr_rules.specs.Devices.{Devices, state_at}
use Rattle.zr_rules.specs.Frees.{in_any}
use Rattle.zr_rules.specs.Steps.{moved_part, meets, pieces}
use Rattle.zr_reckon.specs.Pieces.{ends, copies_at}
use Rattle.zr_reckon.proofs.Counting.{sum_both, sum_zero, sum_at_most, only_at}
use Rattle.zr_reckon.proofs.Leads.{parts_of, ways}
use Rattle.zr_reckon.proofs.SetWords.{words-cons, short_words, extent_words-is}
use Rattle.zr_reckon.proofs.Turned.{extent_of}

-- ---- by device

abbrev pub on_dev : ℕ → List Dva → List Extent
on_dev d [] = []
on_dev d (a ∷ list) = if a.dev == d then extent_of a ∷ on_dev d list else on_dev d list

pub has_on : (list : List Dva) (d u : ℕ) → has_unit (on_dev d list) u ≡ in_any list d u
has_on [] d u = refl
has_on (a ∷ list) d u = let r = has_on list d u in ⊎_elim
    (λ here. grind (arith, nat_tests, r, here))
    (λ away. grind (arith, nat_tests, r, away))
    (cases_eq a.dev d)

abbrev pub on_count : List Dva → ℕ → ℕ
on_count list d = length (on_dev d list)

on_cons : (a : Dva) (list : List Dva) (d : ℕ) → on_count (a ∷ list) d ≡ on_count list d + only_at a.dev 1 d
on_cons a list d = ⊎_elim
    (λ here. grind (arith, nat_tests, here))
    (λ away. grind (arith, nat_tests, away))
    (cases_eq a.dev d)

-- each run is on one device at most
pub sum_on : (list : List Dva) (n : ℕ) → sum_by (on_count list) (range_with_len 0 n) ≤ length list
sum_on [] n = let z = sum_zero (range_with_len 0 n) in omega (arith, z)
sum_on (a ∷ list) n =
    let r = sum_on list n in
    let b = sum_both (on_count (a ∷ list)) (on_count list) (only_at a.dev 1) (range_with_len 0 n) (on_cons a list) in
    let o = sum_at_most a.dev 1 n in
    omega (arith, r, b, o)

-- ---- short runs

abbrev pub AreShort : List Dva → Type 0
AreShort [] = Unit {0}
AreShort (a ∷ list) = (a.len ≤ 32768) × AreShort list

abbrev pub AreShortExtents : List Extent → Type 0
AreShortExtents [] = Unit {0}
AreShortExtents (e ∷ es) = (e.len ≤ 32768) × AreShortExtents es

pub short_set : (v : ℕ) (es : List Extent) → AreShortExtents es → set_words v es ≤ length es
short_set v [] s = omega arith
short_set v (e ∷ es) s =
    let r = short_set v es s.1 in
    let c = words-cons v e es in
    let o = short_words v e s.0 in
    let i = extent_words-is v e in
    omega (arith, r, c, o, i)

pub short_on : (list : List Dva) (d : ℕ) → AreShort list → AreShortExtents (on_dev d list)
short_on [] d s = tt
short_on (a ∷ list) d s = by_test (a.dev == d) refl (short_on list d s.1)
  where
    by_test : (b : Bool) → (a.dev == d) ≡ b → AreShortExtents (on_dev d list) → AreShortExtents (on_dev d (a ∷ list))
    by_test true is r = rw is (s.0, r)
    by_test false is r = rw is r

pub short_both : (xs ys : List Extent) → AreShortExtents xs → AreShortExtents ys → AreShortExtents (xs ++ ys)
short_both [] ys s t = t
short_both (x ∷ xs) ys s t = (s.0, short_both xs ys s.1 t)

short_append : (xs ys : List Dva) → AreShort xs → AreShort ys → AreShort (xs ++ ys)
short_append [] ys s t = t
short_append (x ∷ xs) ys s t = (s.0, short_append xs ys s.1 t)

short_parts : (s n : ℕ) (es : List Entry) → n ≤ 32768 → AreShort (parts_of s n es)
short_parts s n [] le = tt
short_parts s n (e ∷ es) le = by_test (meets s n e) refl (short_parts s n es le)
  where
    by_test : (b : Bool) → meets s n e ≡ b → AreShort (parts_of s n es) → AreShort (parts_of s n (e ∷ es))
    by_test true is r = rw is (omega (arith, le), r)
    by_test false is r = rw is r

short_flat : (f : Dva → List Dva) (ms : List Dva) → AreShort ms → ((m : Dva) → m.len ≤ 32768 → AreShort (f m)) → AreShort (flat_map f ms)
short_flat f [] s each = tt
short_flat f (m ∷ ms) s each = short_append (f m) (flat_map f ms) (each m s.0) (short_flat f ms s.1 each)

pub short_ends : (hops : ℕ) (ds : Devices) (d s n : ℕ) → n ≤ 32768 → AreShort (ends hops ds d s n)
short_ends zero ds d s n le = tt
short_ends (suc hops) ds d s n le = by_state (is_gone (state_at ds d)) refl (λ (m : Dva) (h : m.len ≤ 32768). short_ends hops ds m.dev m.start m.len h)
  where
    by_state : (b : Bool) → is_gone (state_at ds d) ≡ b → ((m : Dva) → m.len ≤ 32768 → AreShort (ends hops ds m.dev m.start m.len)) → AreShort (ends (suc hops) ds d s n)
    by_state true is deeper = rw is (short_flat (λ (m : Dva). ends hops ds m.dev m.start m.len) (parts_of s n (ds.entries d)) (short_parts s n (ds.entries d) le) deeper)
    by_state false is deeper = rw is (le, tt)

pub short_ways : (hops : ℕ) (ds : Devices) (d s n : ℕ) → n ≤ 32768 → AreShort (ways hops ds d s n)
short_ways zero ds d s n le = tt
short_ways (suc hops) ds d s n le = by_state (is_gone (state_at ds d)) refl (λ (m : Dva) (h : m.len ≤ 32768). short_ways hops ds m.dev m.start m.len h)
  where
    by_state : (b : Bool) → is_gone (state_at ds d) ≡ b → ((m : Dva) → m.len ≤ 32768 → AreShort (ways hops ds m.dev m.start m.len)) → AreShort (ways (suc hops) ds d s n)
    by_state true is deeper = rw is (le, short_flat (λ (m : Dva). ways hops ds m.dev m.start m.len) (parts_of s n (ds.entries d)) (short_parts s n (ds.entries d) le) deeper)
    by_state false is deeper = rw is tt

pub short_copies : (ds : Devices) (list : List Dva) → AreShort list → AreShort (flat_map (copies_at ds) list)
short_copies ds list s = short_flat (copies_at ds) list s each
  where
    each : (m : Dva) → m.len ≤ 32768 → AreShort (copies_at ds m)
    each m le = by_state (is_leaving (state_at ds m.dev)) refl
      where
        by_state : (b : Bool) → is_leaving (state_at ds m.dev) ≡ b → AreShort (copies_at ds m)
        by_state true is = rw is (short_parts m.start m.len (ds.entries m.dev) le)
        by_state false is = rw is tt

-- ---- how many pieces

flat_append : (f : Dva → List Dva) (xs ys : List Dva) → length (flat_map f (xs ++ ys)) ≡ length (flat_map f xs) + length (flat_map f ys)
flat_append f [] ys = omega arith
flat_append f (x ∷ xs) ys =
    let r = flat_append f xs ys in
    let a = length-append (f x) (flat_map f (xs ++ ys)) in
    let b = length-append (f x) (flat_map f xs) in
    omega (arith, r, a, b)

flat_few : (w e c : Dva → List Dva) (p : Dva → ℕ) (ms : List Dva) → ((m : Dva) → length (w m) + length (e m) + length (flat_map c (e m)) ≤ p m)
    → length (flat_map w ms) + length (flat_map e ms) + length (flat_map c (flat_map e ms)) ≤ sum_by p ms
flat_few w e c p [] each = omega arith
flat_few w e c p (m ∷ ms) each =
    let r = flat_few w e c p ms each in
    let h = each m in
    let a = length-append (w m) (flat_map w ms) in
    let b = length-append (e m) (flat_map e ms) in
    let f = flat_append c (e m) (flat_map e ms) in
    let s = sum_by-cons p m ms in
    omega (arith, r, h, a, b, f, s)

pub pieces_most : (ds : Devices) (hops d s n : ℕ) → length (ways hops ds d s n) + length (ends hops ds d s n) + length (flat_map (copies_at ds) (ends hops ds d s n)) ≤ pieces hops ds d s n
pieces_most ds zero d s n = omega arith
pieces_most ds (suc hops) d s n = by_state (is_gone (state_at ds d)) refl (λ (m : Dva). pieces_most ds hops m.dev m.start m.len)
  where
    by_state : (b : Bool) → is_gone (state_at ds d) ≡ b → ((m : Dva) → length (ways hops ds m.dev m.start m.len) + length (ends hops ds m.dev m.start m.len) + length (flat_map (copies_at ds) (ends hops ds m.dev m.start m.len)) ≤ pieces hops ds m.dev m.start m.len)
        → length (ways (suc hops) ds d s n) + length (ends (suc hops) ds d s n) + length (flat_map (copies_at ds) (ends (suc hops) ds d s n)) ≤ pieces (suc hops) ds d s n
    by_state true is deeper =
        let f = flat_few (λ (m : Dva). ways hops ds m.dev m.start m.len) (λ (m : Dva). ends hops ds m.dev m.start m.len) (copies_at ds) (λ (m : Dva). pieces hops ds m.dev m.start m.len) (parts_of s n (ds.entries d)) deeper in
        rw is (omega (arith, f))
    by_state false is deeper = rw is (by_leaving (is_leaving (state_at ds d)) refl)
      where
        by_leaving : (b : Bool) → is_leaving (state_at ds d) ≡ b → 0 + 1 + length (copies_at ds (record { dev = d; start = s; len = n }) ++ []) ≤ (if is_leaving (state_at ds d) then 1 + count_by (meets s n) (ds.entries d) else 1)
        by_leaving true leaving =
            let a = length-append (parts_of s n (ds.entries d)) [] in
            let b = length-map (filter (meets s n) (ds.entries d)) (moved_part s n) in
            let c = length-filter (meets s n) (ds.entries d) in
            rw leaving (omega (arith, a, b, c))
        by_leaving false leaving = rw leaving (omega arith)

-- ---- runs below a unit

abbrev pub cut_at : ℕ → List Extent → List Extent
cut_at at es = map (λ (e : Extent). record { start = e.start; len = min (e.start + e.len) at - e.start }) es

pub has_cut : (at u : ℕ) (es : List Extent) → has_unit (cut_at at es) u ≡ (has_unit es u && nat_lt u at)
has_cut at u [] = refl
has_cut at u (e ∷ es) = let r = has_cut at u es in grind (arith, nat_tests, r)

pub short_cut : (at : ℕ) (es : List Extent) → AreShortExtents es → AreShortExtents (cut_at at es)
short_cut at [] s = tt
short_cut at (e ∷ es) s = let le = s.0 in (omega (arith, le), short_cut at es s.1)
