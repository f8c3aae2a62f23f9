-- How the words of a set that is written anew grow with a change of the set.
use Rattle.std.proofs.Common.{◌≡◌, ◌⊎◌, ℕ, zero, suc, ◌+◌, ◌-◌, ◌^◌, ◌<◌, ◌≤◌, ◌==◌, List, [], ◌∷◌, length, max, arith, ⊎_elim, sym, refl, subst, ◌∙◌, if◌then◌else◌}
use Rattle.std.specs.Prelude.{nat_le, nat_lt, remove}
use Rattle.std.specs.Int.{div_ceil}
use Rattle.std.proofs.lemmas.Bool.{cases_lt, cases_eq}
use Rattle.std.proofs.lemmas.Bool.Decides.{nat_tests}
use Rattle.std.proofs.lemmas.Grind.{common_steps}
use Rattle.zr_base.specs.declared.space.Extent.{Extent}
use Rattle.zr_base.specs.Extents.{extent_at, IsMaximal, IsMaximalFrom, HasAll, HasNone, AddsUnits, RemovesUnits}
use Rattle.zr_base.proofs.ExtentSets.{has_unit-below, raised, starts_again, same_extents, remove_removes, AddsFrom, RemovesFrom}
use Rattle.zr_rules.specs.Owed.{set_words, extent_words}

-- the words of a run of so many units
abbrev run_words : ℕ → ℕ → ℕ
run_words version n = if version == 1 then div_ceil n 32768 else (if nat_le n 32768 then 1 else 2)

-- how many words more there may be where units are taken out
abbrev pub words_of_a_gap : ℕ → ℕ
words_of_a_gap version = if version == 1 then 1 else 2

joined_words : (version a b : ℕ) → run_words version (a + b) ≤ run_words version a + run_words version b
joined_words version a b =
    ⊎_elim
    (λ one. grind (arith, nat_tests, one))
    (λ two. grind (arith, nat_tests, two))
    (cases_eq version 1)

part_words : (version a b : ℕ) → a ≤ b → run_words version a ≤ run_words version b
part_words version a b le =
    ⊎_elim
    (λ one. grind (arith, nat_tests, one, le))
    (λ two. grind (arith, nat_tests, two, le))
    (cases_eq version 1)

split_words : (version a b n : ℕ) → a + b ≤ n → run_words version a + run_words version b ≤ run_words version n + words_of_a_gap version
split_words version a b n le =
    ⊎_elim
    (λ one. grind (arith, nat_tests, one, le))
    (λ two. grind (arith, nat_tests, two, le))
    (cases_eq version 1)

words_cons : (version : ℕ) (e : Extent) (es : List Extent) → set_words version (e ∷ es) ≡ extent_words version e + set_words version es
words_cons version e es = grind (arith, common_steps)

-- an extent that is added, joined to those that it touches
abbrev add_in : List Extent → Extent → List Extent
add_in [] e = e ∷ []
add_in (x ∷ xs) e =
    if nat_lt (x.start + x.len) e.start then x ∷ add_in xs e
    else (if nat_lt (e.start + e.len) x.start then e ∷ x ∷ xs
    else (if x.start + x.len == e.start then add_in xs (record { start = x.start; len = x.len + e.len })
    else record { start = e.start; len = e.len + x.len } ∷ xs))

add_past : (x e : Extent) (xs : List Extent) → x.start + x.len < e.start → add_in (x ∷ xs) e ≡ x ∷ add_in xs e
add_past x e xs lt = grind (arith, nat_tests, lt)

add_front : (x e : Extent) (xs : List Extent) → e.start ≤ x.start + x.len → e.start + e.len < x.start → add_in (x ∷ xs) e ≡ e ∷ x ∷ xs
add_front x e xs ge lt = grind (arith, nat_tests, ge, lt)

add_after : (x e : Extent) (xs : List Extent) → x.start ≤ e.start + e.len → x.start + x.len ≡ e.start → add_in (x ∷ xs) e ≡ add_in xs (record { start = x.start; len = x.len + e.len })
add_after x e xs ge meets = grind (arith, nat_tests, ge, meets)

add_before : (x e : Extent) (xs : List Extent) → e.start < x.start + x.len → x.start ≤ e.start + e.len → add_in (x ∷ xs) e ≡ record { start = e.start; len = e.len + x.len } ∷ xs
add_before x e xs lt ge = grind (arith, nat_tests, lt, ge)

none_tail : (x : Extent) (xs : List Extent) (e : Extent) → HasNone (x ∷ xs) e → HasNone xs e
none_tail x xs e none u h = grind (arith, nat_tests, none u h)

-- what is joined has no unit of the rest
none_joined : (x e : Extent) (xs : List Extent) → IsMaximalFrom (x.start + x.len + 1) xs → x.start + x.len ≡ e.start → HasNone (x ∷ xs) e → HasNone xs (record { start = x.start; len = x.len + e.len })
none_joined x e xs m meets none u h =
    ⊎_elim
    (λ lt. has_unit-below (x.start + x.len + 1) u xs m (omega (arith, lt)))
    (λ ge. grind (arith, nat_tests, h, ge, meets, none u))
    (cases_lt u (x.start + x.len))

record AddsIn (version low : ℕ) (old new : List Extent) (e : Extent) : Type 0 where
  adds : AddsFrom low old new e
  words : set_words version new ≤ set_words version old + extent_words version e

adds_in : (version low : ℕ) (xs : List Extent) (e : Extent) → IsMaximalFrom low xs → low ≤ e.start → 0 < e.len → e.start + e.len ≤ 2 ^ 62 → HasNone xs e → AddsIn version low xs (add_in xs e) e
adds_in version low [] e m le some fits none = record {
  adds = record { members = λ u. grind (arith, nat_tests); count = omega arith; maximal = (le, some, fits, tt) };
  words = omega (arith, words_cons version e []);
}
adds_in version low (x ∷ xs) e m le some fits none =
    ⊎_elim
    (λ past.
    let rest : AddsIn version (x.start + x.len + 1) xs (add_in xs e) e = adds_in version (x.start + x.len + 1) xs e m.3 (omega (arith, past)) some fits (none_tail x xs e none) in
    subst (λ (t : List Extent). AddsIn version low (x ∷ xs) t e) (sym (add_past x e xs past)) (record {
      adds = record {
        members = λ u. grind (arith, nat_tests, rest.adds.members u);
        count = omega (arith, rest.adds.count);
        maximal = (m.0, m.1, m.2, rest.adds.maximal);
      };
      words = omega (arith, words_cons version x xs, words_cons version x (add_in xs e), rest.words);
    }))
    (λ here. ⊎_elim
    (λ before.
    subst (λ (t : List Extent). AddsIn version low (x ∷ xs) t e) (sym (add_front x e xs here before)) (record {
      adds = record {
        members = λ u. grind (arith, nat_tests);
        count = omega arith;
        maximal = (le, some, fits, (omega (arith, before), m.1, m.2, m.3));
      };
      words = omega (arith, words_cons version e (x ∷ xs));
    }))
    (λ touch. ⊎_elim
    (λ after.
    let joined : Extent = record { start = x.start; len = x.len + e.len } in
    let rest : AddsIn version low xs (add_in xs joined) joined = adds_in version low xs joined (raised (x.start + x.len + 1) low xs m.3 (starts_again (x.start + x.len + 1) low xs m.3 (omega (arith, m.0)))) m.0 (omega (arith, some)) (omega (arith, after, fits)) (none_joined x e xs m.3 after none) in
    subst (λ (t : List Extent). AddsIn version low (x ∷ xs) t e) (sym (add_after x e xs touch after)) (record {
      adds = record {
        members = λ u. grind (arith, nat_tests, rest.adds.members u, after);
        count = omega (arith, rest.adds.count);
        maximal = rest.adds.maximal;
      };
      words = omega (arith, words_cons version x xs, rest.words, joined_words version x.len e.len);
    }))
    (λ apart.
    let inside : e.start < x.start + x.len = omega (arith, here, apart) in
    let meets : e.start + e.len ≡ x.start = ⊎_elim
    (λ over. absurd (grind (arith, nat_tests, none (max e.start x.start), over, inside, some, m.1)))
    (λ under. omega (arith, under, touch))
    (cases_lt x.start (e.start + e.len)) in
    subst (λ (t : List Extent). AddsIn version low (x ∷ xs) t e) (sym (add_before x e xs inside touch)) (record {
      adds = record {
        members = λ u. grind (arith, nat_tests, meets);
        count = omega arith;
        maximal = (le, omega (arith, some), omega (arith, meets, m.2), raised (x.start + x.len + 1) (e.start + (e.len + x.len) + 1) xs m.3 (starts_again (x.start + x.len + 1) (e.start + (e.len + x.len) + 1) xs m.3 (omega (arith, meets))));
      };
      words = omega (arith, words_cons version x xs, words_cons version (record { start = e.start; len = e.len + x.len }) xs, joined_words version e.len x.len);
    }))
    (cases_eq (x.start + x.len) e.start))
    (cases_lt (e.start + e.len) x.start))
    (cases_lt (x.start + x.len) e.start)

-- Where an extent is added, a set has at most the words of that extent more: one, if it has at most 32,768 units.
pub words_added : (version : ℕ) (old new : List Extent) (e : Extent) → IsMaximal old → 0 < e.len → e.start + e.len ≤ 2 ^ 62 → HasNone old e → AddsUnits old new e → set_words version new ≤ set_words version old + extent_words version e
words_added version old new e m some fits none added =
    let a : AddsIn version 0 old (add_in old e) e = adds_in version 0 old e m (omega arith) some fits none in
    let same : new ≡ add_in old e = same_extents 0 0 new (add_in old e) added.maximal a.adds.maximal (λ u. added.members u ∙ sym (a.adds.members u)) in
    subst (λ (t : List Extent). set_words version t ≤ set_words version old + extent_words version e) (sym same) a.words

pub words_of_a_short : (version : ℕ) (e : Extent) → 0 < e.len → e.len ≤ 32768 → extent_words version e ≡ 1
words_of_a_short version e some short =
    ⊎_elim
    (λ one. grind (arith, nat_tests, one, some, short))
    (λ two. grind (arith, nat_tests, two, short))
    (cases_eq version 1)

-- the parts of an extent before and behind another, where they have units
abbrev left_over : Extent → Extent → List Extent → List Extent
left_over x e xs =
    if e.start == x.start
    then (if e.start + e.len == x.start + x.len then xs else record { start = e.start + e.len; len = x.start + x.len - (e.start + e.len) } ∷ xs)
    else (if e.start + e.len == x.start + x.len
    then record { start = x.start; len = e.start - x.start } ∷ xs
    else record { start = x.start; len = e.start - x.start } ∷ record { start = e.start + e.len; len = x.start + x.len - (e.start + e.len) } ∷ xs)

-- an extent that is taken out
abbrev remove_in : List Extent → Extent → List Extent
remove_in [] e = []
remove_in (x ∷ xs) e = if nat_le (x.start + x.len) e.start then x ∷ remove_in xs e else left_over x e xs

remove_past : (x e : Extent) (xs : List Extent) → x.start + x.len ≤ e.start → remove_in (x ∷ xs) e ≡ x ∷ remove_in xs e
remove_past x e xs le = grind (arith, nat_tests, le)

remove_here : (x e : Extent) (xs : List Extent) → e.start < x.start + x.len → remove_in (x ∷ xs) e ≡ left_over x e xs
remove_here x e xs lt = grind (arith, nat_tests, lt)

all_tail : (x : Extent) (xs : List Extent) (e : Extent) → x.start + x.len ≤ e.start → HasAll (x ∷ xs) e → HasAll xs e
all_tail x xs e le all u h = grind (arith, nat_tests, all u h)

record RemovesIn (version low : ℕ) (old new : List Extent) (e : Extent) : Type 0 where
  removes : RemovesFrom low old new e
  words : set_words version new ≤ set_words version old + words_of_a_gap version

-- the extent is within the first
record IsInFirst (x e : Extent) : Type 0 where
  some : 0 < e.len
  from : x.start ≤ e.start
  to : e.start + e.len ≤ x.start + x.len

in_first : (low : ℕ) (x e : Extent) (xs : List Extent) → IsMaximalFrom low (x ∷ xs) → 0 < e.len → e.start < x.start + x.len → HasAll (x ∷ xs) e → IsInFirst x e
in_first low x e xs m some inside all = record {
  some = some;
  from = ⊎_elim
      (λ lt. absurd (grind (arith, nat_tests, all e.start, has_unit-below (x.start + x.len + 1) e.start xs m.3)))
      (λ ge. ge)
      (cases_lt e.start x.start);
  to = ⊎_elim
      (λ lt. absurd (grind (arith, nat_tests, all (x.start + x.len), has_unit-below (x.start + x.len + 1) (x.start + x.len) xs m.3)))
      (λ ge. ge)
      (cases_lt (x.start + x.len) (e.start + e.len));
}

left_whole : (version low : ℕ) (x e : Extent) (xs : List Extent) → IsMaximalFrom low (x ∷ xs) → IsInFirst x e → e.start ≡ x.start → e.start + e.len ≡ x.start + x.len → RemovesIn version low (x ∷ xs) xs e
left_whole version low x e xs m i start end = record {
  removes = record {
    members = λ u. grind (arith, nat_tests, start, end, has_unit-below (x.start + x.len + 1) u xs m.3);
    count = omega (arith, start, end);
    maximal = raised (x.start + x.len + 1) low xs m.3 (starts_again (x.start + x.len + 1) low xs m.3 (omega (arith, m.0)));
  };
  words = omega (arith, words_cons version x xs);
}

left_end : (version low : ℕ) (x e : Extent) (xs : List Extent) → IsMaximalFrom low (x ∷ xs) → IsInFirst x e → e.start ≡ x.start → e.start + e.len < x.start + x.len → RemovesIn version low (x ∷ xs) (record { start = e.start + e.len; len = x.start + x.len - (e.start + e.len) } ∷ xs) e
left_end version low x e xs m i start less =
    let end : e.start + e.len + (x.start + x.len - (e.start + e.len)) ≡ x.start + x.len = omega (arith, less) in
    record {
      removes = record {
        members = λ u. grind (arith, nat_tests, start, less, i.some, has_unit-below (x.start + x.len + 1) u xs m.3);
        count = omega (arith, start, less);
        maximal = (omega (arith, start, m.0), omega (arith, less), omega (arith, end, m.2), subst (λ (n : ℕ). IsMaximalFrom (n + 1) xs) (sym end) m.3);
      };
      words = omega (arith, words_cons version x xs, words_cons version (record { start = e.start + e.len; len = x.start + x.len - (e.start + e.len) }) xs, part_words version (x.start + x.len - (e.start + e.len)) x.len (omega (arith, start, less)));
    }

left_start : (version low : ℕ) (x e : Extent) (xs : List Extent) → IsMaximalFrom low (x ∷ xs) → IsInFirst x e → x.start < e.start → e.start + e.len ≡ x.start + x.len → RemovesIn version low (x ∷ xs) (record { start = x.start; len = e.start - x.start } ∷ xs) e
left_start version low x e xs m i later end = record {
  removes = record {
    members = λ u. grind (arith, nat_tests, later, end, i.some, has_unit-below (x.start + x.len + 1) u xs m.3);
    count = omega (arith, later, end);
    maximal = (m.0, omega (arith, later), omega (arith, later, end, m.2), raised (x.start + x.len + 1) _ xs m.3 (starts_again (x.start + x.len + 1) _ xs m.3 (omega (arith, later, end, i.some))));
  };
  words = omega (arith, words_cons version x xs, words_cons version (record { start = x.start; len = e.start - x.start }) xs, part_words version (e.start - x.start) x.len (omega (arith, later, end)));
}

left_both : (version low : ℕ) (x e : Extent) (xs : List Extent) → IsMaximalFrom low (x ∷ xs) → IsInFirst x e → x.start < e.start → e.start + e.len < x.start + x.len → RemovesIn version low (x ∷ xs) (record { start = x.start; len = e.start - x.start } ∷ record { start = e.start + e.len; len = x.start + x.len - (e.start + e.len) } ∷ xs) e
left_both version low x e xs m i later less =
    let end : e.start + e.len + (x.start + x.len - (e.start + e.len)) ≡ x.start + x.len = omega (arith, less) in
    let right : Extent = record { start = e.start + e.len; len = x.start + x.len - (e.start + e.len) } in
    record {
      removes = record {
        members = λ u. grind (arith, nat_tests, later, less, i.some, has_unit-below (x.start + x.len + 1) u xs m.3);
        count = omega (arith, later, less);
        maximal = (m.0, omega (arith, later), omega (arith, later, less, m.2), (omega (arith, later, i.some), omega (arith, less), omega (arith, end, m.2), subst (λ (n : ℕ). IsMaximalFrom (n + 1) xs) (sym end) m.3));
      };
      words = omega (arith, words_cons version x xs, words_cons version (record { start = x.start; len = e.start - x.start }) (right ∷ xs), words_cons version right xs, split_words version (e.start - x.start) (x.start + x.len - (e.start + e.len)) x.len (omega (arith, later, less)));
    }

left_is : (version low : ℕ) (x e : Extent) (xs : List Extent) → IsMaximalFrom low (x ∷ xs) → IsInFirst x e → RemovesIn version low (x ∷ xs) (left_over x e xs) e
left_is version low x e xs m i =
    ⊎_elim
    (λ start. ⊎_elim
    (λ end. subst (λ (t : List Extent). RemovesIn version low (x ∷ xs) t e) (grind (arith, nat_tests, start, end)) (left_whole version low x e xs m i start end))
    (λ less. subst (λ (t : List Extent). RemovesIn version low (x ∷ xs) t e) (grind (arith, nat_tests, start, less)) (left_end version low x e xs m i start (omega (arith, less, i.to))))
    (cases_eq (e.start + e.len) (x.start + x.len)))
    (λ later. ⊎_elim
    (λ end. subst (λ (t : List Extent). RemovesIn version low (x ∷ xs) t e) (grind (arith, nat_tests, later, end)) (left_start version low x e xs m i (omega (arith, later, i.from)) end))
    (λ less. subst (λ (t : List Extent). RemovesIn version low (x ∷ xs) t e) (grind (arith, nat_tests, later, less)) (left_both version low x e xs m i (omega (arith, later, i.from)) (omega (arith, less, i.to))))
    (cases_eq (e.start + e.len) (x.start + x.len)))
    (cases_eq e.start x.start)

removes_in : (version low : ℕ) (xs : List Extent) (e : Extent) → IsMaximalFrom low xs → 0 < e.len → HasAll xs e → RemovesIn version low xs (remove_in xs e) e
removes_in version low [] e m some all = absurd (grind (arith, nat_tests, all e.start, some))
removes_in version low (x ∷ xs) e m some all =
    ⊎_elim
    (λ here. subst (λ (t : List Extent). RemovesIn version low (x ∷ xs) t e) (sym (remove_here x e xs here)) (left_is version low x e xs m (in_first low x e xs m some here all)))
    (λ past.
    let rest : RemovesIn version (x.start + x.len + 1) xs (remove_in xs e) e = removes_in version (x.start + x.len + 1) xs e m.3 some (all_tail x xs e past all) in
    subst (λ (t : List Extent). RemovesIn version low (x ∷ xs) t e) (sym (remove_past x e xs past)) (record {
      removes = record {
        members = λ u. grind (arith, nat_tests, rest.removes.members u, past);
        count = omega (arith, rest.removes.count);
        maximal = (m.0, m.1, m.2, rest.removes.maximal);
      };
      words = omega (arith, words_cons version x xs, words_cons version x (remove_in xs e), rest.words);
    }))
    (cases_lt e.start (x.start + x.len))

-- Where an extent is taken out, a set has at most one word more in version 1, and two in version 2.
pub words_removed : (version : ℕ) (old new : List Extent) (e : Extent) → IsMaximal old → 0 < e.len → HasAll old e → RemovesUnits old new e → set_words version new ≤ set_words version old + words_of_a_gap version
words_removed version old new e m some all removed =
    let r : RemovesIn version 0 old (remove_in old e) e = removes_in version 0 old e m some all in
    let same : new ≡ remove_in old e = same_extents 0 0 new (remove_in old e) removed.maximal r.removes.maximal (λ u. removed.members u ∙ sym (r.removes.members u)) in
    subst (λ (t : List Extent). set_words version t ≤ set_words version old + words_of_a_gap version) (sym same) r.words

words_without : (version i : ℕ) (es : List Extent) → i < length es → set_words version (remove es i) + extent_words version (extent_at es i) ≡ set_words version es
words_without version i [] lt = absurd (omega arith)
words_without version zero (e ∷ es) lt = omega (arith, words_cons version e es)
words_without version (suc i) (e ∷ es) lt = omega (arith, words_cons version e es, words_cons version e (remove es i), words_without version i es (omega arith))

-- Where one of its extents is taken out whole, a set has the words of that extent less.
pub words_removed_whole : (version i : ℕ) (old new : List Extent) → IsMaximal old → i < length old → RemovesUnits old new (extent_at old i) → set_words version new + extent_words version (extent_at old i) ≡ set_words version old
words_removed_whole version i old new m lt removed =
    let r : RemovesFrom 0 old (remove old i) (extent_at old i) = remove_removes 0 i old (extent_at old i) (record { start = 0; len = 0 }) m lt refl refl in
    let same : new ≡ remove old i = same_extents 0 0 new (remove old i) removed.maximal r.maximal (λ u. removed.members u ∙ sym (r.members u)) in
    subst (λ (t : List Extent). set_words version t + extent_words version (extent_at old i) ≡ set_words version old) (sym same) (words_without version i old lt)

-- an extent has at most as many words as units
pub words_by_units : (version : ℕ) (e : Extent) → 0 < e.len → (version ≡ 1) ⊎ (version ≡ 2) → extent_words version e ≤ e.len
words_by_units version e some which = ⊎_elim (λ one. grind (arith, nat_tests, one, some)) (λ two. grind (arith, nat_tests, two, some)) which

-- version 2 has no more words than version 1
pub words_by_version : (e : Extent) → 0 < e.len → extent_words 2 e ≤ extent_words 1 e
words_by_version e some = grind (arith, nat_tests, some)
