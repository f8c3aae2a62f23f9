-- The words of a set to which several extents come, or from which they go.
use Rattle.std.proofs.Common.{◌≡◌, ℕ, ◌+◌, ◌-◌, ◌*◌, ◌≤◌, ◌^◌, Bool, true, false, not, ◌&&◌, ◌||◌, List, [], ◌∷◌, ◌++◌, length, refl, ◌∙◌, sym, arith, ⊎_elim}
use Rattle.std.proofs.lemmas.Bool.{cases_lt}
use Rattle.std.proofs.lemmas.Bool.Decides.{nat_tests}
use Rattle.zr_base.specs.declared.space.Extent.{Extent}
use Rattle.zr_base.specs.Extents.{in_extent, has_unit, IsMaximalFrom, IsMaximal}
use Rattle.zr_base.proofs.ExtentSets.{same_extents, has_unit-below}
use Rattle.zr_rules.specs.Owed.{set_words}
use Rattle.zr_reckon.proofs.SetWords.{words-cons, has_unit-high, join, part, cut_words-two, some_words, extent_words-is, lowered}

-- a list of the set with all of the extents
record AllJoined (version : ℕ) (es xs : List Extent) : Type 0 where
  pub all : List Extent
  pub maximal : IsMaximal all
  pub members : (u : ℕ) → has_unit all u ≡ (has_unit es u || has_unit xs u)
  pub words : set_words version all ≤ set_words version es + set_words version xs

join_all : (version : ℕ) (es xs : List Extent) → IsMaximal es → ((u : ℕ) → 2 ^ 62 ≤ u → has_unit xs u ≡ false) → AllJoined version es xs
join_all version es [] m low = record { all = es; maximal = m; members = λ u. or_false (has_unit es u); words = omega arith }
  where
    or_false : (b : Bool) → b ≡ (b || false)
    or_false true = refl
    or_false false = refl
join_all version es (x ∷ xs) m low =
    let rest = join_all version es xs m (λ u le. let h = low u le in grind (arith, h)) in
    let r = rest.words in
    let there = words-cons version x xs in
    ⊎_elim
    (λ some.
    let fits : x.start + x.len ≤ 2 ^ 62 = ⊎_elim (λ high. let h = low (x.start + x.len - 1) (omega (arith, high)) in absurd (grind (arith, nat_tests, h, some, high))) (λ le. le) (cases_lt (2 ^ 62) (x.start + x.len)) in
    let j = join version 0 x rest.all rest.maximal (omega arith) some fits in
    let w = j.words in
    record {
      all = j.all;
      maximal = j.maximal;
      members = λ u. let a = j.members u in let b = rest.members u in three (has_unit j.all u) (has_unit rest.all u) (has_unit es u) (in_extent x u) (has_unit xs u) a b;
      words = omega (arith, r, w, there);
    })
    (λ none.
    record {
      all = rest.all;
      maximal = rest.maximal;
      members = λ u. let b = rest.members u in grind (arith, nat_tests, b, none);
      words = omega (arith, r, there);
    })
    (cases_lt 0 x.len)
  where
    three : (a r e x y : Bool) → a ≡ (r || x) → r ≡ (e || y) → a ≡ (e || (x || y))
    three a r e x y p q = grind (arith, p, q)

-- a list of the set without any of them
record AllParted (version : ℕ) (es xs : List Extent) : Type 0 where
  pub all : List Extent
  pub maximal : IsMaximal all
  pub members : (u : ℕ) → has_unit all u ≡ (has_unit es u && not (has_unit xs u))
  pub words : set_words version all ≤ set_words version es + 2 * length xs

part_all : (version : ℕ) (es xs : List Extent) → IsMaximal es → AllParted version es xs
part_all version es [] m = record { all = es; maximal = m; members = λ u. and_true (has_unit es u); words = omega arith }
  where
    and_true : (b : Bool) → b ≡ (b && true)
    and_true true = refl
    and_true false = refl
part_all version es (x ∷ xs) m =
    let rest = part_all version es xs m in
    let r = rest.words in
    ⊎_elim
    (λ some.
    let p = part version 0 x rest.all rest.maximal some in
    let w = p.words in
    let two = cut_words-two version in
    record {
      all = p.all;
      maximal = p.maximal;
      members = λ u. let a = p.members u in let b = rest.members u in three (has_unit p.all u) (has_unit rest.all u) (has_unit es u) (in_extent x u) (has_unit xs u) a b;
      words = omega (arith, r, w, two);
    })
    (λ none.
    record {
      all = rest.all;
      maximal = rest.maximal;
      members = λ u. let b = rest.members u in grind (arith, nat_tests, b, none);
      words = omega (arith, r);
    })
    (cases_lt 0 x.len)
  where
    three : (a r e x y : Bool) → a ≡ (r && not x) → r ≡ (e && not y) → a ≡ (e && not (x || y))
    three a r e x y p q = grind (arith, p, q)

pub all_come : (version : ℕ) (es fs xs : List Extent) → IsMaximal es → IsMaximal fs → ((u : ℕ) → has_unit fs u ≡ (has_unit es u || has_unit xs u)) → set_words version fs ≤ set_words version es + set_words version xs
all_come version es fs xs m n same =
    let j = join_all version es xs m (λ u le. let h = has_unit-high 0 u fs n le in let s = same u in grind (arith, h, s)) in
    let e = same_extents 0 0 fs j.all n j.maximal (λ u. same u ∙ sym (j.members u)) in
    let w = j.words in
    rw e w

pub all_go : (version : ℕ) (es fs xs : List Extent) → IsMaximal es → IsMaximal fs → ((u : ℕ) → has_unit fs u ≡ (has_unit es u && not (has_unit xs u))) → set_words version fs ≤ set_words version es + 2 * length xs
all_go version es fs xs m n same =
    let j = part_all version es xs m in
    let e = same_extents 0 0 fs j.all n j.maximal (λ u. same u ∙ sym (j.members u)) in
    let w = j.words in
    rw e w

-- the front of a set and the rest of it have its words together
pub words_append : (version : ℕ) (xs ys : List Extent) → set_words version (xs ++ ys) ≡ set_words version xs + set_words version ys
words_append version [] ys = omega arith
words_append version (x ∷ xs) ys = let r = words_append version xs ys in let a = words-cons version x xs in let b = words-cons version x (xs ++ ys) in omega (arith, r, a, b)

pub front_words : (version low : ℕ) (xs ys : List Extent) → IsMaximalFrom low (xs ++ ys) → length xs ≤ set_words version xs
front_words version low [] ys m = omega arith
front_words version low (x ∷ xs) ys m =
    let r = front_words version (x.start + x.len + 1) xs ys m.3 in
    let a = words-cons version x xs in
    let s = some_words version x m.1 in
    let e = extent_words-is version x in
    omega (arith, r, a, s, e)

pub rest_maximal : (low : ℕ) (xs ys : List Extent) → IsMaximalFrom low (xs ++ ys) → IsMaximalFrom low ys
rest_maximal low [] ys m = m
rest_maximal low (x ∷ xs) ys m = let a = m.0 in lowered low (x.start + x.len + 1) ys (omega (arith, a)) (rest_maximal (x.start + x.len + 1) xs ys m.3)

pub has_append : (xs ys : List Extent) (u : ℕ) → has_unit (xs ++ ys) u ≡ (has_unit xs u || has_unit ys u)
has_append [] ys u = refl
has_append (x ∷ xs) ys u = let r = has_append xs ys u in grind (arith, r)

-- the front has no unit of the rest
pub front_apart : (low : ℕ) (xs ys : List Extent) → IsMaximalFrom low (xs ++ ys) → (u : ℕ) → has_unit xs u ≡ true → has_unit ys u ≡ false
front_apart low [] ys m u is = absurd (cc)
front_apart low (x ∷ xs) ys m u is =
    let rest = front_apart (x.start + x.len + 1) xs ys m.3 u in
    let below = has_unit-below (x.start + x.len + 1) u (xs ++ ys) m.3 in
    let both = has_append xs ys u in
    grind (arith, nat_tests, rest, below, both, is)
