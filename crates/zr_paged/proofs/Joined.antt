-- A part of a list of maximal extents is changed.
use Rattle.std.proofs.Common.{◌≡◌, ℕ, ◌+◌, ◌-◌, ◌<◌, ◌≤◌, Bool, true, false, not, ◌&&◌, ◌||◌, List, [], ◌∷◌, ◌++◌, length, refl, sym, ap, subst, ◌∙◌, arith, append_assoc, ⊎_elim}
use Rattle.std.proofs.lemmas.List.{append-nil}
use Rattle.std.proofs.lemmas.Grind.{common_steps}
use Rattle.std.proofs.lemmas.Bool.{cases_lt}
use Rattle.std.proofs.lemmas.Bool.Decides.{nat_tests}
use Rattle.zr_base.specs.declared.space.Extent.{Extent}
use Rattle.zr_base.specs.Extents.{has_unit, in_extent, unit_count, IsMaximal, IsMaximalFrom, HasAll, RemovesUnits}
use Rattle.zr_base.proofs.ExtentSets.{has_unit-below, raised, StartsFrom, StartsAbove}
use Rattle.zr_paged.specs.Runs.{start_of}

pub has_append : (xs ys : List Extent) (u : ℕ) → has_unit (xs ++ ys) u ≡ (has_unit xs u || has_unit ys u)
has_append [] ys u = refl
has_append (x ∷ xs) ys u = grind (arith, common_steps, has_append xs ys u)

pub count_append : (xs ys : List Extent) → unit_count (xs ++ ys) ≡ unit_count xs + unit_count ys
count_append [] ys = omega arith
count_append (x ∷ xs) ys = omega (arith, count_append xs ys)

pub lower : (low high : ℕ) (xs : List Extent) → low ≤ high → IsMaximalFrom high xs → IsMaximalFrom low xs
lower low high [] le m = tt
lower low high (x ∷ xs) le m = (omega (arith, m.0), m.1, m.2, m.3)

pub maximal_back : (low : ℕ) (xs ys : List Extent) → IsMaximalFrom low (xs ++ ys) → IsMaximalFrom low ys
maximal_back low [] ys m = m
maximal_back low (x ∷ xs) ys m = lower low (x.start + x.len + 1) ys (omega (arith, m.0)) (maximal_back (x.start + x.len + 1) xs ys m.3)

pub maximal_front : (low : ℕ) (xs ys : List Extent) → IsMaximalFrom low (xs ++ ys) → IsMaximalFrom low xs
maximal_front low [] ys m = tt
maximal_front low (x ∷ xs) ys m = (m.0, m.1, m.2, maximal_front (x.start + x.len + 1) xs ys m.3)

-- what stands before an extent ends below it
pub before : (low u : ℕ) (xs : List Extent) (y : Extent) (ys : List Extent) → IsMaximalFrom low (xs ++ y ∷ ys) → has_unit xs u ≡ true → u + 1 < y.start
before low u [] y ys m has = absurd (cc)
before low u (x ∷ xs) y ys m has =
    let back : IsMaximalFrom (x.start + x.len + 1) (y ∷ ys) = maximal_back (x.start + x.len + 1) xs (y ∷ ys) m.3 in
    let start : x.start + x.len + 1 ≤ y.start = back.0 in
    let rest : has_unit xs u ≡ true → u + 1 < y.start = before (x.start + x.len + 1) u xs y ys m.3 in
    grind (arith, nat_tests, has, start, rest)

-- no unit stands in two parts
pub apart : (low u : ℕ) (xs ys : List Extent) → IsMaximalFrom low (xs ++ ys) → has_unit xs u ≡ true → has_unit ys u ≡ false
apart low u xs [] m has = refl
apart low u xs (y ∷ ys) m has =
    let back : IsMaximalFrom low (y ∷ ys) = maximal_back low xs (y ∷ ys) m in
    has_unit-below y.start u (y ∷ ys) (omega arith, back.1, back.2, back.3) (omega (arith, before low u xs y ys m has))

pub apart_left : (low u : ℕ) (xs ys : List Extent) → IsMaximalFrom low (xs ++ ys) → has_unit ys u ≡ true → has_unit xs u ≡ false
apart_left low u xs ys m there =
    elim (has_unit xs u) as (λ b. (has_unit xs u ≡ b) → b ≡ false) [ true ↦ λ is. absurd (grind (arith, common_steps, apart low u xs ys m is, there)) | false ↦ λ is. refl ] refl

-- extents that end below others stand before them
pub glue : (low high : ℕ) (qs cs : List Extent) → IsMaximalFrom low qs → IsMaximalFrom high cs → low ≤ high → ((u : ℕ) → has_unit qs u ≡ true → u + 1 < high) → IsMaximalFrom low (qs ++ cs)
glue low high [] cs m n le ends = lower low high cs le n
glue low high (q ∷ qs) cs m n le ends =
    let some : 0 < q.len = m.1 in
    let last : has_unit (q ∷ qs) (q.start + q.len - 1) ≡ true = grind (arith, nat_tests, some) in
    let end : q.start + q.len + 1 ≤ high = omega (arith, ends (q.start + q.len - 1) last, some) in
    (m.0, m.1, m.2, glue (q.start + q.len + 1) high qs cs m.3 n end (λ u is. ends u (grind (arith, common_steps, is))))

pub starts_from : (low : ℕ) (ps qs : List Extent) → IsMaximalFrom low ps → ((u : ℕ) → has_unit qs u ≡ true → has_unit ps u ≡ true) → IsMaximal qs → StartsFrom low qs
starts_from low ps [] m inside n = tt
starts_from low ps (q ∷ qs) m inside n =
    let some : 0 < q.len = n.1 in
    let first : has_unit (q ∷ qs) q.start ≡ true = grind (arith, nat_tests, some) in
    ⊎_elim
    (λ lt. absurd (grind (arith, common_steps, has_unit-below low q.start ps m lt, inside q.start first)))
    (λ ge. ge)
    (cases_lt q.start low)

swap_front : (low : ℕ) (ps qs cs : List Extent) → IsMaximalFrom low (ps ++ cs) → IsMaximal qs → ((u : ℕ) → has_unit qs u ≡ true → has_unit ps u ≡ true) → IsMaximalFrom low (qs ++ cs)
swap_front low ps qs [] m n inside =
    subst (λ (es : List Extent). IsMaximalFrom low es) (sym (append-nil qs)) (raised 0 low qs n (starts_from low ps qs (maximal_front low ps [] m) inside n))
swap_front low ps qs (c ∷ cs) m n inside =
    let back : IsMaximalFrom low (c ∷ cs) = maximal_back low ps (c ∷ cs) m in
    glue low c.start qs (c ∷ cs) (raised 0 low qs n (starts_from low ps qs (maximal_front low ps (c ∷ cs) m) inside n)) (omega arith, back.1, back.2, back.3) back.0 (λ u is. before low u ps c cs m (inside u is))

-- a part loses units
pub swap : (low : ℕ) (los ps qs cs : List Extent) → IsMaximalFrom low (los ++ (ps ++ cs)) → IsMaximal qs → ((u : ℕ) → has_unit qs u ≡ true → has_unit ps u ≡ true) → IsMaximalFrom low (los ++ (qs ++ cs))
swap low [] ps qs cs m n inside = swap_front low ps qs cs m n inside
swap low (a ∷ los) ps qs cs m n inside = (m.0, m.1, m.2, swap (a.start + a.len + 1) los ps qs cs m.3 n inside)

pub has_three : (los ps cs : List Extent) (u : ℕ) → has_unit (los ++ (ps ++ cs)) u ≡ (has_unit los u || (has_unit ps u || has_unit cs u))
has_three los ps cs u = has_append los (ps ++ cs) u ∙ ap (λ b. has_unit los u || b) (has_append ps cs u)

pub removes_all : (los ps qs cs : List Extent) (e : Extent) → IsMaximal (los ++ (ps ++ cs)) → RemovesUnits ps qs e → HasAll ps e → RemovesUnits (los ++ (ps ++ cs)) (los ++ (qs ++ cs)) e
removes_all los ps qs cs e m r all = record {
  members = λ u.
      let old : has_unit (los ++ (ps ++ cs)) u ≡ (has_unit los u || (has_unit ps u || has_unit cs u)) = has_three los ps cs u in
      let new : has_unit (los ++ (qs ++ cs)) u ≡ (has_unit los u || (has_unit qs u || has_unit cs u)) = has_three los qs cs u in
      let right : has_unit ps u ≡ true → has_unit cs u ≡ false = apart 0 u ps cs (maximal_back 0 los (ps ++ cs) m) in
      let left : has_unit (ps ++ cs) u ≡ true → has_unit los u ≡ false = apart_left 0 u los (ps ++ cs) m in
      let there : has_unit (ps ++ cs) u ≡ (has_unit ps u || has_unit cs u) = has_append ps cs u in
      let in_page : in_extent e u ≡ true → has_unit ps u ≡ true = all u in
      rw (old, new) (by_cases (has_unit los u) (has_unit ps u) (has_unit cs u) (has_unit qs u) (in_extent e u) (has_unit (ps ++ cs) u) (r.members u) right left there in_page);
  count = omega (arith, count_append los (ps ++ cs), count_append ps cs, count_append los (qs ++ cs), count_append qs cs, r.count);
  maximal = swap 0 los ps qs cs m r.maximal (λ u is. grind (arith, common_steps, r.members u, is));
}
  where
    by_cases : (a p c q i pc : Bool) → q ≡ (p && not i) → (p ≡ true → c ≡ false) → (pc ≡ true → a ≡ false) → pc ≡ (p || c) → (i ≡ true → p ≡ true) → (a || (q || c)) ≡ ((a || (p || c)) && not i)
    by_cases a p c q true pc is right left there inside =
        let pt = inside refl in
        let ct = right pt in
        let pct : pc ≡ true = there ∙ ap (λ b. b || c) pt in
        let at = left pct in
        rw (is, pt, ct, at) refl
    by_cases true p c q false pc is right left there inside = refl
    by_cases false true c q false pc is right left there inside = rw is refl
    by_cases false false true q false pc is right left there inside = rw is refl
    by_cases false false false q false pc is right left there inside = rw is refl

-- an extent that the set has and that starts in a part lies in it
pub in_part : (los ps cs : List Extent) (e : Extent) → IsMaximal (los ++ (ps ++ cs)) → 0 < e.len → HasAll (los ++ (ps ++ cs)) e → 0 < length ps → start_of ps ≤ e.start → StartsAbove e.start cs → HasAll ps e
in_part los [] cs e m some all front from to u inside = absurd (omega (arith, front))
in_part los (p ∷ ps) cs e m some all front from to u inside =
    let has : has_unit (los ++ ((p ∷ ps) ++ cs)) u ≡ true = all u inside in
    let three : has_unit (los ++ ((p ∷ ps) ++ cs)) u ≡ (has_unit los u || (has_unit (p ∷ ps) u || has_unit cs u)) = has_three los (p ∷ ps) cs u in
    let low : e.start ≤ u = grind (arith, nat_tests, inside) in
    let left : has_unit los u ≡ true → u + 1 < p.start = before 0 u los p (ps ++ cs) m in
    let right : has_unit cs u ≡ false = none_above los (p ∷ ps) cs e m some all to u inside in
    grind (arith, nat_tests, has, three, left, right, low, from)
  where
    none_above : (los ps cs : List Extent) (e : Extent) → IsMaximal (los ++ (ps ++ cs)) → 0 < e.len → HasAll (los ++ (ps ++ cs)) e → StartsAbove e.start cs → (u : ℕ) → in_extent e u ≡ true → has_unit cs u ≡ false
    none_above los ps [] e m some all to u inside = refl
    none_above los ps (c ∷ cs) e m some all to u inside =
        ⊎_elim
        (λ lt.
        let back : IsMaximalFrom 0 (c ∷ cs) = maximal_back 0 ps (c ∷ cs) (maximal_back 0 los (ps ++ c ∷ cs) m) in
        has_unit-below c.start u (c ∷ cs) (omega arith, back.1, back.2, back.3) lt)
        (λ ge.
        let back : IsMaximalFrom 0 (c ∷ cs) = maximal_back 0 ps (c ∷ cs) (maximal_back 0 los (ps ++ c ∷ cs) m) in
        let first : in_extent e (c.start - 1) ≡ true = grind (arith, nat_tests, inside, ge, to) in
        let has : has_unit (los ++ (ps ++ c ∷ cs)) (c.start - 1) ≡ true = all (c.start - 1) first in
        let joined : IsMaximal ((los ++ ps) ++ c ∷ cs) = subst (λ (es : List Extent). IsMaximal es) (sym (append_assoc los ps (c ∷ cs))) m in
        let left : has_unit (los ++ ps) (c.start - 1) ≡ true → c.start - 1 + 1 < c.start = before 0 (c.start - 1) (los ++ ps) c cs joined in
        let none : has_unit (c ∷ cs) (c.start - 1) ≡ false = has_unit-below c.start (c.start - 1) (c ∷ cs) (omega arith, back.1, back.2, back.3) (omega (arith, to)) in
        let same : has_unit ((los ++ ps) ++ c ∷ cs) (c.start - 1) ≡ true = subst (λ (es : List Extent). has_unit es (c.start - 1) ≡ true) (sym (append_assoc los ps (c ∷ cs))) has in
        let two : has_unit ((los ++ ps) ++ c ∷ cs) (c.start - 1) ≡ (has_unit (los ++ ps) (c.start - 1) || has_unit (c ∷ cs) (c.start - 1)) = has_append (los ++ ps) (c ∷ cs) (c.start - 1) in
        absurd (grind (arith, nat_tests, same, two, none, left, to)))
        (cases_lt u c.start)
