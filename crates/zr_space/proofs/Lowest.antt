-- The lowest kept extents of a space's devices.
use Rattle.std.proofs.Common.{◌≡◌, ℕ, Bool, zero, suc, ◌+◌, ◌-◌, ◌≤◌, ◌<◌, true, false, ◌==◌, ◌&&◌, ◌||◌, List, [], ◌∷◌, ◌++◌, map, length, take, drop, min, refl, sym, ◌∙◌, ap, arith, add-one, append_assoc, subst, length-append}
use Rattle.std.specs.List.{flat_map, enumerate_from}
use Rattle.std.proofs.lemmas.Grind.{common_steps}
use Rattle.std.proofs.lemmas.List.{length-take}
use Rattle.std.proofs.lemmas.Bool.Decides.{nat_tests}
use Rattle.zr_base.specs.declared.space.Extent.{Extent}
use Rattle.zr_base.specs.declared.space.DevPart.{DevPart}
use Rattle.zr_base.specs.Extents.{extent_at, in_extent, has_unit, IsMaximal, IsMaximalFrom}
use Rattle.std.proofs.lemmas.List.{length-map, append-nil}
use Rattle.std.proofs.lemmas.List.Folds.{list_any-append}
use Rattle.zr_base.proofs.ExtentSets.{has_unit-below}
use Rattle.zr_rules.specs.Roles.{is_kept_role}
use Rattle.zr_rules.specs.Steps.{is_among}
use Rattle.zr_metaslab.specs.Devices.{Devices, free_at, count_at}
use Rattle.zr_space.specs.Views.{Kept, kept_of, part_in, space_of, IsSpace}
use Rattle.zr_space.specs.Discards.{on_device, AreApart, AreKnown, CanDiscard}
use Rattle.zr_space.proofs.Roles.{roles_are}
use Rattle.zr_space.proofs.Counts.{kept_is}
use Rattle.zr_space.specs.declared.whole.Whole.{Whole}

-- the kept extents of the devices from this one on
abbrev pub kept_from : ℕ → List Kept → List (ℕ × Extent)
kept_from d [] = []
kept_from d (k ∷ ks) = on_device d k.uses.kept ++ kept_from (d + 1) ks

-- they are the rules' own
pub kept_are : (d : ℕ) (devs : List Kept) → flat_map (λ (p : ℕ × DevPart). map (λ e. (p.0, e)) p.1.kept) (enumerate_from d (map part_in devs)) ≡ kept_from d devs
kept_are d [] = refl
kept_are d (k ∷ ks) = ap (λ (l : List (ℕ × Extent)). on_device d k.uses.kept ++ l) (kept_are (d + 1) ks)

-- where there is none, none is taken
pub none_taken : (d n : ℕ) (es : List Extent) (items : List (ℕ × Extent)) → es ≡ [] → items ≡ items ++ take n (on_device d es)
none_taken d n [] items none = grind (arith, common_steps)
none_taken d n (e ∷ es) items none = absurd cc

-- the first is taken, and then the others
pub next_taken : (d n : ℕ) (x : Extent) (all rest : List Extent) (items pushed : List (ℕ × Extent)) → 0 < n → all ≡ x ∷ rest → pushed ≡ items ++ (d, x) ∷ [] → pushed ++ take (n - 1) (on_device d rest) ≡ items ++ take n (on_device d all)
next_taken d zero x all rest items pushed some is push = absurd (omega (arith, some))
next_taken d (suc n) x all rest items pushed some is push =
    let less : suc n - 1 ≡ n = omega arith in
    rw (less, is, push) (append_assoc items ((d, x) ∷ []) (take n (on_device d rest)))

-- one extent more
take_suc : (d i : ℕ) (es : List Extent) → i < length es → take (suc i) (on_device d es) ≡ take i (on_device d es) ++ (d, extent_at es i) ∷ []
take_suc d i [] h = absurd (omega (arith, h))
take_suc d zero (e ∷ es) h = refl
take_suc d (suc i) (e ∷ es) h = ap (λ (l : List (ℕ × Extent)). (d, e) ∷ l) (take_suc d i es (omega (arith, h)))

pub take_one : (d i : ℕ) (es : List Extent) → i < length es → take (i + 1) (on_device d es) ≡ take i (on_device d es) ++ (d, extent_at es i) ∷ []
take_one d i es h = rw add-one (take_suc d i es h)

pub on_device_len : (d : ℕ) (es : List Extent) → length (on_device d es) ≡ length es
on_device_len d [] = refl
on_device_len d (e ∷ es) = let r = on_device_len d es in omega (arith, r)

-- past the end there is no more to take
pub take_min : (d n : ℕ) (es : List Extent) → take (min n (length es)) (on_device d es) ≡ take n (on_device d es)
take_min d n [] = grind (arith, common_steps)
take_min d zero (e ∷ es) = grind (arith, common_steps)
take_min d (suc n) (e ∷ es) =
    let rest : take (min n (length es)) (on_device d es) ≡ take n (on_device d es) = take_min d n es in
    let len : min (suc n) (length (e ∷ es)) ≡ suc (min n (length es)) = omega arith in
    rw len (ap (λ (l : List (ℕ × Extent)). (d, e) ∷ l) rest)

take_append : (n : ℕ) (xs ys : List (ℕ × Extent)) → take n (xs ++ ys) ≡ take n xs ++ take (n - length xs) ys
take_append zero [] ys = refl
take_append (suc n) [] ys = grind (arith, common_steps)
take_append zero (x ∷ xs) ys = grind (arith, common_steps)
take_append (suc n) (x ∷ xs) ys =
    let rest : take n (xs ++ ys) ≡ take n xs ++ take (n - length xs) ys = take_append n xs ys in
    let len : suc n - length (x ∷ xs) ≡ n - length xs = omega arith in
    rw len (ap (λ (l : List (ℕ × Extent)). x ∷ l) rest)

-- the first extents of the devices from d on begin with those of device d
take_next_suc : (d n : ℕ) (devs : List Kept) (k : ℕ) → d < length devs → take n (kept_from k (drop d devs)) ≡ take n (on_device k (kept_of devs d).uses.kept) ++ take (n - length (kept_of devs d).uses.kept) (kept_from (k + 1) (drop (suc d) devs))
take_next_suc d n [] k there = absurd (omega (arith, there))
take_next_suc zero n (x ∷ xs) k there = take_append n (on_device k x.uses.kept) (kept_from (k + 1) xs) ∙ rw (on_device_len k x.uses.kept) refl
take_next_suc (suc d) n (x ∷ xs) k there = take_next_suc d n xs k (omega (arith, there))

take_next : (d n : ℕ) (devs : List Kept) → d < length devs → take n (kept_from d (drop d devs)) ≡ take n (on_device d (kept_of devs d).uses.kept) ++ take (n - length (kept_of devs d).uses.kept) (kept_from (d + 1) (drop (d + 1) devs))
take_next d n devs there =
    let e : d + 1 ≡ suc d = add-one d in
    subst (λ (i : ℕ). take n (kept_from d (drop d devs)) ≡ take n (on_device d (kept_of devs d).uses.kept) ++ take (n - length (kept_of devs d).uses.kept) (kept_from (d + 1) (drop i devs))) (sym e) (take_next_suc d n devs d there)

-- what is taken so far and then of device d, and what is still missing
pub take_step : (d n : ℕ) (devs : List Kept) (list all : List (ℕ × Extent)) → d < length devs → length list ≤ n → all ≡ list ++ take (n - length list) (kept_from d (drop d devs))
    → all ≡ (list ++ take (n - length list) (on_device d (kept_of devs d).uses.kept)) ++ take (n - length (list ++ take (n - length list) (on_device d (kept_of devs d).uses.kept))) (kept_from (d + 1) (drop (d + 1) devs))
take_step d n devs list all there few is =
    let es = on_device d (kept_of devs d).uses.kept in
    let len : length (list ++ take (n - length list) es) ≡ length list + min (n - length list) (length (kept_of devs d).uses.kept) =
    length-append list (take (n - length list) es) ∙ ap (λ k. length list + k) (length-take (n - length list) es ∙ ap (λ k. min (n - length list) k) (on_device_len d (kept_of devs d).uses.kept)) in
    let missing : n - length (list ++ take (n - length list) es) ≡ (n - length list) - length (kept_of devs d).uses.kept = omega (arith, len) in
    is ∙ ap (λ (l : List (ℕ × Extent)). list ++ l) (take_next d (n - length list) devs there) ∙ sym (append_assoc list _ _) ∙ ap (λ k. (list ++ take (n - length list) es) ++ take k (kept_from (d + 1) (drop (d + 1) devs))) (sym missing)

-- no more than n are taken
pub taken_len : (n : ℕ) (list es : List (ℕ × Extent)) → length list ≤ n → length (list ++ take (n - length list) es) ≤ n
taken_len n list es few = let a = length-append list (take (n - length list) es) in let b = length-take (n - length list) es in omega (arith, a, b, few)

pub drop_none : (devs : List Kept) (d : ℕ) → length devs ≤ d → drop d devs ≡ []
drop_none [] zero le = refl
drop_none [] (suc d) le = refl
drop_none (x ∷ xs) zero le = absurd (omega (arith, le))
drop_none (x ∷ xs) (suc d) le = drop_none xs d (omega (arith, le))

take_nil : (m : ℕ) (none : List (ℕ × Extent)) → none ≡ [] → take m none ≡ none
take_nil zero [] is = refl
take_nil (suc m) [] is = refl
take_nil m (e ∷ es) is = cc

-- behind the last device nothing is missing
pub take_none : (n : ℕ) (devs : List Kept) (list : List (ℕ × Extent)) (d : ℕ) → drop d devs ≡ [] → take n (kept_from 0 devs) ≡ list ++ take (n - length list) (kept_from d (drop d devs)) → list ≡ take n (kept_from 0 devs)
take_none n devs list d none is =
    sym (is ∙ (ap (λ (ks : List Kept). list ++ take (n - length list) (kept_from d ks)) none ∙ (ap (λ (l : List (ℕ × Extent)). list ++ l) (take_nil (n - length list) [] refl) ∙ append-nil list)))

-- ---- each is kept, and no unit is in two of them

among_on : (d j u : ℕ) (es : List Extent) → is_among (on_device d es) j u ≡ ((d == j) && has_unit es u)
among_on d j u [] = grind (arith, nat_tests)
among_on d j u (e ∷ es) = let r = among_on d j u es in grind (arith, nat_tests, r)

among_append : (xs ys : List (ℕ × Extent)) (j u : ℕ) → is_among (xs ++ ys) j u ≡ (is_among xs j u || is_among ys j u)
among_append xs ys j u = list_any-append (λ (e : ℕ × Extent). e.0 == j && in_extent e.1 u) xs ys

among_below : (d j u : ℕ) (devs : List Kept) → j < d → is_among (kept_from d devs) j u ≡ false
among_below d j u [] lt = refl
among_below d j u (k ∷ ks) lt =
    let rest = among_below (d + 1) j u ks (omega (arith, lt)) in
    let a = among_append (on_device d k.uses.kept) (kept_from (d + 1) ks) j u in
    let o = among_on d j u k.uses.kept in
    grind (arith, nat_tests, rest, a, o, lt)

among_at : (d j u : ℕ) (devs : List Kept) → is_among (kept_from d devs) (d + j) u ≡ has_unit (kept_of devs j).uses.kept u
among_at d zero u [] = refl
among_at d (suc j) u [] = refl
among_at d zero u (k ∷ ks) =
    let rest = among_below (d + 1) (d + 0) u ks (omega arith) in
    let a = among_append (on_device d k.uses.kept) (kept_from (d + 1) ks) (d + 0) u in
    let o = among_on d (d + 0) u k.uses.kept in
    grind (arith, nat_tests, rest, a, o)
among_at d (suc j) u (k ∷ ks) =
    let next : (d + 1) + j ≡ d + suc j = omega arith in
    let rest = ap (λ (i : ℕ). is_among (kept_from (d + 1) ks) i u) (sym next) ∙ among_at (d + 1) j u ks in
    let a = among_append (on_device d k.uses.kept) (kept_from (d + 1) ks) (d + suc j) u in
    let o = among_on d (d + suc j) u k.uses.kept in
    grind (arith, nat_tests, rest, a, o)

pub among_kept : (d u : ℕ) (devs : List Kept) → is_among (kept_from 0 devs) d u ≡ has_unit (kept_of devs d).uses.kept u
among_kept d u devs = let z : d ≡ 0 + d = omega arith in ap (λ (j : ℕ). is_among (kept_from 0 devs) j u) z ∙ among_at 0 d u devs

apart_on : (d low : ℕ) (es : List Extent) (rest : List (ℕ × Extent)) → IsMaximalFrom low es → ((u : ℕ) → is_among rest d u ≡ false) → AreApart rest → AreApart (on_device d es ++ rest)
apart_on d low [] rest m none apart = apart
apart_on d low (e ∷ es) rest m none apart = (
  m.1,
  (λ u at.
      let behind : has_unit es u ≡ false = has_unit-below (e.start + e.len + 1) u es m.3 (grind (arith, nat_tests, at)) in
      let a = among_append (on_device d es) rest d u in
      let o = among_on d d u es in
      let n = none u in
      grind (arith, nat_tests, behind, a, o, n)),
  apart_on d (e.start + e.len + 1) es rest m.3 none apart,
)

apart_from : (d : ℕ) (devs : List Kept) → ((j : ℕ) → IsMaximal (kept_of devs j).uses.kept) → AreApart (kept_from d devs)
apart_from d [] m = tt
apart_from d (k ∷ ks) m = apart_on d 0 k.uses.kept (kept_from (d + 1) ks) (m 0) (λ u. among_below (d + 1) d u ks (omega arith)) (apart_from (d + 1) ks (λ j. m (suc j)))

among_take : (n : ℕ) (es : List (ℕ × Extent)) (d u : ℕ) → is_among (take n es) d u ≡ true → is_among es d u ≡ true
among_take zero [] d u is = is
among_take zero (e ∷ es) d u is = absurd (false_true is)
  where
    false_true : false ≡ true → ⊥
    false_true e = cc
among_take (suc n) [] d u is = is
among_take (suc n) (e ∷ es) d u is = let r = among_take n es d u in grind (arith, nat_tests, r, is)

apart_take : (n : ℕ) (es : List (ℕ × Extent)) → AreApart es → AreApart (take n es)
apart_take zero [] a = tt
apart_take zero (e ∷ es) a = tt
apart_take (suc n) [] a = tt
apart_take (suc n) (e ∷ es) a = (a.0, (λ u at. not_more (is_among (take n es) e.0 u) (is_among es e.0 u) (among_take n es e.0 u) (a.1 u at)), apart_take n es a.2)
  where
    not_more : (x y : Bool) → (x ≡ true → y ≡ true) → y ≡ false → x ≡ false
    not_more true y f is = sym (f refl) ∙ is
    not_more false y f is = refl

known_on : (m d : ℕ) (es : List Extent) (rest : List (ℕ × Extent)) → d < m → AreKnown m rest → AreKnown m (on_device d es ++ rest)
known_on m d [] rest lt known = known
known_on m d (e ∷ es) rest lt known = (lt, known_on m d es rest lt known)

known_from : (m d : ℕ) (devs : List Kept) → d + length devs ≤ m → AreKnown m (kept_from d devs)
known_from m d [] le = tt
known_from m d (k ∷ ks) le = known_on m d k.uses.kept (kept_from (d + 1) ks) (omega (arith, le)) (known_from m (d + 1) ks (omega (arith, le)))

known_take : (m n : ℕ) (es : List (ℕ × Extent)) → AreKnown m es → AreKnown m (take n es)
known_take m zero [] k = tt
known_take m zero (e ∷ es) k = tt
known_take m (suc n) [] k = tt
known_take m (suc n) (e ∷ es) k = (k.0, known_take m n es k.1)

-- the first of them can be given back
pub can_discard : (whole : Whole) (s : Devices) (devs : List Kept) (n : ℕ) → IsSpace whole s devs → CanDiscard (space_of whole devs) (take n (kept_from 0 devs))
can_discard whole s devs n sp = record {
  known = let l = length-map devs part_in in known_take (length (map part_in devs)) n (kept_from 0 devs) (known_from (length (map part_in devs)) 0 devs (omega (arith, l)));
  apart = apart_take n (kept_from 0 devs) (apart_from 0 devs (λ j. (sp.account j).lists.kept));
  kept = λ d u is.
      ap is_kept_role (roles_are whole devs d u sp)
      ∙ (kept_is (free_at s d) (count_at s d) (kept_of devs d).uses (sp.account d) u
      ∙ (sym (among_kept d u devs) ∙ among_take n (kept_from 0 devs) d u is));
}
