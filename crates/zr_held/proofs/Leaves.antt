-- The leaves of an object with some of them changed.
use Rattle.std.proofs.Common.{◌≡◌, ◌∙◌, ◌<◌, ◌≤◌, ◌+◌, ℕ, zero, suc, List, [], ◌∷◌, map, length, Option, Some, None, refl, sym, ap, subst, arith, ⊎_elim, lt-ltb, le-ltb, get_or, drop, inl, inr, ◌⊎◌}
use Rattle.std.specs.Prelude.{unwrap_or, if◌then◌else◌, ◌==◌}
use Rattle.std.specs.List.{sum_by, All, AllZip, range_with_len}
use Rattle.std.proofs.lemmas.Bool.{eq-eqb, ne_eqb, cases_lt}
use Rattle.std.proofs.lemmas.List.Sums.{sum_by-append, sum_by-cons}
use Rattle.zr_bptr.specs.declared.Bptr.{Bptr}
use Rattle.zr_bptr.specs.declared.Ptr.{Ptr}
use Rattle.zr_bptr.specs.declared.Ptr.TheVariants.{Hole, At}
use Rattle.zr_tree.specs.Trees.{own, updated}
use Rattle.zr_txg.specs.Tables.{IsRising, IsRisingFrom, value_at, put_value}
use Rattle.zr_txg.proofs.Keyed.{by_key, value_at-low, value_at-put, rising-put}
use Rattle.zr_lookup.specs.Objects.{block_in}
use Rattle.zr_change.specs.declared.plans.Planned.{Planned}
use Rattle.zr_change.specs.Plans.{IsChangeFor, AreChangesFor, olds_of, leaves_of}
use Rattle.zr_change.specs.Changes.{changed_by}
use Rattle.std.proofs.lemmas.List.Elements.{All-head, All-tail}
use Rattle.zr_held.proofs.Frames.{leaf_of}

-- the list without a key
abbrev pub without : {V : Type 0} → List (ℕ × V) → ℕ → List (ℕ × V)
without [] k = []
without (e ∷ es) k = if e.0 == k then es else e ∷ without es k

abbrev pub set_leaf : List (ℕ × Bptr) → ℕ → Ptr → List (ℕ × Bptr)
set_leaf ls k Hole = without ls k
set_leaf ls k (At b) = put_value ls k b

abbrev pub set_leaves : List (ℕ × Bptr) → List (ℕ × Ptr) → List (ℕ × Bptr)
set_leaves ls [] = ls
set_leaves ls (x ∷ xs) = set_leaves (set_leaf ls x.0 x.1) xs

-- what a leaf weighs, where there is one
abbrev pub weight_in : (Bptr → ℕ) → Option Bptr → ℕ
weight_in weight None = 0
weight_in weight (Some b) = weight b

weight_own : (weight : Bptr → ℕ) (p : Ptr) → weight_in weight (block_in p) ≡ sum_by weight (own p)
weight_own weight Hole = refl
weight_own weight (At b) = omega (arith, sum_by-cons weight b [])

-- ---- one leaf

without_later : {V : Type 0} (low k : ℕ) (es : List (ℕ × V)) → IsRisingFrom low es → IsRisingFrom low (without es k)
without_later low k [] up = tt
without_later low k (e ∷ es) up = by_key e.0 k
    (λ same. rw (eq-eqb e.0 k same) (higher low (suc e.0) es (let u = up.0 in omega (arith, u)) up.1))
    (λ other. rw (ne_eqb e.0 k other) (up.0, without_later (suc e.0) k es up.1))
  where
    higher : {V : Type 0} (low high : ℕ) (es : List (ℕ × V)) → low ≤ high → IsRisingFrom high es → IsRisingFrom low es
    higher low high [] le up = tt
    higher low high (e ∷ es) le up = (let u = up.0 in omega (arith, u, le), up.1)

value_without : {V : Type 0} (low k j : ℕ) (es : List (ℕ × V)) → IsRisingFrom low es → value_at (without es k) j ≡ (if k == j then None else value_at es j)
value_without low k j [] up = by_key k j (λ same. rw (eq-eqb k j same) refl) (λ other. rw (ne_eqb k j other) refl)
value_without low k j (e ∷ es) up = by_key e.0 k
    (λ same. rw (eq-eqb e.0 k same) (by_key k j
    (λ is. rw (eq-eqb k j is) (value_at-low (suc e.0) j es up.1 (omega (arith, same, is))))
    (λ apart. rw (ne_eqb k j apart, ne_eqb e.0 j (λ e. apart (sym same ∙ e))) refl)))
    (λ other. rw (ne_eqb e.0 k other) (by_key e.0 j
    (λ is. rw (eq-eqb e.0 j is, ne_eqb k j (λ e. other (is ∙ sym e))) refl)
    (λ apart. rw (ne_eqb e.0 j apart) (value_without (suc e.0) k j es up.1))))

weight_without : (weight : Bptr → ℕ) (k : ℕ) (es : List (ℕ × Bptr)) → sum_by weight (map leaf_of (without es k)) + weight_in weight (value_at es k) ≡ sum_by weight (map leaf_of es)
weight_without weight k [] = refl
weight_without weight k (e ∷ es) = by_key e.0 k
    (λ same. rw (eq-eqb e.0 k same) (omega (arith, sum_by-cons weight e.1 (map leaf_of es))))
    (λ other. rw (ne_eqb e.0 k other) (let rest = weight_without weight k es in omega (arith, rest, sum_by-cons weight e.1 (map leaf_of es), sum_by-cons weight e.1 (map leaf_of (without es k)))))

weight_put : (weight : Bptr → ℕ) (low k : ℕ) (b : Bptr) (es : List (ℕ × Bptr)) → IsRisingFrom low es → sum_by weight (map leaf_of (put_value es k b)) + weight_in weight (value_at es k) ≡ sum_by weight (map leaf_of es) + weight b
weight_put weight low k b [] up = omega (arith, sum_by-cons weight b [])
weight_put weight low k b (e ∷ es) up = ⊎_elim
    (λ lt. rw (lt-ltb e.0 k lt, ne_eqb e.0 k (λ e. omega (arith, e, lt)))
    (let rest = weight_put weight (suc e.0) k b es up.1 in omega (arith, rest, sum_by-cons weight e.1 (map leaf_of es), sum_by-cons weight e.1 (map leaf_of (put_value es k b)))))
    (λ le. rw (le-ltb e.0 k le) (by_key e.0 k
    (λ same. rw (eq-eqb e.0 k same) (omega (arith, sum_by-cons weight e.1 (map leaf_of es), sum_by-cons weight b (map leaf_of es))))
    (λ other.
    let none = value_at-low (suc e.0) k es up.1 (omega (arith, le, other)) in
    rw (ne_eqb e.0 k other, none) (omega (arith, sum_by-cons weight e.1 (map leaf_of es), sum_by-cons weight b (map leaf_of (e ∷ es)))))))
    (cases_lt e.0 k)

pub set_rising : (ls : List (ℕ × Bptr)) (k : ℕ) (p : Ptr) → IsRising ls → IsRising (set_leaf ls k p)
set_rising ls k Hole up = without_later 0 k ls up
set_rising ls k (At b) up = rising-put 0 k b ls up (omega arith)

pub set_value : (ls : List (ℕ × Bptr)) (k j : ℕ) (p : Ptr) → IsRising ls → value_at (set_leaf ls k p) j ≡ (if k == j then block_in p else value_at ls j)
set_value ls k j Hole up = value_without 0 k j ls up
set_value ls k j (At b) up = value_at-put k j b ls

set_weight : (weight : Bptr → ℕ) (ls : List (ℕ × Bptr)) (k : ℕ) (p : Ptr) → IsRising ls → sum_by weight (map leaf_of (set_leaf ls k p)) + weight_in weight (value_at ls k) ≡ sum_by weight (map leaf_of ls) + sum_by weight (own p)
set_weight weight ls k Hole up = let w = weight_without weight k ls in omega (arith, w)
set_weight weight ls k (At b) up = let w = weight_put weight 0 k b ls up in omega (arith, w, sum_by-cons weight b [])

-- ---- all of them

pub all_rising : (ls : List (ℕ × Bptr)) (xs : List (ℕ × Ptr)) → IsRising ls → IsRising (set_leaves ls xs)
all_rising ls [] up = up
all_rising ls (x ∷ xs) up = all_rising (set_leaf ls x.0 x.1) xs (set_rising ls x.0 x.1 up)

pub all_values : (ls : List (ℕ × Bptr)) (xs : List (ℕ × Ptr)) (k : ℕ) (p : Ptr) → IsRising ls → value_at ls k ≡ block_in p → value_at (set_leaves ls xs) k ≡ block_in (updated xs k p)
all_values ls [] k p up is = is
all_values ls (x ∷ xs) k p up is =
    let rising = set_rising ls x.0 x.1 up in
    let value = set_value ls x.0 k x.1 up in
    by_key x.0 k
    (λ same. rw (eq-eqb x.0 k same) (all_values (set_leaf ls x.0 x.1) xs k x.1 rising (value ∙ rw (eq-eqb x.0 k same) refl)))
    (λ other. rw (ne_eqb x.0 k other) (all_values (set_leaf ls x.0 x.1) xs k p rising (value ∙ rw (ne_eqb x.0 k other) is)))

-- changes of other indices leave a pointer
pub untouched : (xs : List (ℕ × Ptr)) (n k low : ℕ) (p : Ptr) → map (λ x. x.0) xs ≡ range_with_len low n → (k < low) ⊎ (low + n ≤ k) → updated xs k p ≡ p
untouched [] n k low p row out = refl
untouched (x ∷ xs) zero k low p row out = absurd (cc)
untouched (x ∷ xs) (suc n) k low p row out =
    let here : x.0 ≡ low = ap (λ (ks : List ℕ). get_or ks 0 low) row in
    let rest : map (λ x. x.0) xs ≡ range_with_len (low + 1) n = ap (λ (ks : List ℕ). drop 1 ks) row in
    rw (ne_eqb x.0 k (λ e. ⊎_elim (λ lt. omega (arith, lt, e, here)) (λ le. omega (arith, le, e, here)) out))
    (untouched xs n k (low + 1) p rest (⊎_elim (λ lt. inl (omega (arith, lt))) (λ le. inr (omega (arith, le))) out))

-- a leaf of the list is one of its weights
pub listed_weight : (weight : Bptr → ℕ) (k : ℕ) (b : Bptr) (ls : List (ℕ × Bptr)) → value_at ls k ≡ Some b → weight b ≤ sum_by weight (map leaf_of ls)
listed_weight weight k b [] is = absurd (cc)
listed_weight weight k b (e ∷ es) is = by_key e.0 k
    (λ same.
    let here : Some e.1 ≡ Some b = sym (rw (eq-eqb e.0 k same) refl) ∙ is in
    let this : e.1 ≡ b = cc in
    let w = ap weight this in
    omega (arith, w, sum_by-cons weight e.1 (map leaf_of es)))
    (λ other.
    let there : value_at es k ≡ Some b = sym (rw (ne_eqb e.0 k other) refl) ∙ is in
    let rest = listed_weight weight k b es there in
    omega (arith, rest, sum_by-cons weight e.1 (map leaf_of es)))

-- ---- changes that a plan names, one block after another

abbrev pub index_of : Planned → ℕ
index_of p = p.index

abbrev pub key_of : ℕ × Ptr → ℕ
key_of x = x.0

abbrev pub HaveKeys : List Planned → List (ℕ × Ptr) → Type 0
HaveKeys plan xs = AllZip (λ p x. x.0 ≡ p.index) plan xs

pub keys_of : (plan : List Planned) (xs : List (ℕ × Ptr)) → HaveKeys plan xs → map key_of xs ≡ map index_of plan
keys_of [] [] zip = refl
keys_of [] (x ∷ xs) zip = absurd zip
keys_of (p ∷ ps) [] zip = absurd zip
keys_of (p ∷ ps) (x ∷ xs) zip = ap (λ (k : ℕ). k ∷ map key_of xs) zip.0 ∙ ap (λ (ks : List ℕ). p.index ∷ ks) (keys_of ps xs zip.1)

pub have_keys : (plan : List Planned) (xs : List (ℕ × Ptr)) → AreChangesFor plan xs → HaveKeys plan xs
have_keys [] [] zip = tt
have_keys [] (x ∷ xs) zip = absurd zip
have_keys (p ∷ ps) [] zip = absurd zip
have_keys (p ∷ ps) (x ∷ xs) zip = (zip.0.index, have_keys ps xs zip.1)

module _ (at : ℕ → Ptr) (weight : Bptr → ℕ) where
  pub plan_weight : (ls : List (ℕ × Bptr)) (plan : List Planned) (xs : List (ℕ × Ptr)) (low n : ℕ) → IsRising ls → ((k : ℕ) → low ≤ k → value_at ls k ≡ block_in (at k))
      → map index_of plan ≡ range_with_len low n → All (λ p. p.old ≡ at p.index) plan → HaveKeys plan xs
      → sum_by weight (map leaf_of (set_leaves ls xs)) + sum_by weight (olds_of plan) ≡ sum_by weight (map leaf_of ls) + sum_by weight (leaves_of xs)
  plan_weight ls [] [] low n up agree row olds zip = refl
  plan_weight ls [] (x ∷ xs) low n up agree row olds zip = absurd zip
  plan_weight ls (p ∷ ps) [] low n up agree row olds zip = absurd zip
  plan_weight ls (p ∷ ps) (x ∷ xs) low zero up agree row olds zip = absurd (cc)
  plan_weight ls (p ∷ ps) (x ∷ xs) low (suc n) up agree row olds zip =
      let here : p.index ≡ low = ap (λ (ks : List ℕ). get_or ks 0 low) row in
      let rest : map index_of ps ≡ range_with_len (low + 1) n = ap (λ (ks : List ℕ). drop 1 ks) row in
      let key = zip.0 in
      let value = agree x.0 (omega (arith, key, here)) in
      let one = set_weight weight ls x.0 x.1 up in
      let old = All-head (λ (q : Planned). q.old ≡ at q.index) p ps olds in
      let gone : weight_in weight (value_at ls x.0) ≡ sum_by weight (own p.old) =
      ap (weight_in weight) value ∙ (weight_own weight (at x.0) ∙ ap (λ (q : Ptr). sum_by weight (own q)) (ap at key ∙ sym old)) in
      let more = plan_weight (set_leaf ls x.0 x.1) ps xs (low + 1) n (set_rising ls x.0 x.1 up)
      (λ k le. set_value ls x.0 k x.1 up ∙ rw (ne_eqb x.0 k (λ e. omega (arith, e, le, key, here))) (agree k (omega (arith, le))))
      rest (All-tail (λ (q : Planned). q.old ≡ at q.index) p ps olds) zip.1 in
      omega (arith, one, gone, more, sum_by-append weight (own p.old) (olds_of ps), sum_by-append weight (own x.1) (leaves_of xs))

-- the planned block at an index, and what it became
pub record FoundAt (plan : List Planned) (xs : List (ℕ × Ptr)) (i : ℕ) : Type 0 where
  pub planned : Planned
  pub index : planned.index ≡ i
  pub change : ℕ × Ptr
  pub for_it : IsChangeFor planned change
  pub becomes : (p : Ptr) → updated xs i p ≡ change.1
  pub place : ℕ
  pub within : place < length plan
  pub is : (d : Planned) → get_or plan place d ≡ planned

pub in_plan : {plan : List Planned} {xs : List (ℕ × Ptr)} {i : ℕ} (P : Planned → Type 0) (f : FoundAt plan xs i) → All P plan → P f.planned
in_plan P f all = subst P (f.is f.planned) (all f.place f.planned f.within)

pub find_at : (plan : List Planned) (xs : List (ℕ × Ptr)) (low n i : ℕ) → map index_of plan ≡ range_with_len low n → AreChangesFor plan xs → low ≤ i → i < low + n → FoundAt plan xs i
find_at [] xs low zero i row zip le lt = absurd (omega (arith, le, lt))
find_at [] xs low (suc n) i row zip le lt = absurd (cc)
find_at (p ∷ ps) [] low n i row zip le lt = absurd zip
find_at (p ∷ ps) (x ∷ xs) low zero i row zip le lt = absurd (cc)
find_at (p ∷ ps) (x ∷ xs) low (suc n) i row zip le lt =
    let here : p.index ≡ low = ap (λ (ks : List ℕ). get_or ks 0 low) row in
    let rest : map index_of ps ≡ range_with_len (low + 1) n = ap (λ (ks : List ℕ). drop 1 ks) row in
    let key = zip.0.index in
    let keys = keys_of ps xs (have_keys ps xs zip.1) ∙ rest in
    by_key x.0 i
    (λ same. record {
      planned = p;
      index = sym key ∙ same;
      change = x;
      for_it = zip.0;
      becomes = λ q. rw (eq-eqb x.0 i same) (untouched xs n i (low + 1) x.1 keys (inl (omega (arith, same, key, here))));
      place = 0;
      within = omega arith;
      is = λ d. refl;
    })
    (λ other.
    let f = find_at ps xs (low + 1) n i rest zip.1 (omega (arith, le, other, key, here)) (omega (arith, lt)) in
    record {
      planned = f.planned;
      index = f.index;
      change = f.change;
      for_it = f.for_it;
      becomes = λ q. rw (ne_eqb x.0 i other) (f.becomes q);
      place = suc f.place;
      within = let w = f.within in omega (arith, w);
      is = λ d. f.is d;
    })

-- the blocks of a plan as holes
abbrev pub holes_of : List Planned → List (ℕ × Ptr)
holes_of plan = map (λ (p : Planned). (p.index, Hole)) plan

pub holes_keys : (plan : List Planned) → HaveKeys plan (holes_of plan)
holes_keys [] = tt
holes_keys (p ∷ ps) = (refl, holes_keys ps)

pub holes_weight : (weight : Bptr → ℕ) (plan : List Planned) → sum_by weight (leaves_of (holes_of plan)) ≡ 0
holes_weight weight [] = refl
holes_weight weight (p ∷ ps) = holes_weight weight ps

-- changes of the group, put over what was there
pub changed_over : (xs : List (ℕ × Ptr)) (k : ℕ) (c : Option Ptr) (t : Ptr) → unwrap_or (changed_by xs k c) t ≡ updated xs k (unwrap_or c t)
changed_over [] k c t = refl
changed_over (x ∷ xs) k c t = by_key x.0 k
    (λ same. rw (eq-eqb x.0 k same) (changed_over xs k (Some x.1) t))
    (λ other. rw (ne_eqb x.0 k other) (changed_over xs k c t))
