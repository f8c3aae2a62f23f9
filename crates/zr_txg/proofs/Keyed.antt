-- Lists of keys and values by rising key: where a key is, and what an edit at that place makes.
use Rattle.std.proofs.Common.{◌≡◌, ◌≢◌, ℕ, zero, suc, ◌+◌, ◌<◌, ◌≤◌, eqb, List, [], ◌∷◌, length, set, refl, sym, arith, Some, None, Option, ◌∙◌, ⊎_elim, ap, subst}
use Rattle.std.specs.Prelude.{insert, slice_index_or, if◌then◌else◌, is_some, Result, Ok, Err, unwrap_or}
use Rattle.std.specs.List.{AllByRecursion}
use Rattle.std.specs.List.Sorted.{IsBinarySearchResult, IsSearchInRange, IsNonDecreasingBy, IsPartitionPoint}
use Rattle.std.specs.Ordering.{nat_cmp, ordering_index}
use Rattle.std.specs.declared.cmp.Ordering.TheVariants.{Less, Equal, Greater}
use Rattle.std.specs.Result.{IfOk, IfErr}
use Rattle.std.proofs.lemmas.Bool.Decides.{nat_tests}
use Rattle.std.proofs.lemmas.Bool.{lt-ltb, le-ltb, eq-eqb, ne_eqb, cases_lt}
use Rattle.zr_txg.specs.Tables.{IsRisingFrom, IsRising, value_at, count_below, put_value, HasKeyAt, LacksKeyAt}

-- keys from low on: none is lower, and a lower one is missing
pub count_below-low : {V : Type 0} (low k : ℕ) (es : List (ℕ × V)) → IsRisingFrom low es → k ≤ low → count_below es k ≡ 0
count_below-low low k [] up le = refl
count_below-low low k (e ∷ es) up le =
    let above : low ≤ e.0 = up.0 in
    rw (le-ltb e.0 k (omega arith)) (count_below-low (suc e.0) k es up.1 (omega arith))

pub value_at-low : {V : Type 0} (low k : ℕ) (es : List (ℕ × V)) → IsRisingFrom low es → k < low → value_at es k ≡ None
value_at-low low k [] up lt = refl
value_at-low low k (e ∷ es) up lt =
    let above : low ≤ e.0 = up.0 in
    rw (ne_eqb e.0 k (omega arith)) (value_at-low (suc e.0) k es up.1 (omega arith))

-- each entry is from low on
pub key_low : {V : Type 0} (low i : ℕ) (es : List (ℕ × V)) (d : ℕ × V) → IsRisingFrom low es → i < length es → low ≤ (slice_index_or es i d).0
key_low low i [] d up lt = absurd (omega arith)
key_low low zero (e ∷ es) d up lt = up.0
key_low low (suc i) (e ∷ es) d up lt = let above : low ≤ e.0 = up.0 in omega (arith, key_low (suc e.0) i es d up.1 (omega arith))

-- entry i has i lower ones
pub count_below-at : {V : Type 0} (low i : ℕ) (es : List (ℕ × V)) (d : ℕ × V) → IsRisingFrom low es → i < length es → count_below es (slice_index_or es i d).0 ≡ i
count_below-at low i [] d up lt = absurd (omega arith)
count_below-at low zero (e ∷ es) d up lt = rw (le-ltb e.0 e.0 (omega arith)) (count_below-low (suc e.0) e.0 es up.1 (omega arith))
count_below-at low (suc i) (e ∷ es) d up lt =
    let above : suc e.0 ≤ (slice_index_or es i d).0 = key_low (suc e.0) i es d up.1 (omega arith) in
    rw (lt-ltb e.0 (slice_index_or es i d).0 (omega arith)) (ap suc (count_below-at (suc e.0) i es d up.1 (omega arith)))

pub value_at-at : {V : Type 0} (low i : ℕ) (es : List (ℕ × V)) (d : ℕ × V) → IsRisingFrom low es → i < length es → value_at es (slice_index_or es i d).0 ≡ Some (slice_index_or es i d).1
value_at-at low i [] d up lt = absurd (omega arith)
value_at-at low zero (e ∷ es) d up lt = rw (eq-eqb e.0 e.0 refl) refl
value_at-at low (suc i) (e ∷ es) d up lt =
    let above : suc e.0 ≤ (slice_index_or es i d).0 = key_low (suc e.0) i es d up.1 (omega arith) in
    rw (ne_eqb e.0 (slice_index_or es i d).0 (omega arith)) (value_at-at (suc e.0) i es d up.1 (omega arith))

-- keys below a place are lower than k, those from it on are higher
pub count_below-place : {V : Type 0} (k i : ℕ) (es : List (ℕ × V)) → i ≤ length es → ((j : ℕ) (d : ℕ × V) → j < i → (slice_index_or es j d).0 < k) → ((j : ℕ) (d : ℕ × V) → i ≤ j → j < length es → k < (slice_index_or es j d).0) → count_below es k ≡ i
count_below-place k zero [] le below above = refl
count_below-place k (suc i) [] le below above = absurd (omega arith)
count_below-place k zero (e ∷ es) le below above =
    let higher : k < e.0 = above 0 e (omega arith) (omega arith) in
    rw (le-ltb e.0 k (omega arith)) (count_below-place k zero es (omega arith) (λ j d lt. absurd (omega arith)) (λ j d ge lt. above (suc j) d (omega arith) (omega arith)))
count_below-place k (suc i) (e ∷ es) le below above =
    rw (lt-ltb e.0 k (below 0 e (omega arith)))
    (ap suc (count_below-place k i es (omega arith) (λ j d lt. below (suc j) d (omega arith)) (λ j d ge lt. above (suc j) d (omega arith) (omega arith))))

pub value_at-none : {V : Type 0} (k : ℕ) (es : List (ℕ × V)) → ((j : ℕ) (d : ℕ × V) → j < length es → (slice_index_or es j d).0 ≢ k) → value_at es k ≡ None
value_at-none k [] other = refl
value_at-none k (e ∷ es) other = rw (ne_eqb e.0 k (other 0 e (omega arith))) (value_at-none k es (λ j d lt. other (suc j) d (omega arith)))

-- an entry written at the place of its key
pub set-put : {V : Type 0} (low k : ℕ) (v w : V) (es : List (ℕ × V)) → IsRisingFrom low es → value_at es k ≡ Some w → set es (count_below es k) (k, v) ≡ put_value es k v
set-put low k v w [] up is = cc
set-put {V} low k v w (e ∷ es) up is =
    ⊎_elim
    (λ lower. rw (lt-ltb e.0 k lower) (ap (λ (rest : List (ℕ × V)). e ∷ rest) (set-put (suc e.0) k v w es up.1 (rw (ne_eqb e.0 k (omega arith)) at is))))
    (λ not_lower. rw (le-ltb e.0 k not_lower, count_below-low (suc e.0) k es up.1 (omega arith))
    (⊎_elim
    (λ higher. absurd (let missing = value_at-low (suc e.0) k es up.1 (omega arith) in let other = ne_eqb e.0 k (omega arith) in cc))
    (λ le. rw (eq-eqb e.0 k (omega arith)) refl)
    (cases_lt k e.0)))
    (cases_lt e.0 k)

-- an entry put in at the place of a missing key
pub insert-put : {V : Type 0} (low k : ℕ) (v : V) (es : List (ℕ × V)) → IsRisingFrom low es → value_at es k ≡ None → insert es (count_below es k) (k, v) ≡ put_value es k v
insert-put low k v [] up is = refl
insert-put {V} low k v (e ∷ es) up is =
    ⊎_elim
    (λ lower. rw (lt-ltb e.0 k lower) (ap (λ (rest : List (ℕ × V)). e ∷ rest) (insert-put (suc e.0) k v es up.1 (rw (ne_eqb e.0 k (omega arith)) at is))))
    (λ not_lower. rw (le-ltb e.0 k not_lower, count_below-low (suc e.0) k es up.1 (omega arith))
    (⊎_elim
    (λ higher. rw (ne_eqb e.0 k (omega arith)) refl)
    (λ le. absurd (let same = eq-eqb e.0 k (omega arith) in cc))
    (cases_lt k e.0)))
    (cases_lt e.0 k)

pub by_key : {P : Type 0} (x y : ℕ) → (x ≡ y → P) → (x ≢ y → P) → P
by_key x y same other =
    ⊎_elim (λ lt. other (λ e. omega (arith, e))) (λ ge. ⊎_elim (λ lt. other (λ e. omega (arith, e))) (λ le. same (omega arith)) (cases_lt y x)) (cases_lt x y)

-- what a put leaves at each key
pub value_at-put : {V : Type 0} (k j : ℕ) (v : V) (es : List (ℕ × V)) → value_at (put_value es k v) j ≡ (if eqb k j then Some v else value_at es j)
value_at-put k j v [] = refl
value_at-put k j v (e ∷ es) =
    ⊎_elim
    (λ lower. rw (lt-ltb e.0 k lower, value_at-put k j v es)
    (by_key e.0 j
    (λ same. rw (eq-eqb e.0 j same, ne_eqb k j (omega arith)) refl)
    (λ other. rw (ne_eqb e.0 j other) refl)))
    (λ not_lower. rw (le-ltb e.0 k not_lower)
    (by_key e.0 k
    (λ same. rw (eq-eqb e.0 k same)
    (by_key k j
    (λ found. rw (eq-eqb k j found) refl)
    (λ other. rw (ne_eqb k j other, ne_eqb e.0 j (λ e. omega (arith, e))) refl)))
    (λ other. rw (ne_eqb e.0 k other) refl)))
    (cases_lt e.0 k)

pub rising-put : {V : Type 0} (low k : ℕ) (v : V) (es : List (ℕ × V)) → IsRisingFrom low es → low ≤ k → IsRisingFrom low (put_value es k v)
rising-put low k v [] up le = (le, tt)
rising-put low k v (e ∷ es) up le =
    ⊎_elim
    (λ lower. rw (lt-ltb e.0 k lower) (up.0, rising-put (suc e.0) k v es up.1 (omega arith)))
    (λ not_lower. rw (le-ltb e.0 k not_lower)
    (⊎_elim
    (λ higher. rw (ne_eqb e.0 k (omega arith)) (le, (omega arith, up.1)))
    (λ le_k. let same : e.0 ≡ k = omega arith in rw (eq-eqb e.0 k same) (le, rw same at up.1))
    (cases_lt k e.0)))
    (cases_lt e.0 k)

pub length-put : {V : Type 0} (low k : ℕ) (v : V) (es : List (ℕ × V)) → IsRisingFrom low es → length (put_value es k v) ≡ length es + (if is_some (value_at es k) then 0 else 1)
length-put low k v [] up = refl
length-put low k v (e ∷ es) up =
    ⊎_elim
    (λ lower. rw (lt-ltb e.0 k lower, ne_eqb e.0 k (omega arith)) (omega (arith, length-put (suc e.0) k v es up.1)))
    (λ not_lower. rw (le-ltb e.0 k not_lower)
    (by_key e.0 k
    (λ same. rw (eq-eqb e.0 k same) (omega arith))
    (λ other. rw (ne_eqb e.0 k other, value_at-low (suc e.0) k es up.1 (omega arith)) (omega arith))))
    (cases_lt e.0 k)

pub each-put : {V : Type 0} (P : V → Type 0) (k : ℕ) (v : V) (es : List (ℕ × V)) → AllByRecursion (λ e. P e.1) es → P v → AllByRecursion (λ e. P e.1) (put_value es k v)
each-put P k v [] each new = (new, tt)
each-put P k v (e ∷ es) each new =
    ⊎_elim
    (λ lower. rw (lt-ltb e.0 k lower) (each.0, each-put P k v es each.1 new))
    (λ not_lower. rw (le-ltb e.0 k not_lower)
    (by_key e.0 k
    (λ same. rw (eq-eqb e.0 k same) (new, each.1))
    (λ other. rw (ne_eqb e.0 k other) (new, each))))
    (cases_lt e.0 k)

pub each-at : {V : Type 0} (P : V → Type 0) (k : ℕ) (v : V) (es : List (ℕ × V)) → AllByRecursion (λ e. P e.1) es → value_at es k ≡ Some v → P v
each-at P k v [] each is = cc
each-at {V} P k v (e ∷ es) each is =
    by_key e.0 k
    (λ same. let first : Some e.1 ≡ Some v = rw (eq-eqb e.0 k same) at is in subst P (ap (λ (o : Option V). unwrap_or o e.1) first) each.0)
    (λ other. each-at P k v es each.1 (rw (ne_eqb e.0 k other) at is))

equal_keys : (x y : ℕ) → nat_cmp x y ≡ Equal → x ≡ y
equal_keys x y same = grind (arith, nat_tests)

less_key : (x y : ℕ) → nat_cmp x y ≡ Less → x < y
less_key x y same = grind (arith, nat_tests)

greater_key : (x y : ℕ) → nat_cmp x y ≡ Greater → y < x
greater_key x y same = grind (arith, nat_tests)

-- along a rising list the answers of a search rise
order_le : (x y k : ℕ) → x ≤ y → ordering_index (nat_cmp x k) ≤ ordering_index (nat_cmp y k)
order_le x y k le = grind (arith, nat_tests)

pub keys_le : {V : Type 0} (low i j : ℕ) (es : List (ℕ × V)) (d : ℕ × V) → IsRisingFrom low es → i ≤ j → j < length es → (slice_index_or es i d).0 ≤ (slice_index_or es j d).0
keys_le low i j [] d up le lt = absurd (omega arith)
keys_le low zero j (e ∷ es) d up le lt = key_low e.0 j (e ∷ es) d (omega arith, up.1) lt
keys_le low (suc i) zero (e ∷ es) d up le lt = absurd (omega arith)
keys_le low (suc i) (suc j) (e ∷ es) d up le lt = keys_le (suc e.0) i j es d up.1 (omega arith) (omega arith)

-- what a binary search by key answers in a rising list
pub found_at : {V : Type 0} (es : List (ℕ × V)) (k i : ℕ) → IsRising es → i < length es → ((d : ℕ × V) → nat_cmp (slice_index_or es i d).0 k ≡ Equal) → HasKeyAt es k i
found_at {V} es k i up lt same = record {
  within = lt;
  place = sym (subst (λ z. count_below es z ≡ i) (key (first es lt)) (count_below-at 0 i es (first es lt) up lt));
  key = key;
  value = λ d. subst (λ z. value_at es z ≡ Some (slice_index_or es i d).1) (key d) (value_at-at 0 i es d up lt);
}
  where
    key : (d : ℕ × V) → (slice_index_or es i d).0 ≡ k
    key d = equal_keys (slice_index_or es i d).0 k (same d)

    first : (es : List (ℕ × V)) → i < length es → ℕ × V
    first [] lt = absurd (omega arith)
    first (e ∷ es) lt = e

pub missing_at : {V : Type 0} (es : List (ℕ × V)) (k i : ℕ) → i ≤ length es → IsPartitionPoint (λ e. nat_cmp e.0 k ≡ Less) (λ e. nat_cmp e.0 k ≡ Greater) es i → LacksKeyAt es k i
missing_at {V} es k i le point = record {
  within = le;
  place = sym (count_below-place k i es le below above);
  none = value_at-none k es (λ j d lt same. ⊎_elim
      (λ before. let under = below j d before in omega (arith, same))
      (λ from. let over = above j d from lt in omega (arith, same))
      (cases_lt j i));
}
  where
    below : (j : ℕ) (d : ℕ × V) → j < i → (slice_index_or es j d).0 < k
    below j d lt = less_key (slice_index_or es j d).0 k (point.0 j d (omega arith) lt)

    above : (j : ℕ) (d : ℕ × V) → i ≤ j → j < length es → k < (slice_index_or es j d).0
    above j d ge lt = greater_key (slice_index_or es j d).0 k (point.1 j d ge lt)

orders_rise : {V : Type 0} (es : List (ℕ × V)) (k : ℕ) → IsRising es → IsNonDecreasingBy (λ e. ordering_index (nat_cmp e.0 k)) es
orders_rise es k up = λ i j d le lt. order_le (slice_index_or es i d).0 (slice_index_or es j d).0 k (keys_le 0 i j es d up le lt)

pub search_found : {V : Type 0} (es : List (ℕ × V)) (k : ℕ) (r : Result ℕ ℕ) → IsRising es → IsSearchInRange r (length es) → IsBinarySearchResult (λ e. nat_cmp e.0 k) es r → IfOk r (λ i. HasKeyAt es k i)
search_found es k (Ok i) up within found = found_at es k i up within found
search_found es k (Err i) up within found = tt

pub search_missing : {V : Type 0} (es : List (ℕ × V)) (k : ℕ) (r : Result ℕ ℕ) → IsRising es → IsSearchInRange r (length es) → IsBinarySearchResult (λ e. nat_cmp e.0 k) es r → IfErr r (λ i. LacksKeyAt es k i)
search_missing es k (Ok i) up within found = tt
search_missing es k (Err i) up within found = missing_at es k i within (found (orders_rise es k up))

-- an entry written where the key is
pub set_at : {V : Type 0} (es : List (ℕ × V)) (k i : ℕ) (v : V) (e : ℕ × V) → IsRising es → HasKeyAt es k i → set es i (k, v) ≡ put_value es k v
set_at {V} es k i v e up at = subst (λ z. set es z (k, v) ≡ put_value es k v) (sym at.place) (set-put 0 k v (slice_index_or es i e).1 es up (at.value e))

-- the same, where the entry keeps its own key
pub set_value : {V : Type 0} (es : List (ℕ × V)) (k i : ℕ) (v : V) (e : ℕ × V) → IsRising es → HasKeyAt es k i → e ≡ slice_index_or es i e → set es i (e.0, v) ≡ put_value es k v
set_value {V} es k i v e up at is =
    let same : e.0 ≡ k = ap (λ (x : ℕ × V). x.0) is ∙ at.key e in
    ap (λ z. set es i (z, v)) same ∙ set_at es k i v e up at

-- the value of the entry
pub value_of : {V : Type 0} (es : List (ℕ × V)) (k i : ℕ) (e : ℕ × V) → HasKeyAt es k i → e ≡ slice_index_or es i e → value_at es k ≡ Some e.1
value_of {V} es k i e at is = at.value e ∙ ap (λ (x : ℕ × V). Some x.1) (sym is)

-- an entry put in where the key is missing
pub insert_at : {V : Type 0} (es : List (ℕ × V)) (k i : ℕ) (v : V) → IsRising es → LacksKeyAt es k i → insert es i (k, v) ≡ put_value es k v
insert_at {V} es k i v up at = subst (λ z. insert es z (k, v) ≡ put_value es k v) (sym at.place) (insert-put 0 k v es up at.none)
