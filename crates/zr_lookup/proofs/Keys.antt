-- Lists of keys and values by rising key, cut and joined at a key.
use Rattle.std.proofs.Common.{◌≡◌, ◌≢◌, ℕ, suc, ◌+◌, ◌-◌, ◌^◌, ◌<◌, ◌≤◌, List, [], ◌∷◌, ◌++◌, length, take, refl, sym, ◌∙◌, ap, subst, arith, None, Option, ⊎_elim}
use Rattle.std.specs.List.{slice_range}
use Rattle.std.proofs.lemmas.Bool.{lt-ltb, le-ltb, eq-eqb, ne_eqb, cases_lt}
use Rattle.zr_bptr.specs.declared.Bptr.{Bptr}
use Rattle.zr_bptr.specs.declared.Ptr.{Ptr}
use Rattle.zr_bptr.specs.declared.Ptr.TheVariants.{Hole, At}
use Rattle.zr_txg.specs.Tables.{IsRisingFrom, value_at, count_below}
use Rattle.zr_txg.proofs.Keyed.{count_below-low, value_at-low, by_key}
use Rattle.zr_lookup.specs.Objects.{block_in}
use Rattle.zr_lookup.specs.Lists.{IsBetween, Fills}

pub rising : {V : Type 0} (low high : ℕ) (es : List (ℕ × V)) → IsBetween low high es → IsRisingFrom low es
rising low high [] between = tt
rising low high (e ∷ es) between = (between.0, rising (suc e.0) high es between.1)

pub in_order : {V : Type 0} (low high : ℕ) (es : List (ℕ × V)) → IsBetween low high es → low ≤ high
in_order low high [] between = between
in_order low high (e ∷ es) between =
    let first : low ≤ e.0 = between.0 in
    let rest = in_order (suc e.0) high es between.1 in
    omega (arith, first, rest)

-- there are no more than there are keys
pub few_keys : {V : Type 0} (low high : ℕ) (es : List (ℕ × V)) → IsBetween low high es → low + length es ≤ high
few_keys low high [] h = omega (arith, h)
few_keys low high (e ∷ es) h =
    let rest = few_keys (suc e.0) high es h.1 in
    let first = h.0 in
    omega (arith, rest, first)

pub past : {V : Type 0} (low high k : ℕ) (es : List (ℕ × V)) → IsBetween low high es → high ≤ k → value_at es k ≡ None
past low high k [] between le = refl
past low high k (e ∷ es) between le =
    let rest = in_order (suc e.0) high es between.1 in
    rw (ne_eqb e.0 k (omega arith)) (past (suc e.0) high k es between.1 le)

pub wider : {V : Type 0} (low high lower higher : ℕ) (es : List (ℕ × V)) → IsBetween low high es → lower ≤ low → high ≤ higher → IsBetween lower higher es
wider low high lower higher [] between below above = let le : low ≤ high = between in omega arith
wider low high lower higher (e ∷ es) between below above =
    let first : low ≤ e.0 = between.0 in
    (omega arith, wider (suc e.0) high (suc e.0) higher es between.1 (omega arith) above)

pub joined : {V : Type 0} (low mid high : ℕ) (xs ys : List (ℕ × V)) → IsBetween low mid xs → IsBetween mid high ys → IsBetween low high (xs ++ ys)
joined low mid high [] ys before after = wider mid high low high ys after before (omega arith)
joined low mid high (x ∷ xs) ys before after = (before.0, joined (suc x.0) mid high xs ys before.1 after)

pub in_front : {V : Type 0} (mid high k : ℕ) (xs ys : List (ℕ × V)) → IsBetween mid high ys → k < mid → value_at (xs ++ ys) k ≡ value_at xs k
in_front mid high k [] ys after lt = value_at-low mid k ys (rising mid high ys after) lt
in_front mid high k (x ∷ xs) ys after lt =
    by_key x.0 k
    (λ same. rw (eq-eqb x.0 k same) refl)
    (λ other. rw (ne_eqb x.0 k other) (in_front mid high k xs ys after lt))

pub in_back : {V : Type 0} (low mid k : ℕ) (xs ys : List (ℕ × V)) → IsBetween low mid xs → mid ≤ k → value_at (xs ++ ys) k ≡ value_at ys k
in_back low mid k [] ys before le = refl
in_back low mid k (x ∷ xs) ys before le =
    let rest = in_order (suc x.0) mid xs before.1 in
    rw (ne_eqb x.0 k (omega arith)) (in_back (suc x.0) mid k xs ys before.1 le)

pub record Cuts {V : Type 0} (low high : ℕ) (es part : List (ℕ × V)) : Type 0 where
  pub between : IsBetween low high part
  pub values : (k : ℕ) → low ≤ k → k < high → value_at part k ≡ value_at es k

-- the part from one key up to another
pub cut : {V : Type 0} (first last low high : ℕ) (es : List (ℕ × V)) → IsBetween first last es → low ≤ high → Cuts low high es (slice_range es (count_below es low) (count_below es high))
cut first last low high [] between le = record { between = le; values = λ k from to. refl }
cut first last low high (e ∷ es) between le =
    ⊎_elim
    (λ lower.
    let rest = cut (suc e.0) last low high es between.1 le in
    let a = count_below es low in
    let b = count_below es high in
    let size : suc b - suc a ≡ b - a = omega arith in
    let under : e.0 < high = omega (arith, lower, le) in
    rw (lt-ltb e.0 low lower, lt-ltb e.0 high under, size)
    (record { between = rest.between; values = λ k from to. let other : e.0 ≢ k = omega (arith, lower, from) in rw (ne_eqb e.0 k other) (rest.values k from to) }))
    (λ not_lower.
    ⊎_elim
    (λ inside.
    let rest = cut (suc e.0) last (suc e.0) high es between.1 inside in
    let up = rising (suc e.0) last es between.1 in
    let none = count_below-low (suc e.0) (suc e.0) es up (omega arith) in
    let none_low = count_below-low (suc e.0) low es up (omega arith) in
    let size : suc (count_below es high) - 0 ≡ suc (count_below es high) = omega arith in
    let all : count_below es high - 0 ≡ count_below es high = omega arith in
    let tail : Cuts (suc e.0) high es (take (count_below es high) es) = subst (λ (n : ℕ). Cuts (suc e.0) high es (take n es)) all (subst (λ (n : ℕ). Cuts (suc e.0) high es (slice_range es n (count_below es high))) none rest) in
    rw (le-ltb e.0 low not_lower, lt-ltb e.0 high inside, none_low, size)
    (record {
      between = (not_lower, tail.between);
      values = λ k from to.
          by_key e.0 k
          (λ same. rw (eq-eqb e.0 k same) refl)
          (λ other. rw (ne_eqb e.0 k other)
          (⊎_elim
          (λ before. value_at-low (suc e.0) k (take (count_below es high) es) (rising (suc e.0) high (take (count_below es high) es) tail.between) before ∙ sym (value_at-low (suc e.0) k es up before))
          (λ after. tail.values k after to)
          (cases_lt k (suc e.0))));
    }))
    (λ outside.
    let up = rising (suc e.0) last es between.1 in
    rw (le-ltb e.0 low not_lower, le-ltb e.0 high outside, count_below-low (suc e.0) low es up (omega arith), count_below-low (suc e.0) high es up (omega arith))
    (record { between = le; values = λ k from to. let other : e.0 ≢ k = omega (arith, outside, to) in let before : k < suc e.0 = omega (arith, outside, to) in rw (ne_eqb e.0 k other) (sym (value_at-low (suc e.0) k es up before)) }))
    (cases_lt e.0 high))
    (cases_lt e.0 low)

pub counts_rise : {V : Type 0} (low high : ℕ) (es : List (ℕ × V)) → low ≤ high → count_below es low ≤ count_below es high
counts_rise low high [] le = omega arith
counts_rise low high (e ∷ es) le =
    let rest = counts_rise low high es le in
    ⊎_elim
    (λ lower.
    let both : suc (count_below es low) ≤ suc (count_below es high) = omega (arith, rest) in
    let under : e.0 < high = omega (arith, lower, le) in
    rw (lt-ltb e.0 low lower, lt-ltb e.0 high under) both)
    (λ not_lower.
    ⊎_elim
    (λ inside. let more : count_below es low ≤ suc (count_below es high) = omega (arith, rest) in rw (le-ltb e.0 low not_lower, lt-ltb e.0 high inside) more)
    (λ outside. rw (le-ltb e.0 low not_lower, le-ltb e.0 high outside) rest)
    (cases_lt e.0 high))
    (cases_lt e.0 low)

-- ---- what an edit at the end brings

pub filled : {V : Type 0} (low high : ℕ) (at : ℕ → Option V) (old part new : List (ℕ × V)) → IsBetween 0 low old → IsBetween low high part → ((k : ℕ) → low ≤ k → k < high → value_at part k ≡ at k) → new ≡ old ++ part → Fills low high at old new
filled low high at old part new before after values is = record {
  kept = λ k lt. ap (λ xs. value_at xs k) is ∙ in_front low high k old part after lt;
  came = λ k from to. ap (λ xs. value_at xs k) is ∙ in_back 0 low k old part before from ∙ values k from to;
}

-- nothing came, and nothing was to come
pub filled_none : {V : Type 0} (low high : ℕ) (at : ℕ → Option V) (es : List (ℕ × V)) → IsBetween 0 low es → ((k : ℕ) → low ≤ k → k < high → at k ≡ None) → Fills low high at es es
filled_none low high at es before none = record {
  kept = λ k lt. refl;
  came = λ k from to. past 0 low k es before from ∙ sym (none k from to);
}

pub filled_then : {V : Type 0} (low mid high : ℕ) (at : ℕ → Option V) (a b c : List (ℕ × V)) → low ≤ mid → Fills low mid at a b → Fills mid high at b c → Fills low high at a c
filled_then low mid high at a b c le first second = record {
  kept = λ k lt. second.kept k (omega arith) ∙ first.kept k lt;
  came = λ k from to.
      ⊎_elim
      (λ lower. second.kept k lower ∙ first.came k from lower)
      (λ not_lower. second.came k not_lower to)
      (cases_lt k mid);
}

pub filled_as : {V : Type 0} (low high : ℕ) (at by : ℕ → Option V) (a b : List (ℕ × V)) → Fills low high at a b → ((k : ℕ) → low ≤ k → k < high → at k ≡ by k) → Fills low high by a b
filled_as low high at by a b h same = record { kept = h.kept; came = λ k from to. h.came k from to ∙ same k from to }

-- ---- one leaf

pub added : (index : ℕ) (old new : List (ℕ × Bptr)) (b : Bptr) → IsBetween 0 index old → new ≡ old ++ (index, b) ∷ [] → IsBetween 0 (index + 1) new
added index old new b before is = subst (IsBetween 0 (index + 1)) (sym is) (joined 0 index (index + 1) old ((index, b) ∷ []) before (omega arith, omega arith))

pub added_fills : (index : ℕ) (p : Ptr) (old new : List (ℕ × Bptr)) (b : Bptr) → IsBetween 0 index old → p ≡ At b → new ≡ old ++ (index, b) ∷ [] → Fills index (index + 1) (λ _. block_in p) old new
added_fills index p old new b before leads is =
    filled index (index + 1) (λ _. block_in p) old ((index, b) ∷ []) new before (omega arith, omega arith)
    (λ k from to. rw (eq-eqb index k (omega arith)) (sym (ap block_in leads))) is

pub none_added : (index : ℕ) (old : List (ℕ × Bptr)) → IsBetween 0 index old → IsBetween 0 (index + 1) old
none_added index old before = wider 0 index 0 (index + 1) old before (omega arith) (omega arith)

hole_only : (p : Ptr) → ((b : Bptr) → p ≡ At b → ⊥) → block_in p ≡ None
hole_only Hole not = refl
hole_only (At b) not = absurd (not b refl)

pub none_added_fills : (index : ℕ) (p : Ptr) (old : List (ℕ × Bptr)) → IsBetween 0 index old → ((b : Bptr) → p ≡ At b → ⊥) → Fills index (index + 1) (λ _. block_in p) old old
none_added_fills index p old before not = filled_none index (index + 1) (λ _. block_in p) old before (λ k from to. hole_only p not)

-- ---- the part of a list

pub part_between : (low high from to : ℕ) (leaves out new : List (ℕ × Bptr)) → IsBetween 0 (2 ^ 25) leaves → IsBetween 0 low out → low ≤ high → from ≡ count_below leaves low → to ≡ count_below leaves high → new ≡ out ++ slice_range leaves from to → IsBetween 0 high new
part_between low high from to leaves out new sorted before le from_is to_is is =
    let part = subst (λ (n : ℕ). Cuts low high leaves (slice_range leaves from n)) (sym to_is) (subst (λ (n : ℕ). Cuts low high leaves (slice_range leaves n (count_below leaves high))) (sym from_is) (cut 0 (2 ^ 25) low high leaves sorted le)) in
    subst (IsBetween 0 high) (sym is) (joined 0 low high out (slice_range leaves from to) before part.between)

pub part_fills : (low high from to : ℕ) (leaves out new : List (ℕ × Bptr)) → IsBetween 0 (2 ^ 25) leaves → IsBetween 0 low out → low ≤ high → from ≡ count_below leaves low → to ≡ count_below leaves high → new ≡ out ++ slice_range leaves from to → Fills low high (value_at leaves) out new
part_fills low high from to leaves out new sorted before le from_is to_is is =
    let part = subst (λ (n : ℕ). Cuts low high leaves (slice_range leaves from n)) (sym to_is) (subst (λ (n : ℕ). Cuts low high leaves (slice_range leaves n (count_below leaves high))) (sym from_is) (cut 0 (2 ^ 25) low high leaves sorted le)) in
    filled low high (value_at leaves) out (slice_range leaves from to) new before part.between part.values is
