-- Numbers in rising order, each once: a list of them is known by its members, whichever way it was made.
use Rattle.std.proofs.Common.{◌≡◌, ◌≢◌, ◌∙◌, ◌<◌, ◌≤◌, ℕ, suc, List, [], ◌∷◌, ◌++◌, map, Option, Some, None, Bool, true, false, refl, sym, ap, arith}
use Rattle.std.specs.Prelude.{◌&&◌, ◌||◌, ◌==◌, not, if◌then◌else◌, T}
use Rattle.std.specs.Option.{option_map}
use Rattle.std.specs.List.{list_any, flat_map}
use Rattle.std.specs.Ordering.{nat_cmp, eq_by_cmp, is_lt}
use Rattle.std.specs.Cmp.{unsigned_tied}
use Rattle.std.specs.declared.cmp.Ordering.{Ordering}
use Rattle.std.specs.declared.cmp.Ordering.TheVariants.{Less, Equal, Greater}
use Rattle.std.specs.FinMap.Entries.{is_sorted, below_all}
use Rattle.std.proofs.lemmas.Bool.{eq-eqb, ne_eqb}
use Rattle.std.proofs.lemmas.Bool.Decides.{nat_tests}
use Rattle.zr_base.specs.Words.{word}
use Rattle.zr_lookup.specs.Objects.{summed}
use Rattle.zr_model.specs.Objects.{once_each}
use Rattle.zr_txg.specs.Tables.{IsRisingFrom, value_at}
use Rattle.zr_txg.proofs.Keyed.{by_key, value_at-low}

-- numbers as keys
abbrev pub marks : List ℕ → List (ℕ × Unit {0})
marks [] = []
marks (n ∷ ns) = (n, tt) ∷ marks ns

-- no number is below the one before it
abbrev pub NotFalling : ℕ → List ℕ → Type 0
NotFalling low [] = Unit {0}
NotFalling low (n ∷ ns) = (low ≤ n) × NotFalling n ns

-- ---- the keys of a finite map

front : (x y : Bool) → T (x && y) → T x
front true y h = tt
front false y h = h

back : (x y : Bool) → T (x && y) → T y
back true y h = h
back false y h = absurd h

less : (o : Ordering) → T (is_lt o) → o ≡ Less
less Less h = refl
less Equal h = absurd h
less Greater h = absurd h

lower_key : (x y : ℕ) → nat_cmp x y ≡ Less → x < y
lower_key x y is = grind (arith, nat_tests)

module _ {V : Type 0} (f : ℕ → ℕ) (keeps : (x y : ℕ) → x ≤ y → f x ≤ f y) where
  behind : (x : ℕ) (es : List (ℕ × V)) → T (below_all nat_cmp x es) → T (is_sorted nat_cmp es) → NotFalling (f x) (map f (map (λ e. e.0) es))
  behind x [] above sorted = tt
  behind x (e ∷ es) above sorted =
      let next : x < e.0 = lower_key x e.0 (less (nat_cmp x e.0) (front (is_lt (nat_cmp x e.0)) (below_all nat_cmp x es) above)) in
      (keeps x e.0 (omega (arith, next)), behind e.0 es (front (below_all nat_cmp e.0 es) (is_sorted nat_cmp es) sorted) (back (below_all nat_cmp e.0 es) (is_sorted nat_cmp es) sorted))

  -- what keeps the order makes of keys in order numbers that do not fall
  pub not_falling : (es : List (ℕ × V)) → T (is_sorted nat_cmp es) → NotFalling 0 (map f (map (λ e. e.0) es))
  not_falling [] sorted = tt
  not_falling (e ∷ es) sorted = (omega arith, behind e.0 es (front (below_all nat_cmp e.0 es) (is_sorted nat_cmp es) sorted) (back (below_all nat_cmp e.0 es) (is_sorted nat_cmp es) sorted))

tied : (k : ℕ) → eq_by_cmp nat_cmp k k ≡ true
tied k = unsigned_tied k k ∙ eq-eqb k k refl

untied : (q k : ℕ) → q ≢ k → eq_by_cmp nat_cmp q k ≡ false
untied q k other = unsigned_tied q k ∙ ne_eqb q k other

or_right : (x y : Bool) → y ≡ true → (x || y) ≡ true
or_right true y is = refl
or_right false y is = is

-- a number is among those made of some list exactly where it is made of one of the list
pub made_of : (f : ℕ → ℕ) (ks : List ℕ) (k : ℕ) → list_any (eq_by_cmp nat_cmp k) ks ≡ true → value_at (marks (map f ks)) (f k) ≡ Some tt
made_of f [] k among = absurd (cc)
made_of f (j ∷ ks) k among = by_key k j
    (λ same. rw (eq-eqb (f j) (f k) (ap f (sym same))) refl)
    (λ other.
    let rest : list_any (eq_by_cmp nat_cmp k) ks ≡ true = sym (ap (λ (x : Bool). x || list_any (eq_by_cmp nat_cmp k) ks) (untied k j other)) ∙ among in
    by_key (f j) (f k)
    (λ alike. rw (eq-eqb (f j) (f k) alike) refl)
    (λ apart. rw (ne_eqb (f j) (f k) apart) (made_of f ks k rest)))

pub maker_of : (f : ℕ → ℕ) (ks : List ℕ) (i : ℕ) → value_at (marks (map f ks)) i ≡ Some tt → (k : ℕ) × (list_any (eq_by_cmp nat_cmp k) ks ≡ true) × (f k ≡ i)
maker_of f [] i is = absurd (cc)
maker_of f (j ∷ ks) i is = by_key (f j) i
    (λ same. (j, ap (λ (x : Bool). x || list_any (eq_by_cmp nat_cmp j) ks) (tied j), same))
    (λ other.
    let rest : value_at (marks (map f ks)) i ≡ Some tt = sym (rw (ne_eqb (f j) i other) refl) ∙ is in
    let m = maker_of f ks i rest in
    (m.0, or_right (eq_by_cmp nat_cmp m.0 j) (list_any (eq_by_cmp nat_cmp m.0) ks) m.1, m.2))

-- ---- equal neighbours once

pub rising_once : (low : ℕ) (ns : List ℕ) → NotFalling low ns → IsRisingFrom low (marks (once_each ns))
rising_once low [] h = tt
rising_once low (n ∷ []) h = (h.0, tt)
rising_once low (n ∷ (m ∷ more)) h = by_key n m
    (λ same. rw (eq-eqb n m same) (rising_once low (m ∷ more) (omega (arith, h.0, same), h.1.1)))
    (λ other. rw (ne_eqb n m other) (h.0, rising_once (suc n) (m ∷ more) (omega (arith, h.1.0, other), h.1.1)))

pub same_once : (ns : List ℕ) (k : ℕ) → value_at (marks (once_each ns)) k ≡ value_at (marks ns) k
same_once [] k = refl
same_once (n ∷ []) k = refl
same_once (n ∷ (m ∷ more)) k = by_key n m
    (λ same. rw (eq-eqb n m same) (same_once (m ∷ more) k ∙ by_key n k
    (λ here. rw (eq-eqb n k here, eq-eqb m k (sym same ∙ here)) refl)
    (λ there. rw (ne_eqb n k there) refl)))
    (λ other. rw (ne_eqb n m other) (ap (λ (v : Option (Unit {0})). if n == k then Some tt else v) (same_once (m ∷ more) k)))

-- ---- the keys that pass a test

abbrev pub passing : {V : Type 0} → (ℕ → Bool) → List (ℕ × V) → List (ℕ × Unit {0})
passing p [] = []
passing p (e ∷ es) = if p e.0 then (e.0, tt) ∷ passing p es else passing p es

lower : (low high : ℕ) (es : List (ℕ × Unit {0})) → low ≤ high → IsRisingFrom high es → IsRisingFrom low es
lower low high [] le up = tt
lower low high (e ∷ es) le up = (omega (arith, le, up.0), up.1)

chosen : (b : Bool) (low k : ℕ) (rest : List (ℕ × Unit {0})) → low ≤ k → IsRisingFrom (suc k) rest → IsRisingFrom low (if b then (k, tt) ∷ rest else rest)
chosen true low k rest le up = (le, up)
chosen false low k rest le up = lower low (suc k) rest (omega (arith, le)) up

abbrev pub mark : {V : Type 0} → V → Unit {0}
mark v = tt

module _ {V : Type 0} (p : ℕ → Bool) where
  pub rising_passing : (low : ℕ) (es : List (ℕ × V)) → IsRisingFrom low es → IsRisingFrom low (passing p es)
  rising_passing low [] up = tt
  rising_passing low (e ∷ es) up = chosen (p e.0) low e.0 (passing p es) up.0 (rising_passing (suc e.0) es up.1)

  skips : (b : Bool) (e : ℕ × V) (es : List (ℕ × V)) (k : ℕ) → e.0 ≢ k → value_at (if b then (e.0, tt) ∷ passing p es else passing p es) k ≡ value_at (passing p es) k
  skips true e es k other = rw (ne_eqb e.0 k other) refl
  skips false e es k other = refl

  pub passes : (es : List (ℕ × V)) (k : ℕ) → p k ≡ true → value_at (passing p es) k ≡ option_map mark (value_at es k)
  passes [] k met = refl
  passes (e ∷ es) k met = by_key e.0 k
      (λ same.
      let here : p e.0 ≡ true = ap p same ∙ met in
      rw (here, eq-eqb e.0 k same) refl)
      (λ other. skips (p e.0) e es k other ∙ rw (ne_eqb e.0 k other) (passes es k met))

  pub fails : (es : List (ℕ × V)) (k : ℕ) → p k ≡ false → value_at (passing p es) k ≡ None
  fails [] k unmet = refl
  fails (e ∷ es) k unmet = by_key e.0 k
      (λ same.
      let here : p e.0 ≡ false = ap p same ∙ unmet in
      rw here (fails es k unmet))
      (λ other. skips (p e.0) e es k other ∙ fails es k unmet)

-- ---- what is joined over them

pub joined : (f : ℕ → List ℕ) (ns : List ℕ) → flat_map (λ i. word i ++ f i) ns ≡ flat_map (λ (e : ℕ × Unit {0}). word e.0 ++ f e.0) (marks ns)
joined f [] = refl
joined f (n ∷ ns) = ap (λ (xs : List ℕ). (word n ++ f n) ++ xs) (joined f ns)

abbrev pub has_some : List ℕ → Bool
has_some bytes = list_any (λ b. not (b == 0)) bytes

add_summed : (f : ℕ → List ℕ) (b : Bool) (k : ℕ) (bytes : List ℕ) (rest : List (ℕ × Unit {0})) → bytes ≡ flat_map (λ (e : ℕ × Unit {0}). word e.0 ++ f e.0) rest
    → (if b then word k ++ f k else []) ++ bytes ≡ flat_map (λ (e : ℕ × Unit {0}). word e.0 ++ f e.0) (if b then (k, tt) ∷ rest else rest)
add_summed f true k bytes rest same = ap (λ (xs : List ℕ). (word k ++ f k) ++ xs) same
add_summed f false k bytes rest same = same

-- entries whose bytes are all 0 add nothing
pub all_summed : {V : Type 0} (f : ℕ → List ℕ) (g : V → List ℕ) (low : ℕ) (es : List (ℕ × V)) → IsRisingFrom low es → ((k : ℕ) (v : V) → value_at es k ≡ Some v → g v ≡ f k)
    → flat_map (λ (e : ℕ × V). summed e.0 (g e.1)) es ≡ flat_map (λ (e : ℕ × Unit {0}). word e.0 ++ f e.0) (passing (λ k. has_some (f k)) es)
all_summed f g low [] up alike = refl
all_summed {V} f g low (e ∷ es) up alike =
    let rest = all_summed f g (suc e.0) es up.1
    (λ k v is. by_key e.0 k
    (λ same. absurd (let none = value_at-low (suc e.0) k es up.1 (omega (arith, same)) in let c = sym is ∙ none in cc))
    (λ other. alike k v (rw (ne_eqb e.0 k other) is))) in
    ap (λ (bytes : List ℕ). summed e.0 bytes ++ flat_map (λ (x : ℕ × V). summed x.0 (g x.1)) es) (alike e.0 e.1 (rw (eq-eqb e.0 e.0 refl) refl))
    ∙ add_summed f (has_some (f e.0)) e.0 (flat_map (λ (x : ℕ × V). summed x.0 (g x.1)) es) (passing (λ k. has_some (f k)) es) rest
