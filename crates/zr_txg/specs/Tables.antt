-- Finite maps from numbers, as lists of keys and values by rising key.
use Rattle.std.specs.Prelude.{◌≡◌, ℕ, suc, ◌<◌, ◌≤◌, ◌==◌, nat_lt, List, [], ◌∷◌, length, slice_index_or, if◌then◌else◌, Option, Some, None}

-- each key is above those before it
abbrev pub IsRisingFrom : {V : Type 0} → ℕ → List (ℕ × V) → Type 0
IsRisingFrom low [] = Unit {0}
IsRisingFrom low (e ∷ es) = (low ≤ e.0) × IsRisingFrom (suc e.0) es

abbrev pub IsRising : {V : Type 0} → List (ℕ × V) → Type 0
IsRising es = IsRisingFrom 0 es

-- the value of a key
abbrev pub value_at : {V : Type 0} → List (ℕ × V) → ℕ → Option V
value_at [] k = None
value_at (e ∷ es) k = if e.0 == k then Some e.1 else value_at es k

-- how many keys are lower
abbrev pub count_below : {V : Type 0} → List (ℕ × V) → ℕ → ℕ
count_below [] k = 0
count_below (e ∷ es) k = if nat_lt e.0 k then suc (count_below es k) else count_below es k

-- the map with this value at the key
abbrev pub put_value : {V : Type 0} → List (ℕ × V) → ℕ → V → List (ℕ × V)
put_value [] k v = (k, v) ∷ []
put_value (e ∷ es) k v = if nat_lt e.0 k then e ∷ put_value es k v else (if e.0 == k then (k, v) ∷ es else (k, v) ∷ e ∷ es)

-- entry i has the key, and i keys are lower
pub record HasKeyAt {V : Type 0} (es : List (ℕ × V)) (k i : ℕ) : Type 0 where
  pub within : i < length es
  pub place : i ≡ count_below es k
  pub key : (d : ℕ × V) → (slice_index_or es i d).0 ≡ k
  pub value : (d : ℕ × V) → value_at es k ≡ Some (slice_index_or es i d).1

-- no entry has the key, and i keys are lower
pub record LacksKeyAt {V : Type 0} (es : List (ℕ × V)) (k i : ℕ) : Type 0 where
  pub within : i ≤ length es
  pub place : i ≡ count_below es k
  pub none : value_at es k ≡ None
