-- Lists by rising key, over a range of keys.
use Rattle.std.specs.Prelude.{◌≡◌, ℕ, suc, ◌<◌, ◌≤◌, List, [], ◌∷◌, Option, Some, None}
use Rattle.zr_bptr.specs.declared.Bptr.{Bptr}
use Rattle.zr_bptr.specs.declared.Ptr.{Ptr}
use Rattle.zr_txg.specs.Tables.{value_at}
use Rattle.zr_lookup.specs.Objects.{block_in}

-- the keys rise from `low` on and are below `high`
abbrev pub IsBetween : {V : Type 0} → ℕ → ℕ → List (ℕ × V) → Type 0
IsBetween low high [] = low ≤ high
IsBetween low high (e ∷ es) = (low ≤ e.0) × IsBetween (suc e.0) high es

-- the values of the keys from `low` on and below `high` came, and those of lower keys stay
pub record Fills {V : Type 0} (low high : ℕ) (at : ℕ → Option V) (old new : List (ℕ × V)) : Type 0 where
  pub kept : (k : ℕ) → k < low → value_at new k ≡ value_at old k
  pub came : (k : ℕ) → low ≤ k → k < high → value_at new k ≡ at k

-- the block at an index, where a change of it counts more than what was there
abbrev pub overlaid : Option Ptr → Option Bptr → Option Bptr
overlaid None old = old
overlaid (Some p) old = block_in p
