-- The free units of a device, by metaslabs of 512 units.
use Rattle.std.specs.Prelude.{◌≡◌, ℕ, ◌+◌, ◌*◌, ◌/◌, ◌^◌, ◌≤◌, ◌<◌, Bool, true, false, ◌&&◌, ◌||◌, not, List, [], ◌∷◌, Some, slice_index_or, length, sum_by, max}
use Rattle.zr_base.specs.declared.space.Extent.{Extent}
use Rattle.zr_base.specs.declared.space.Policy.{Policy}
use Rattle.zr_base.specs.Extents.{extent_at, longest_len, unit_count, has_unit, in_extent, HasAll, RemovesUnits, IsMaximal}
use Rattle.zr_rules.specs.Choices.{names_run, named_run}
use Rattle.zr_metaslab.specs.Trees.{Tree, leaf_at}

-- the free runs of a metaslab, none past the last
abbrev pub slab_at : List (List Extent) → ℕ → List Extent
slab_at slabs k = slice_index_or slabs k []

-- the unit is free
abbrev pub is_free : List (List Extent) → ℕ → Bool
is_free slabs u = has_unit (slab_at slabs (u / 512)) u

abbrev pub free_count : List (List Extent) → ℕ
free_count slabs = sum_by unit_count slabs

-- the most units that follow each other in a metaslab
abbrev pub longest_of : List (List Extent) → ℕ
longest_of [] = 0
longest_of (s ∷ ss) = max (longest_len s) (longest_of ss)

-- the units lie in the 512 from there on
pub record AreInside (base : ℕ) (runs : List Extent) : Type 0 where
  pub from : (u : ℕ) → has_unit runs u ≡ true → base ≤ u
  pub to : (u : ℕ) → has_unit runs u ≡ true → u < base + 512

-- the runs are maximal and lie within the metaslab and the device
pub record IsSlab (units k : ℕ) (runs : List Extent) : Type 0 where
  pub maximal : IsMaximal runs
  pub inside : AreInside (512 * k) runs
  pub below : (u : ℕ) → has_unit runs u ≡ true → u < units

abbrev pub AreSlabs : ℕ → List (List Extent) → Type 0
AreSlabs units slabs = (k : ℕ) → IsSlab units k (slab_at slabs k)

-- what is kept beside the metaslabs of a device
pub record IsDevice (units free : ℕ) (longest : Tree) (slabs : List (List Extent)) : Type 0 where
  pub sound : AreSlabs units slabs
  pub counted : free ≡ free_count slabs
  pub kept : (k : ℕ) → leaf_at longest k ≡ longest_len (slab_at slabs k)
  pub leaves : length slabs ≤ longest.size
  pub made : 0 < length slabs → 0 < length longest.nodes
  pub reach : units ≤ 512 * length slabs
  pub close : 512 * length slabs < units + 512
  pub small : units < 2 ^ 40

-- the units are the front of the run that the policy names among the runs of a metaslab
pub record TakesRun (old new : List Extent) (policy : Policy) (want : ℕ) (e : Extent) : Type 0 where
  pub index : ℕ
  pub inside : index < length old
  pub fits : want ≤ (extent_at old index).len
  pub named : names_run policy ≡ true → Some index ≡ named_run policy want old
  pub start : e.start ≡ (extent_at old index).start
  pub len : e.len ≡ want
  pub were_free : HasAll old e
  pub removed : RemovesUnits old new e

-- the same in the first metaslab that has a run of so many units
pub record TakesFirst (old new : List (List Extent)) (policy : Policy) (want : ℕ) (e : Extent) : Type 0 where
  pub slab : ℕ
  pub there : slab < length old
  pub before : (j : ℕ) → j < slab → longest_len (slab_at old j) < want
  pub taken : TakesRun (slab_at old slab) (slab_at new slab) policy want e

-- units that were free are free no more
pub record LosesUnits (old new : List (List Extent)) (e : Extent) : Type 0 where
  pub were_free : (u : ℕ) → in_extent e u ≡ true → is_free old u ≡ true
  pub free : (u : ℕ) → is_free new u ≡ (is_free old u && not (in_extent e u))
  pub count : free_count new + e.len ≡ free_count old

-- units that were not free are free
pub record GainsUnits (old new : List (List Extent)) (e : Extent) : Type 0 where
  pub free : (u : ℕ) → is_free new u ≡ (is_free old u || in_extent e u)
  pub count : free_count new ≡ free_count old + e.len

-- no unit of the extent is free
abbrev pub HasNoneFree : List (List Extent) → Extent → Type 0
HasNoneFree slabs e = (u : ℕ) → in_extent e u ≡ true → is_free slabs u ≡ false
