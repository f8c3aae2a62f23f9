-- Which free units an allocation takes.
use Rattle.std.specs.Prelude.{◌≡◌, ◌⊎◌, ℕ, ◌+◌, ◌*◌, ◌<◌, ◌≤◌, Bool, true, ◌&&◌, nat_le, nat_lt, List, length, Some}
use Rattle.zr_base.specs.declared.space.Extent.{Extent}
use Rattle.zr_base.specs.declared.space.Dva.{Dva}
use Rattle.zr_base.specs.declared.space.Policy.{Policy}
use Rattle.zr_base.specs.Extents.{extent_at, has_unit, in_extent, IsMaximal}
use Rattle.zr_rules.specs.Choices.{named_run, names_run}

-- what an allocation sees: how many devices there are, which are in service, how many free units each has, and which
pub record Free : Type 0 where
  pub devs : ℕ
  pub serves : ℕ → Bool
  pub count : ℕ → ℕ
  pub is_free : ℕ → ℕ → Bool

-- the unit is one of the metaslab, which has 512
abbrev pub in_metaslab : ℕ → ℕ → Bool
in_metaslab m u = nat_le (512 * m) u && nat_lt u (512 * m + 512)

-- the runs of free units within a metaslab
pub record AreFreeRuns (f : Free) (d m : ℕ) (runs : List Extent) : Type 0 where
  pub members : (u : ℕ) → has_unit runs u ≡ (f.is_free d u && in_metaslab m u)
  pub maximal : IsMaximal runs

-- the metaslab has so many free units in a row
pub record HasRun (f : Free) (want d m : ℕ) : Type 0 where
  pub at : ℕ
  pub from : 512 * m ≤ at
  pub to : at + want ≤ 512 * m + 512
  pub free : (u : ℕ) → in_extent (record { start = at; len = want }) u ≡ true → f.is_free d u ≡ true

-- some device in service has them within a metaslab
pub record HasRunSomewhere (f : Free) (want : ℕ) : Type 0 where
  pub dev : ℕ
  pub metaslab : ℕ
  pub known : dev < f.devs
  pub serves : f.serves dev ≡ true
  pub run : HasRun f want dev metaslab

-- the first device is tried before the second: it has more free units, or as many and the lower index
abbrev pub IsBefore : Free → ℕ → ℕ → Type 0
IsBefore f a b = (f.count b < f.count a) ⊎ ((f.count a ≡ f.count b) × (a < b))

-- The front of the run that the policy names in the first metaslab with a run that fits, of the first device that has one.
pub record IsPlacement (f : Free) (policy : Policy) (want : ℕ) (at : Dva) : Type 0 where
  pub len : at.len ≡ want
  pub known : at.dev < f.devs
  pub serves : f.serves at.dev ≡ true
  pub metaslab : ℕ
  pub runs : List Extent
  pub index : ℕ
  pub are_runs : AreFreeRuns f at.dev metaslab runs
  pub inside : index < length runs
  pub fits : want ≤ (extent_at runs index).len
  pub named : names_run policy ≡ true → Some index ≡ named_run policy want runs
  pub front : at.start ≡ (extent_at runs index).start
  pub first_metaslab : (m : ℕ) → HasRun f want at.dev m → metaslab ≤ m
  pub first_device : (d m : ℕ) → d < f.devs → f.serves d ≡ true → HasRun f want d m → (d ≡ at.dev) ⊎ IsBefore f at.dev d

-- no device in service has the run, and this is the longest
pub record HasNoPlacement (f : Free) (needed longest : ℕ) : Type 0 where
  pub none : ¬ HasRunSomewhere f needed
  pub some : 0 < longest → HasRunSomewhere f longest
  pub most : ¬ HasRunSomewhere f (longest + 1)
