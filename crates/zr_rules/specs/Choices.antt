-- Which of the free runs of a metaslab a policy names, and what a chooser answers.
use Rattle.std.specs.Prelude.{◌≡◌, ℕ, ◌+◌, ◌*◌, ◌≤◌, ◌<◌, ◌^◌, Bool, true, false, ◌||◌, ◌&&◌, ◌==◌, nat_le, nat_lt, min, List, [], ◌∷◌, Option, None, length, position, if◌then◌else◌}
use Rattle.std.specs.Option.{ForSome, ForNone}
use Rattle.zr_base.specs.declared.space.Extent.{Extent}
use Rattle.zr_base.specs.declared.space.Policy.{Policy}
use Rattle.zr_base.specs.declared.space.Policy.TheVariants.{Any, First, Best, Dynamic}
use Rattle.zr_base.specs.Extents.{extent_at, longest_len, unit_count}

-- the runs rise and do not overlap, from `low` on
abbrev pub AreRunsFrom : ℕ → List Extent → Type 0
AreRunsFrom low [] = Unit {0}
AreRunsFrom low (e ∷ es) = (low ≤ e.start) × (e.start + e.len < 2 ^ 63) × AreRunsFrom (e.start + e.len) es

abbrev pub AreRuns : List Extent → Type 0
AreRuns es = AreRunsFrom 0 es

-- the lowest run of at least so many units
abbrev pub first_fit : ℕ → List Extent → Option ℕ
first_fit want runs = position (λ e. nat_le want e.len) runs

-- the length of the shortest run of at least so many units, `none` where there is none
abbrev pub shortest_fit : ℕ → ℕ → List Extent → ℕ
shortest_fit none want [] = none
shortest_fit none want (e ∷ es) = if nat_le want e.len then min e.len (shortest_fit none want es) else shortest_fit none want es

-- the shortest run of at least so many units, the lowest among equals
abbrev pub best_fit : ℕ → List Extent → Option ℕ
best_fit want runs = position (λ e. nat_le want e.len && (e.len == shortest_fit e.len want runs)) runs

-- little is free in the metaslab, or in short runs alone
abbrev pub is_scarce : ℕ → ℕ → List Extent → Bool
is_scarce short percent runs = nat_lt (longest_len runs) short || nat_lt (100 * unit_count runs) (percent * 512)

-- the run that a policy names
abbrev pub named_run : Policy → ℕ → List Extent → Option ℕ
named_run Any want runs = None
named_run First want runs = first_fit want runs
named_run Best want runs = best_fit want runs
named_run (Dynamic short percent) want runs = if is_scarce short percent runs then best_fit want runs else first_fit want runs

-- the policy names a run; `Any` names none
abbrev pub names_run : Policy → Bool
names_run Any = false
names_run First = true
names_run Best = true
names_run (Dynamic short percent) = true

-- An answer names a run that is long enough, none is given only where there is none, and the run is the policy's.
pub record IsPick (policy : Policy) (want : ℕ) (runs : List Extent) (r : Option ℕ) : Type 0 where
  pub index : ForSome r (λ i. i < length runs)
  pub fits : ForSome r (λ i. want ≤ (extent_at runs i).len)
  pub none : ForNone r (longest_len runs < want)
  pub named : names_run policy ≡ true → r ≡ named_run policy want runs
