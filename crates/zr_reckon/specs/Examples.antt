-- Sets that meet the bounds on words.
use Rattle.std.specs.Prelude.{ℕ, List, [], ◌∷◌}
use Rattle.zr_base.specs.declared.space.Extent.{Extent}

abbrev pub run : ℕ → ℕ → Extent
run start len = record { start = start; len = len }

-- a run that a version after the first spells with two words, and what is left of it without its middle
abbrev pub long_run : List Extent
long_run = run 0 100000 ∷ []

abbrev pub both_ends : List Extent
both_ends = run 0 40000 ∷ (run 40001 59999 ∷ [])

abbrev pub short_run : List Extent
short_run = run 5 3 ∷ []

abbrev pub short_ends : List Extent
short_ends = run 5 1 ∷ (run 7 1 ∷ [])
