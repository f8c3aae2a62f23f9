-- A set as the words of its extents.
use Rattle.std.specs.Prelude.{◌≡◌, ℕ, ◌^◌, ◌<◌, ◌==◌, true, false, List, ◌++◌, map, if◌then◌else◌}
use Rattle.std.specs.List.{flat_map}
use Rattle.zr_base.specs.declared.space.Extent.{Extent}
use Rattle.zr_base.specs.declared.space.Change.{Change}
use Rattle.zr_base.specs.Extents.{has_unit}
use Rattle.zr_rules.specs.Logs.{change_words, IsCut, AreCut}

-- a run that is taken
abbrev pub taken : Extent → Change
taken e = record { free = false; at = e }

-- the words of runs that are taken
abbrev pub taken_words : ℕ → List Extent → List ℕ
taken_words dev runs = flat_map (change_words dev) (map taken runs)

-- the units end where the version can spell them
abbrev pub reach : ℕ → ℕ
reach version = if version == 1 then 2 ^ 47 else 2 ^ 36

abbrev pub IsInReach : ℕ → List Extent → Type 0
IsInReach version es = (u : ℕ) → has_unit es u ≡ true → u < reach version

-- the words of the extent, cut from its front, are added
pub record PutsRun (old new : List ℕ) (most dev : ℕ) (e : Extent) : Type 0 where
  pub runs : List Extent
  pub cut : IsCut most e runs
  pub words : new ≡ old ++ taken_words dev runs

-- the words are those of the extents, each cut from its front
pub record AreCutWords (most dev : ℕ) (es : List Extent) (words : List ℕ) : Type 0 where
  pub runs : List Extent
  pub cut : AreCut most es runs
  pub words_are : taken_words dev runs ≡ words
