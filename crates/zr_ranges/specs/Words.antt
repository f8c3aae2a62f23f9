-- The words of a set that is written anew, kept as units come and go.
use Rattle.std.specs.Prelude.{◌≡◌, ℕ, ◌+◌, ◌-◌, ◌<◌, ◌≤◌, ◌==◌, if◌then◌else◌, List, [], ◌∷◌, Option, Some, None}
use Rattle.zr_base.specs.declared.space.Extent.{Extent}
use Rattle.zr_base.specs.Extents.{in_extent, end_of, IsMaximal, RemovesUnits}
use Rattle.zr_rules.specs.Owed.{extent_words, set_words}
use Rattle.zr_ranges.specs.declared.words.Words.{Words}

-- the extent that has a unit
abbrev pub run_of : ℕ → List Extent → Option Extent
run_of u [] = None
run_of u (e ∷ es) = if in_extent e u then Some e else run_of u es

-- the words of so many units that follow each other
abbrev pub part_words : ℕ → ℕ → ℕ
part_words version n = if n == 0 then 0 else extent_words version (record { start = 0; len = n })

-- the words of what is left of a run beside an extent of it
abbrev pub beside_words : ℕ → Extent → Extent → ℕ
beside_words version run e = part_words version (e.start - run.start) + part_words version (end_of run - end_of e)

-- units of the run go from a set, and what is left of it stays
pub record TakesFromRun (old new : List Extent) (run e : Extent) : Type 0 where
  pub maximal : IsMaximal old
  pub not_empty : 0 < e.len
  pub around : run_of e.start old ≡ Some run
  pub inside : end_of e ≤ end_of run
  pub removes : RemovesUnits old new e

-- the words of a set in the first form of a space map and in the second
pub record AreSetWords (w : Words) (es : List Extent) : Type 0 where
  pub first : w.first ≡ set_words 1 es
  pub second : w.second ≡ set_words 2 es
