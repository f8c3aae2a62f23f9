-- Words that are no changes, and changes of runs.
use Rattle.std.specs.Prelude.{ℕ, ◌+◌, ◌^◌, ◌<◌, ◌≤◌, List}
use Rattle.zr_base.specs.declared.space.Change.{Change}
use Rattle.zr_rules.specs.Logs.{SpellsChanges}

-- no changes are spelled so
abbrev pub SpellsNothing : ℕ → ℕ → List ℕ → Type 0
SpellsNothing version dev words = (changes : List Change) → SpellsChanges version dev words changes → ⊥

-- the run of the change is not empty and ends by 2 ^ 62
pub record IsRun (c : Change) : Type 0 where
  pub some : 0 < c.at.len
  pub place : c.at.start + c.at.len ≤ 2 ^ 62
