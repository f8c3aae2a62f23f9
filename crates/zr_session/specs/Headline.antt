-- What the program answers to its words and its input.
use Rattle.std.specs.Prelude.{ℕ, List}
use Rattle.zr_base.specs.Counts.{HasRisen}
use Rattle.zr_shelf.specs.Counts.{Counts}
use Rattle.zr_script.specs.CommandLine.{CommandLine}
use Rattle.zr_session.specs.Answers.{IsStarted}

-- no call of any kind failed
pub record NoneRose (before now : Counts) : Type 0 where
  pub disk : HasRisen before.disk now.disk → ⊥
  pub attach : HasRisen before.attach now.attach → ⊥
  pub input : HasRisen before.input now.input → ⊥
  pub output : HasRisen before.output now.output → ⊥

-- the words are no command line
abbrev pub IsNoCommandLine : List (List ℕ) → List (List ℕ) → Type 0
IsNoCommandLine names words = (line : CommandLine) → IsStarted names words line → ⊥
