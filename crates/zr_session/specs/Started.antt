-- What a run came to, from its words on.
use Rattle.std.specs.Prelude.{ℕ, List, MatchOption}
use Rattle.zr_shelf.specs.Disks.{Stand}
use Rattle.zr_script.specs.CommandLine.{CommandLine}
use Rattle.zr_session.specs.Answers.{IsStarted, rounds_in, IsAttached, IsPartlyAttached}
use Rattle.zr_session.specs.Generated.{Task, task_in}

-- The words are a command line, its devices were attached, and then the run over the input with so many rounds came to what is said first, or the generated run that the words ask for to what is said then.
abbrev pub RunsTo : (ℕ → Stand → Stand → Type 0) → (Task → Stand → Stand → Type 0) → List (List ℕ) → List (List ℕ) → Stand → Stand → Type 0
RunsTo P Q names words old new =
    (line : CommandLine) × (opening : Stand) × IsStarted names words line × IsAttached line.devs old opening
    × MatchOption line.generate (P (rounds_in line) opening new) (λ n. Q (task_in line n) opening new)

-- the words are a command line, of whose devices the first were attached, and not all
abbrev pub StopsAtDevice : List (List ℕ) → List (List ℕ) → Stand → Stand → Type 0
StopsAtDevice names words old new = (line : CommandLine) × IsStarted names words line × IsPartlyAttached line.devs old new
