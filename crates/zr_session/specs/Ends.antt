-- How a run ends.
use Rattle.std.specs.Prelude.{◌≡◌, ◌⊎◌, ℕ, Option, List, MatchOption}
use Rattle.zr_base.specs.Counts.{HasRisen}
use Rattle.zr_shelf.specs.Counts.{Counts}
use Rattle.zr_shelf.specs.Disks.{Stand}
use Rattle.zr_script.specs.CommandLine.{CommandLine}
use Rattle.zr_command.specs.Meanings.{Meaning}
use Rattle.zr_session.specs.Answers.{rounds_in, IsAttached, IsPartlyAttached, IsDone, TellsBadLine, TellsLimit, TellsFault, TellsDamage, AnswersTaken, AnswersFront, AnswersPartly}
use Rattle.zr_session.specs.Generated.{Task, task_in, TellsTally, TellsPartly, TellsFaultThere, TellsUnserved, TellsDamageThere, TellsNothing}
use Rattle.zr_session.specs.declared.end.End.{End}
use Rattle.zr_session.specs.declared.end.End.TheVariants.{Answered, BadWords, InputFault, OutputFault, DiskFault, BadLine, Damaged, AttachFault, InputLimit, NoMemory}

abbrev pub status_of : End → ℕ
status_of Answered = 0
status_of BadWords = 1
status_of InputFault = 2
status_of OutputFault = 3
status_of DiskFault = 4
status_of BadLine = 5
status_of Damaged = 6
status_of AttachFault = 7
status_of InputLimit = 8
status_of NoMemory = 9

-- what a run whose words are good may end by: a fault is told only where its count rose, and damage only where this holds
abbrev pub HasCause : Type 0 → Counts → Counts → End → Type 0
HasCause damage before now InputFault = HasRisen before.input now.input
HasCause damage before now OutputFault = HasRisen before.output now.output
HasCause damage before now DiskFault = HasRisen before.disk now.disk
HasCause damage before now Damaged = damage
HasCause damage before now AttachFault = HasRisen before.attach now.attach
HasCause damage before now BadWords = ⊥
HasCause damage before now _ = Unit {0}

-- what a run over an input has answered when it ends so
abbrev pub EndsAs : Meaning → ℕ → End → Stand → Stand → Type 0
EndsAs m rounds Answered opening now = IsDone m rounds opening now
EndsAs m rounds InputFault opening now = AnswersTaken m rounds opening now
EndsAs m rounds OutputFault opening now = AnswersPartly m rounds opening now
EndsAs m rounds DiskFault opening now = TellsFault m rounds opening now
EndsAs m rounds BadLine opening now = TellsBadLine m rounds opening now
EndsAs m rounds Damaged opening now = TellsDamage m rounds opening now
EndsAs m rounds InputLimit opening now = TellsLimit m rounds opening now
EndsAs m rounds NoMemory opening now = AnswersFront m rounds opening now
EndsAs m rounds BadWords opening now = ⊥
EndsAs m rounds AttachFault opening now = ⊥

-- the same of a generated run
abbrev pub GeneratesAs : Meaning → Task → End → Stand → Stand → Type 0
GeneratesAs m task Answered opening now = TellsTally m task opening now
GeneratesAs m task OutputFault opening now = TellsPartly m task opening now
GeneratesAs m task DiskFault opening now = TellsFaultThere m task opening now
GeneratesAs m task BadLine opening now = TellsUnserved m task opening now
GeneratesAs m task Damaged opening now = TellsDamageThere m task opening now
GeneratesAs m task NoMemory opening now = TellsNothing m task opening now
GeneratesAs m task InputFault opening now = ⊥
GeneratesAs m task InputLimit opening now = ⊥
GeneratesAs m task BadWords opening now = ⊥
GeneratesAs m task AttachFault opening now = ⊥

-- how the run ends that the words ask for
abbrev pub EndsBy : Meaning → CommandLine → End → Stand → Stand → Type 0
EndsBy m line end opening now = MatchOption line.generate (EndsAs m (rounds_in line) end opening now) (λ n. GeneratesAs m (task_in line n) end opening now)

-- what a run came to whose devices were to be attached
abbrev pub IsOpenedTo : (End → Stand → Stand → Type 0) → End → List (List ℕ × Option ℕ) → Stand → Stand → Type 0
IsOpenedTo Ends AttachFault devs old now = IsPartlyAttached devs old now
IsOpenedTo Ends NoMemory devs old now = (now ≡ old) ⊎ IsPartlyAttached devs old now ⊎ ((opening : Stand) × IsAttached devs old opening × Ends NoMemory opening now)
IsOpenedTo Ends end devs old now = (opening : Stand) × IsAttached devs old opening × Ends end opening now
