-- A run of commands that two numbers give. It takes no input and sends no reply: at its end one line tells what the replies came to.
use Rattle.std.specs.Prelude.{◌≡◌, ℕ, suc, List, [], ◌∷◌, ◌++◌, if◌then◌else◌}
use Rattle.zr_shelf.specs.Disks.{Stand}
use Rattle.zr_base.specs.declared.refusal.Refusal.{Refusal}
use Rattle.zr_script.specs.declared.command.Command.{Command}
use Rattle.zr_script.specs.CommandLine.{CommandLine}
use Rattle.zr_script.specs.Generated.{script_of}
use Rattle.zr_script.specs.ReplyText.{BadLine, DiskFault, Damage, last_line}
use Rattle.zr_command.specs.Meanings.{Meaning, Run, beginning}
use Rattle.zr_model.specs.Runs.{Point, Turn, point, end_of}
use Rattle.zr_session.specs.Tally.{Answer, answer_of, generated_text}
use Rattle.zr_session.specs.Agenda.{Item, Given, Inserted, agenda, IsGiven, Plays, IsDue}
use Rattle.zr_session.specs.Answers.{paths_in, rounds_in}

-- what such a run is to do: its number, how many lines are drawn, on which devices, and how many rounds follow each command
pub record Task : Type 0 where
  pub number : ℕ
  pub count : ℕ
  pub devs : List (List ℕ)
  pub rounds : ℕ

-- the run of these two numbers that the words ask for
abbrev pub task_in : CommandLine → ℕ × ℕ → Task
task_in line n = record { number = n.0; count = n.1; devs = paths_in line; rounds = rounds_in line }

-- all that is due in it
abbrev pub due_in : Task → List (Item Command)
due_in task = agenda task.rounds (script_of task.number task.count task.devs)

-- the answers to the commands that are given, without those to the steps that were put in
abbrev pub given_answers : {A : Type 0} → (m : Meaning) → List (Item A) → Point m.State → List (Turn m.State) → List Answer
given_answers m [] p turns = []
given_answers m (Given x ∷ items) p [] = []
given_answers m (Given x ∷ items) p (t ∷ turns) = answer_of t ∷ given_answers m items t.point turns
given_answers m (Inserted actor ∷ items) p [] = []
given_answers m (Inserted actor ∷ items) p (t ∷ turns) = if m.works p.state actor then given_answers m items t.point turns else given_answers m items p (t ∷ turns)

-- how many of the items are given
abbrev pub given_count : {A : Type 0} → List (Item A) → ℕ
given_count [] = 0
given_count (Given x ∷ items) = suc (given_count items)
given_count (Inserted actor ∷ items) = given_count items

-- how far the run has come: what is done of what is due and what is not, and the turns
pub record Stage (S : Type 0) : Type 0 where
  pub front : List (Item Command)
  pub rest : List (Item Command)
  pub turns : List (Turn S)

-- What is done is a run of the pool. Nothing was taken of the input, and this text is all that was sent.
pub record HasGenerated (m : Meaning) (task : Task) (opening now : Stand) (s : Stage m.State) (text : List ℕ) : Type 0 where
  pub due : due_in task ≡ s.front ++ s.rest
  pub plays : Plays m IsGiven s.front (beginning m opening) s.turns
  pub run : Run m (beginning m opening) s.turns
  pub left : now.left ≡ opening.left
  pub sent : now.sent ≡ opening.sent ++ text

-- how things stand then
abbrev pub point_in : (m : Meaning) → Stand → Stage m.State → Point m.State
point_in m opening s = end_of (beginning m opening) s.turns

-- the line that tells of the replies so far
abbrev pub tally_text : (m : Meaning) → Task → Stand → Stage m.State → List ℕ
tally_text m task opening s = generated_text task.number task.count (given_answers m s.front (beginning m opening) s.turns)

-- the command is due
abbrev pub IsNextCommand : (m : Meaning) → Stand → Stage m.State → Command → Type 0
IsNextCommand m opening s command = IsDue m IsGiven s.rest (point_in m opening s) command

-- a command is due that the pool does not serve
abbrev pub IsNextUnserved : (m : Meaning) → Stand → Stage m.State → Type 0
IsNextUnserved m opening s =
    (command : Command) × IsNextCommand m opening s command × (m.serves (point_in m opening s).shelf.paths (point_in m opening s).state command → ⊥)

-- one is due that may meet this damage
abbrev pub IsNextDamage : (m : Meaning) → Stand → Stage m.State → Refusal → Type 0
IsNextDamage m opening s found = (command : Command) × IsNextCommand m opening s command × m.damages (point_in m opening s) command found

-- the text that tells of a command by its number
abbrev pub unserved_text : {S : Type 0} → Stage S → List ℕ
unserved_text s = last_line (BadLine (suc (given_count s.front)))

-- what is to be sent next: the line where all is done, or a last line
pub data IsNextLine (m : Meaning) (task : Task) (opening : Stand) (s : Stage m.State) : List ℕ → Type 0 where
  tally : s.rest ≡ [] → IsNextLine m task opening s (tally_text m task opening s)
  unserved : IsNextUnserved m opening s → IsNextLine m task opening s (unserved_text s)
  fault : (command : Command) → IsNextCommand m opening s command → IsNextLine m task opening s (last_line DiskFault)
  damage : (found : Refusal) → IsNextDamage m opening s found → IsNextLine m task opening s (last_line (Damage found))

-- all is done, and the line was sent that tells what the replies came to
abbrev pub TellsTally : Meaning → Task → Stand → Stand → Type 0
TellsTally m task opening now = (s : Stage m.State) × HasGenerated m task opening now s (tally_text m task opening s) × (s.rest ≡ [])

-- all before a command is done, and that the pool does not serve it is told with its number
abbrev pub TellsUnserved : Meaning → Task → Stand → Stand → Type 0
TellsUnserved m task opening now = (s : Stage m.State) × HasGenerated m task opening now s (unserved_text s) × IsNextUnserved m opening s

-- all before the command at which a device failed is done, and that is told
abbrev pub TellsFaultThere : Meaning → Task → Stand → Stand → Type 0
TellsFaultThere m task opening now = (s : Stage m.State) × (command : Command) × HasGenerated m task opening now s (last_line DiskFault) × IsNextCommand m opening s command

-- all before the command at which damage was met is done, and that is told
abbrev pub TellsDamageThere : Meaning → Task → Stand → Stand → Type 0
TellsDamageThere m task opening now = (s : Stage m.State) × (found : Refusal) × HasGenerated m task opening now s (last_line (Damage found)) × IsNextDamage m opening s found

-- first commands are done, and nothing was sent
abbrev pub TellsNothing : Meaning → Task → Stand → Stand → Type 0
TellsNothing m task opening now = (s : Stage m.State) × HasGenerated m task opening now s []

-- first commands are done, and a front was sent of what is to be sent next
abbrev pub TellsPartly : Meaning → Task → Stand → Stand → Type 0
TellsPartly m task opening now = (s : Stage m.State) × (front back next : List ℕ) × (front ++ back ≡ next) × IsNextLine m task opening s next × HasGenerated m task opening now s front

-- no such run ends so
abbrev pub Never : Task → Stand → Stand → Type 0
Never task opening now = ⊥
