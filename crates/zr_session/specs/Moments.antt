-- How far a run has come at a moment of it, and how the disks may stand then.
use Rattle.std.specs.Prelude.{◌≡◌, ◌⊎◌, ℕ, Option, List, [], ◌∷◌, ◌++◌, MatchOption}
use Rattle.zr_shelf.specs.Disks.{Stand, sent_more}
use Rattle.zr_script.specs.declared.command.Command.{Command}
use Rattle.zr_script.specs.CommandLine.{CommandLine}
use Rattle.zr_script.specs.Lines.{lines_of}
use Rattle.zr_script.specs.ReplyText.{End, last_line}
use Rattle.zr_command.specs.Meanings.{Meaning, Disks, disks_of, Run}
use Rattle.zr_model.specs.Runs.{Point, Turn, point, end_of, Asks}
use Rattle.zr_session.specs.Agenda.{Item, Given, rounds_of, agenda, GivesNone, IsGiven, Plays, IsDue}
use Rattle.zr_session.specs.Answers.{IsStarted, rounds_in, IsAttached}
use Rattle.zr_session.specs.Generated.{Task, task_in, Stage, due_in, HasGenerated, point_in, tally_text}
use Rattle.zr_session.specs.Lines.{told_for, told}
use Rattle.zr_session.specs.declared.replies.Replies.{Replies}
use Rattle.zr_session.specs.declared.replies.Replies.TheVariants.{Sent, Kept}

-- the text begins with these bytes
abbrev pub IsFrontOf : List ℕ → List ℕ → Type 0
IsFrontOf front text = (back : List ℕ) × (front ++ back ≡ text)

-- a last line begins with them, or there are none
abbrev pub IsOfLastLine : List ℕ → Type 0
IsOfLastLine part = (end : End) × IsFrontOf part (last_line end)

-- a front of the text was sent, and nothing else has changed
abbrev pub IsSending : List ℕ → Stand → Stand → Type 0
IsSending text old stand = (part : List ℕ) × IsFrontOf part text × (stand ≡ sent_more old part)

-- How the disks may stand at a moment, where such a command is due at a point, and this was sent since then:
pub data MayStand (m : Meaning) (replies : Replies) (Due : Command → Type 0) (p : Point m.State) (part : List ℕ) (disks : Disks) : Type 0 where
  -- as they do before a command,
  resting : m.rests p disks → IsOfLastLine part → MayStand m replies Due p part disks
  -- within the one that is due, of whose reply nothing was sent,
  under_way : (command : Command) → Due command → m.within p command disks → IsOfLastLine part → MayStand m replies Due p part disks
  -- or as they do behind it, with no more than its reply sent.
  replying : (t : Turn m.State) → Due t.command → m.takes p t → m.rests t.point disks → IsFrontOf part (told_for replies t.answer) → MayStand m replies Due p part disks

-- a moment of one command
pub record IsCommandMoment (m : Meaning) (replies : Replies) (command : Command) (before : m.State) (old stand : Stand) : Type 0 where
  pub part : List ℕ
  pub sent : stand.sent ≡ old.sent ++ part
  pub disks : MayStand m replies (λ c. c ≡ command) (point old before) part (disks_of stand)

-- A moment of these items: first ones are done and their replies sent, where replies are, and no more than the next command is begun.
pub record IsMomentOf (A : Type 0) (m : Meaning) (Means : A → Command → Type 0) (replies : Replies) (items : List (Item A)) (before : m.State) (old stand : Stand) : Type 0 where
  pub front : List (Item A)
  pub rest : List (Item A)
  pub turns : List (Turn m.State)
  pub part : List ℕ
  pub due : items ≡ front ++ rest
  pub plays : Plays m Means front (point old before) turns
  pub run : Run m (point old before) turns
  pub sent : stand.sent ≡ old.sent ++ (told replies turns ++ part)
  pub disks : MayStand m replies (IsDue m Means rest (end_of (point old before) turns)) (end_of (point old before) turns) part (disks_of stand)

-- the same of items of which none is given
abbrev pub IsStepsMoment : (m : Meaning) → Replies → List (Item ⊥) → m.State → Stand → Stand → Type 0
IsStepsMoment m replies items before old stand = IsMomentOf ⊥ m GivesNone replies items before old stand

-- a moment of one line, with so many rounds behind it
abbrev pub IsLineMoment : (m : Meaning) → ℕ → List ℕ → m.State → Stand → Stand → Type 0
IsLineMoment m rounds line before old stand = IsMomentOf (List ℕ) m Asks Sent (Given line ∷ rounds_of rounds) before old stand

-- a moment of a run over the input: its lines are due, with so many rounds behind each
abbrev pub IsMoment : Meaning → ℕ → Stand → Stand → Type 0
IsMoment m rounds opening stand = IsMomentOf (List ℕ) m Asks Sent (agenda rounds (lines_of opening.left)) (m.none (disks_of opening)) opening stand

-- all is done in a generated run, and its one line is being sent
pub record IsTelling (m : Meaning) (task : Task) (opening stand : Stand) : Type 0 where
  pub stage : Stage m.State
  pub part : List ℕ
  pub done : stage.rest ≡ []
  pub generated : HasGenerated m task opening stand stage part
  pub begins : IsFrontOf part (tally_text m task opening stage)
  pub disks : m.rests (point_in m opening stage) (disks_of stand)

-- a moment of a generated run
abbrev pub IsGeneratedMoment : Meaning → Task → Stand → Stand → Type 0
IsGeneratedMoment m task opening stand = IsMomentOf Command m IsGiven Kept (due_in task) (m.none (disks_of opening)) opening stand ⊎ IsTelling m task opening stand

-- first ones of these devices are attached, or all
abbrev pub IsAttaching : List (List ℕ × Option ℕ) → Stand → Stand → Type 0
IsAttaching devs old stand = (front back : List (List ℕ × Option ℕ)) × (front ++ back ≡ devs) × IsAttached front old stand

-- a moment of the run that a command line asks for
abbrev pub IsRunMoment : Meaning → CommandLine → Stand → Stand → Type 0
IsRunMoment m line opening stand = MatchOption line.generate (IsMoment m (rounds_in line) opening stand) (λ n. IsGeneratedMoment m (task_in line n) opening stand)

-- first ones of its devices are attached and no command is begun, or all are and its run goes on
abbrev pub IsSessionMoment : Meaning → CommandLine → Stand → Stand → Type 0
IsSessionMoment m line old stand = IsAttaching line.devs old stand ⊎ ((opening : Stand) × IsAttached line.devs old opening × IsRunMoment m line opening stand)

-- a moment of the program, whose words are a command line
abbrev pub IsProgramMoment : Meaning → List (List ℕ) → List (List ℕ) → Stand → Stand → Type 0
IsProgramMoment m names words old stand = (line : CommandLine) × IsStarted names words line × IsSessionMoment m line old stand
