-- What has been answered when a run ends.
use Rattle.std.specs.Prelude.{◌≡◌, ◌≢◌, ◌⊎◌, ℕ, ◌+◌, ◌^◌, ◌≤◌, ◌<◌, List, [], ◌∷◌, ◌++◌, length, map, Option, None, unwrap_or}
use Rattle.std.specs.List.{AllByRecursion, flat_map}
use Rattle.zr_shelf.specs.Disks.{Stand, with_disk}
use Rattle.zr_base.specs.declared.refusal.Refusal.{Refusal}
use Rattle.zr_script.specs.declared.command.Command.{Command}
use Rattle.zr_script.specs.declared.command.Command.TheVariants as cmd
use Rattle.zr_script.specs.CommandLine.{CommandLine, IsCommandLine}
use Rattle.zr_script.specs.Grammar.{IsLine}
use Rattle.zr_script.specs.Lines.{lines_of}
use Rattle.zr_script.specs.ReplyText.{reply_text, BadLine, InputLimit, DiskFault, Damage, last_line}
use Rattle.zr_command.specs.Meanings.{Meaning, Run, IsBad, beginning}
use Rattle.zr_model.specs.Runs.{Point, Turn, end_of, texts, Asks, bytes_to}
use Rattle.zr_words.specs.Choosing.{chosen}
use Rattle.zr_session.specs.Agenda.{Item, agenda, Plays, IsDue}

-- the words are a command line that asks for one of the choosers with these names
pub record IsStarted (names : List (List ℕ)) (words : List (List ℕ)) (line : CommandLine) : Type 0 where
  pub is_line : IsCommandLine words line
  pub chooser : chosen (λ name. name) line.policy names ≢ None

abbrev pub paths_in : CommandLine → List (List ℕ)
paths_in line = map (λ (dev : List ℕ × Option ℕ). dev.0) line.devs

-- how many rounds of steps follow each line
abbrev pub rounds_in : CommandLine → ℕ
rounds_in line = unwrap_or line.auto 0

-- these devices were attached in order, each to be made with its size were it not there
abbrev pub IsAttached : List (List ℕ × Option ℕ) → Stand → Stand → Type 0
IsAttached [] old now = now ≡ old
IsAttached (dev ∷ devs) old now = (bytes : List ℕ) × IsAttached devs (with_disk old dev.0 dev.1 bytes) now

-- the first of these were attached, and not all
abbrev pub IsPartlyAttached : List (List ℕ × Option ℕ) → Stand → Stand → Type 0
IsPartlyAttached devs old now =
    (front : List (List ℕ × Option ℕ)) × (dev : List ℕ × Option ℕ) × (back : List (List ℕ × Option ℕ)) × (front ++ dev ∷ back ≡ devs) × IsAttached front old now

-- how far a run has come: the lines that were taken up and those that were not, what is done of what is due for the first and what is not, the turns, and what was taken of the input
pub record Reach (S : Type 0) : Type 0 where
  pub lines : List (List ℕ)
  pub more : List (List ℕ)
  pub front : List (Item (List ℕ))
  pub rest : List (Item (List ℕ))
  pub turns : List (Turn S)
  pub taken : List ℕ

-- The first lines of the input are taken up, each with so many rounds behind it. What is done of that is a run of the pool, and all that was sent is its replies and this text.
-- No more than 2 ^ 32 bytes are taken.
pub record HasReached (m : Meaning) (rounds : ℕ) (opening now : Stand) (r : Reach m.State) (text : List ℕ) : Type 0 where
  pub begins : lines_of opening.left ≡ r.lines ++ r.more
  pub due : agenda rounds r.lines ≡ r.front ++ r.rest
  pub plays : Plays m Asks r.front (beginning m opening) r.turns
  pub run : Run m (beginning m opening) r.turns
  pub input : opening.left ≡ r.taken ++ now.left
  pub most : length r.taken ≤ 2 ^ 32
  pub sent : now.sent ≡ opening.sent ++ (texts r.turns ++ text)

-- how things stand then
abbrev pub point_at : (m : Meaning) → Stand → Reach m.State → Point m.State
point_at m opening r = end_of (beginning m opening) r.turns

-- no line feed
abbrev pub IsOpenLine : List ℕ → Type 0
IsOpenLine line = AllByRecursion (λ b. b ≢ 10) line

-- every line that was taken whole is answered, with its rounds, and what was taken behind them is no more than a line
pub record IsBetween {S : Type 0} (r : Reach S) : Type 0 where
  pub answered : r.rest ≡ []
  pub line : List ℕ
  pub whole : r.taken ≡ flat_map (λ l. l ++ 10 ∷ []) r.lines ++ line
  pub is_open : IsOpenLine line
  pub short : length line ≤ 16384

-- all lines before this one are answered, with their rounds, and it is the next
pub record IsAtLine {S : Type 0} (r : Reach S) (line : List ℕ) : Type 0 where
  pub answered : r.rest ≡ []
  pub after : List (List ℕ)
  pub next : r.more ≡ line ∷ after

-- the next line is a bad one, and what was taken behind it is less than a piece: nothing was, once that could be known
abbrev pub IsAtBadLine : (m : Meaning) → Stand → Reach m.State → Type 0
IsAtBadLine m opening r = (line : List ℕ) × IsAtLine r line × IsBad m (point_at m opening r) line × (length r.taken < bytes_to r.lines line + 65536)

-- 2 ^ 32 bytes were taken
abbrev pub IsAtLimit : {S : Type 0} → Reach S → Type 0
IsAtLimit r = (length r.taken ≡ 2 ^ 32) × IsBetween r

-- the command is due, of the line that was taken up last or of a round behind it, and less than a piece was taken behind that line
pub record IsAtCommand (m : Meaning) (opening : Stand) (r : Reach m.State) (command : Command) : Type 0 where
  pub due : IsDue m Asks r.rest (point_at m opening r) command
  pub prompt : length r.taken < length (flat_map (λ l. l ++ 10 ∷ []) r.lines) + 65536

-- a command is due that may meet this damage
abbrev pub IsAtDamage : (m : Meaning) → Stand → Reach m.State → Refusal → Type 0
IsAtDamage m opening r found = (command : Command) × IsAtCommand m opening r command × m.damages (point_at m opening r) command found

-- the input has ended, and all its lines are answered
pub record IsAtEnd {S : Type 0} (now : Stand) (r : Reach S) : Type 0 where
  pub answered : r.rest ≡ []
  pub none : r.more ≡ []
  pub left : now.left ≡ []
  pub most : length r.taken < 2 ^ 32

-- the next line is `quit`, and what was taken behind it is less than a piece
abbrev pub IsAtQuit : {S : Type 0} → Reach S → Type 0
IsAtQuit r = (line : List ℕ) × IsAtLine r line × IsLine line cmd.Quit × (length r.taken < bytes_to r.lines line + 65536)

-- the text that tells of a bad line
abbrev pub bad_text : {S : Type 0} → Reach S → List ℕ
bad_text r = last_line (BadLine (length r.lines + 1))

-- what is to be sent next: the reply to the command that is due, or a last line
pub data IsNextText (m : Meaning) (opening : Stand) (r : Reach m.State) : List ℕ → Type 0 where
  reply : (t : Turn m.State) → IsAtCommand m opening r t.command → m.takes (point_at m opening r) t → IsNextText m opening r (reply_text t.answer)
  bad_line : IsAtBadLine m opening r → IsNextText m opening r (bad_text r)
  limit : IsAtLimit r → IsNextText m opening r (last_line InputLimit)
  fault : (command : Command) → IsAtCommand m opening r command → IsNextText m opening r (last_line DiskFault)
  damage : (found : Refusal) → IsAtDamage m opening r found → IsNextText m opening r (last_line (Damage found))

-- all lines are answered up to the end of the input, or all before a `quit`
abbrev pub IsDone : Meaning → ℕ → Stand → Stand → Type 0
IsDone m rounds opening now = (r : Reach m.State) × HasReached m rounds opening now r [] × (IsAtEnd now r ⊎ IsAtQuit r)

-- all lines before a bad one are answered, and that one is told with its number
abbrev pub TellsBadLine : Meaning → ℕ → Stand → Stand → Type 0
TellsBadLine m rounds opening now = (r : Reach m.State) × HasReached m rounds opening now r (bad_text r) × IsAtBadLine m opening r

-- all lines that were taken whole are answered, and it is told that the input is too long
abbrev pub TellsLimit : Meaning → ℕ → Stand → Stand → Type 0
TellsLimit m rounds opening now = (r : Reach m.State) × HasReached m rounds opening now r (last_line InputLimit) × IsAtLimit r

-- all commands before the one at which a device failed are answered, and that is told
abbrev pub TellsFault : Meaning → ℕ → Stand → Stand → Type 0
TellsFault m rounds opening now = (r : Reach m.State) × (command : Command) × HasReached m rounds opening now r (last_line DiskFault) × IsAtCommand m opening r command

-- all commands before the one at which damage was met are answered, and that is told
abbrev pub TellsDamage : Meaning → ℕ → Stand → Stand → Type 0
TellsDamage m rounds opening now = (r : Reach m.State) × (found : Refusal) × HasReached m rounds opening now r (last_line (Damage found)) × IsAtDamage m opening r found

-- all lines that were taken whole are answered
abbrev pub AnswersTaken : Meaning → ℕ → Stand → Stand → Type 0
AnswersTaken m rounds opening now = (r : Reach m.State) × HasReached m rounds opening now r [] × IsBetween r

-- first commands are answered
abbrev pub AnswersFront : Meaning → ℕ → Stand → Stand → Type 0
AnswersFront m rounds opening now = (r : Reach m.State) × HasReached m rounds opening now r []

-- first commands are answered, and a front of what is to be sent next
abbrev pub AnswersPartly : Meaning → ℕ → Stand → Stand → Type 0
AnswersPartly m rounds opening now = (r : Reach m.State) × (front back next : List ℕ) × (front ++ back ≡ next) × IsNextText m opening r next × HasReached m rounds opening now r front
