-- One line, and what is sent for it.
use Rattle.std.specs.Prelude.{◌≡◌, ℕ, ◌<◌, List, [], ◌∷◌, ◌++◌, length}
use Rattle.std.specs.List.{flat_map}
use Rattle.zr_shelf.specs.Disks.{Stand}
use Rattle.zr_base.specs.declared.refusal.Refusal.{Refusal}
use Rattle.zr_script.specs.declared.command.Command.{Command}
use Rattle.zr_script.specs.declared.command.Command.TheVariants as cmd
use Rattle.zr_script.specs.declared.reply.Reply.{Reply}
use Rattle.zr_script.specs.Grammar.{IsLine}
use Rattle.zr_script.specs.ReplyText as text
use Rattle.zr_script.specs.ReplyText.{reply_text, last_line}
use Rattle.zr_command.specs.Meanings.{Meaning, Disks, disks_of, Run}
use Rattle.zr_model.specs.Runs.{Point, Turn, point, turn, end_of, Asks}
use Rattle.zr_session.specs.Agenda.{Item, Given, rounds_of, GivesNone, Plays, IsDue}
use Rattle.zr_session.specs.declared.replies.Replies.{Replies}
use Rattle.zr_session.specs.declared.replies.Replies.TheVariants.{Sent, Kept}
use Rattle.zr_session.specs.declared.end.End.{End}
use Rattle.zr_session.specs.declared.end.End.TheVariants.{Answered, OutputFault, DiskFault, BadLine, Damaged, NoMemory}

-- this was sent, and nothing taken
pub record Sends (old new : Stand) (bytes : List ℕ) : Type 0 where
  pub left : new.left ≡ old.left
  pub sent : new.sent ≡ old.sent ++ bytes

-- not all bytes were sent
abbrev pub SendsPartly : List ℕ → Stand → Stand → End → Type 0
SendsPartly bytes old new OutputFault = (front back : List ℕ) × (front ++ back ≡ bytes) × Sends old new front
SendsPartly bytes old new NoMemory = Sends old new []
SendsPartly bytes old new _ = ⊥

-- the run ends as said and this was sent, or it ends so because that was not sent
pub data Tells (end : End) (bytes : List ℕ) (result : End) (old new : Stand) : Type 0 where
  wholly : result ≡ end → Sends old new bytes → Tells end bytes result old new
  partly : SendsPartly bytes old new result → Tells end bytes result old new

-- The pool stands for some state of which this holds.
pub record StandsForOne {S : Type 0} (stands : Disks → S → Type 0) (now : Stand) (Holds : S → Type 0) : Type 0 where
  pub state : S
  pub stands_for : stands (disks_of now) state
  pub holds : Holds state

-- what is sent for an answer
abbrev pub told_for : Replies → Reply → List ℕ
told_for Sent answer = reply_text answer
told_for Kept answer = []

-- what is sent for turns
abbrev pub told : {S : Type 0} → Replies → List (Turn S) → List ℕ
told replies turns = flat_map (λ t. told_for replies t.answer) turns

-- answers are sent, and not all of this one was
abbrev pub SendsReplyPartly : Replies → Reply → Stand → Stand → End → Type 0
SendsReplyPartly replies answer old new end = (replies ≡ Sent) × SendsPartly (reply_text answer) old new end

-- the command is done and has this answer, which is sent where replies are
pub record DoesCommand (m : Meaning) (replies : Replies) (command : Command) (answer : Reply) (before after : m.State) (old new : Stand) : Type 0 where
  pub takes : m.takes (point old before) (turn command answer new after)
  pub sends : Sends old new (told_for replies answer)

-- what is to be sent for a command
pub data IsTextFor (m : Meaning) (replies : Replies) (command : Command) (number : ℕ) (before : m.State) (old : Stand) : List ℕ → Type 0 where
  reply : (answer : Reply) (after : Point m.State) → replies ≡ Sent → m.takes (point old before) (record { command = command; answer = answer; point = after }) → IsTextFor m replies command number before old (reply_text answer)
  bad_line : (m.serves old.paths before command → ⊥) → IsTextFor m replies command number before old (last_line (text.BadLine number))
  fault : IsTextFor m replies command number before old (last_line text.DiskFault)
  damage : (found : Refusal) → m.damages (point old before) command found → IsTextFor m replies command number before old (last_line (text.Damage found))

-- the run ends at the command
abbrev pub StopsAtCommand : (m : Meaning) → Replies → Command → ℕ → m.State → Stand → Stand → End → Type 0
StopsAtCommand m replies command number before old new OutputFault =
    (front back next : List ℕ) × (front ++ back ≡ next) × IsTextFor m replies command number before old next × Sends old new front
StopsAtCommand m replies command number before old new DiskFault = Sends old new (last_line text.DiskFault)
StopsAtCommand m replies command number before old new BadLine = (m.serves old.paths before command → ⊥) × Sends old new (last_line (text.BadLine number))
StopsAtCommand m replies command number before old new Damaged = (found : Refusal) × m.damages (point old before) command found × Sends old new (last_line (text.Damage found))
StopsAtCommand m replies command number before old new NoMemory = Sends old new []
StopsAtCommand m replies command number before old new _ = ⊥

-- These items are done one after another, and their answers are sent where replies are; nothing is taken.
pub record DoesItems (A : Type 0) (m : Meaning) (Means : A → Command → Type 0) (replies : Replies) (items : List (Item A)) (before after : m.State) (old new : Stand) : Type 0 where
  pub turns : List (Turn m.State)
  pub plays : Plays m Means items (point old before) turns
  pub run : Run m (point old before) turns
  pub ends : end_of (point old before) turns ≡ point new after
  pub sends : Sends old new (told replies turns)

-- The run ends at the next command that is due of these items, which the pool serves; those before it are done.
pub record StopsWithin (A : Type 0) (m : Meaning) (Means : A → Command → Type 0) (replies : Replies) (items : List (Item A)) (number : ℕ) (before : m.State) (old new : Stand) (end : End) : Type 0 where
  pub front : List (Item A)
  pub rest : List (Item A)
  pub split : items ≡ front ++ rest
  pub state : m.State
  pub mid : Stand
  pub does : DoesItems A m Means replies front before state old mid
  pub command : Command
  pub due : IsDue m Means rest (point mid state) command
  pub served : m.serves mid.paths state command
  pub stops : StopsAtCommand m replies command number state mid new end

-- the same of items of which none is given
abbrev pub DoesSteps : (m : Meaning) → Replies → List (Item ⊥) → m.State → m.State → Stand → Stand → Type 0
DoesSteps m replies items before after old new = DoesItems ⊥ m GivesNone replies items before after old new

abbrev pub StopsWithinSteps : (m : Meaning) → Replies → List (Item ⊥) → ℕ → m.State → Stand → Stand → End → Type 0
StopsWithinSteps m replies items number before old new end = StopsWithin ⊥ m GivesNone replies items number before old new end

-- the line is answered, with so many rounds behind it
abbrev pub AnswersLine : (m : Meaning) → ℕ → List ℕ → m.State → m.State → Stand → Stand → Type 0
AnswersLine m rounds line before after old new = DoesItems (List ℕ) m Asks Sent (Given line ∷ rounds_of rounds) before after old new

-- no command, or it ends at this one, or within the rounds behind it
pub data StopsAtLine (m : Meaning) (rounds : ℕ) (line : List ℕ) (number : ℕ) (before : m.State) (old new : Stand) (end : End) : Type 0 where
  outside : ((command : Command) → IsLine line command → ⊥) → Tells BadLine (last_line (text.BadLine number)) end old new → StopsAtLine m rounds line number before old new end
  quit : IsLine line cmd.Quit → end ≡ Answered → new ≡ old → StopsAtLine m rounds line number before old new end
  command : (command : Command) → Asks line command → StopsAtCommand m Sent command number before old new end → StopsAtLine m rounds line number before old new end
  within : (state : m.State) (mid : Stand) → DoesItems (List ℕ) m Asks Sent (Given line ∷ []) before state old mid
      → StopsWithin (List ℕ) m Asks Sent (rounds_of rounds) number state mid new end → StopsAtLine m rounds line number before old new end
  memory : end ≡ NoMemory → new ≡ old → StopsAtLine m rounds line number before old new end

-- A line that has become too long is told, or memory ran out.
pub data StopsAtRest (line : List ℕ) (number : ℕ) (old new : Stand) (end : End) : Type 0 where
  long : 16384 < length line → Tells BadLine (last_line (text.BadLine number)) end old new → StopsAtRest line number old new end
  full : end ≡ NoMemory → new ≡ old → StopsAtRest line number old new end
