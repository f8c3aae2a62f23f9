-- Points of a run, and what lies between them: a command, its answer, and how things stand then.
use Rattle.std.specs.Prelude.{◌≡◌, ◌≢◌, ℕ, ◌+◌, min, List, [], ◌∷◌, ◌++◌, length}
use Rattle.std.specs.List.{flat_map}
use Rattle.zr_shelf.specs.Disks.{Stand}
use Rattle.zr_shelf.specs.Moments.{World, Throughout}
use Rattle.zr_script.specs.declared.command.Command.{Command}
use Rattle.zr_script.specs.declared.command.Command.TheVariants as cmd
use Rattle.zr_script.specs.declared.reply.Reply.{Reply}
use Rattle.zr_script.specs.Grammar.{IsLine}
use Rattle.zr_script.specs.ReplyText.{reply_text}

-- the shelf as it reads: its paths and the bytes of its disks
pub record Shelf : Type 0 where
  pub paths : List (List ℕ)
  pub disks : List (List ℕ)

-- how things stand between two commands, for a pool of such states
pub record Point (S : Type 0) : Type 0 where
  pub shelf : Shelf
  pub state : S

-- a command, its answer, and how things stand then
pub record Turn (S : Type 0) : Type 0 where
  pub command : Command
  pub answer : Reply
  pub point : Point S

abbrev pub point : {S : Type 0} → Stand → S → Point S
point stand state = record { shelf = record { paths = stand.paths; disks = stand.seen }; state = state }

abbrev pub turn : {S : Type 0} → Command → Reply → Stand → S → Turn S
turn command answer stand state = record { command = command; answer = answer; point = point stand state }

-- how things stand behind the turns
abbrev pub end_of : {S : Type 0} → Point S → List (Turn S) → Point S
end_of p [] = p
end_of p (t ∷ turns) = end_of t.point turns

-- the bytes of all answers
abbrev pub texts : {S : Type 0} → List (Turn S) → List ℕ
texts turns = flat_map (λ t. reply_text t.answer) turns

-- the bytes of these lines with their line feeds, and those that it takes to know the next: up to its line feed, or the first that is too many
abbrev pub bytes_to : List (List ℕ) → List ℕ → ℕ
bytes_to lines line = length (flat_map (λ l. l ++ 10 ∷ []) lines) + min (length line + 1) 16385

-- the line asks for the command, which does not end the run
abbrev pub Asks : List ℕ → Command → Type 0
Asks line command = IsLine line command × (command ≢ cmd.Quit)

-- the same devices, input and output
pub record IsOutside (old new : Stand) : Type 0 where
  pub paths : new.paths ≡ old.paths
  pub left : new.left ≡ old.left
  pub sent : new.sent ≡ old.sent

-- nothing is attached, taken or sent, at any moment
pub record KeepsOutside (old new : World) : Type 0 where
  pub now : IsOutside old.now new.now
  pub since : Throughout (IsOutside old.now) old new
