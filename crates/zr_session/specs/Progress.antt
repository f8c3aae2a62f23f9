-- How far a run has come between two pieces of the input, and within one.
use Rattle.std.specs.Prelude.{◌≡◌, ℕ, ◌+◌, ◌^◌, ◌≤◌, ◌<◌, List, [], ◌∷◌, ◌++◌, length}
use Rattle.std.specs.List.{flat_map}
use Rattle.zr_shelf.specs.Disks.{Stand}
use Rattle.zr_script.specs.Lines.{lines_of}
use Rattle.zr_command.specs.Meanings.{Meaning, Disks, Run, beginning}
use Rattle.zr_model.specs.Runs.{Turn, point, end_of, texts, Asks, bytes_to}
use Rattle.zr_session.specs.Agenda.{Item, agenda, Plays}
use Rattle.zr_session.specs.Answers.{IsOpenLine}
use Rattle.zr_session.specs.Lines.{StandsForOne}

-- first items are done, and this was sent for them
pub record HasDone (m : Meaning) (opening now : Stand) (state : m.State) (items : List (Item (List ℕ))) (turns : List (Turn m.State)) : Type 0 where
  pub plays : Plays m Asks items (beginning m opening) turns
  pub run : Run m (beginning m opening) turns
  pub ends : end_of (beginning m opening) turns ≡ point now state
  pub sent : now.sent ≡ opening.sent ++ texts turns

-- `rest` is what was taken and not yet looked at, and `line` what stands before it behind the last line feed
pub record IsAt (m : Meaning) (rounds : ℕ) (opening now : Stand) (state : m.State) (rest line : List ℕ) (count taken : ℕ) : Type 0 where
  pub lines : List (List ℕ)
  pub turns : List (Turn m.State)
  pub bytes : List ℕ
  pub done : HasDone m opening now state (agenda rounds lines) turns
  pub input : opening.left ≡ bytes ++ (rest ++ now.left)
  pub whole : bytes ≡ flat_map (λ l. l ++ 10 ∷ []) lines ++ line
  pub split : (more : List ℕ) → lines_of (bytes ++ more) ≡ lines ++ lines_of (line ++ more)
  pub is_open : IsOpenLine line
  pub short : length line ≤ 16384
  pub count_is : length lines ≡ count
  pub taken_is : length bytes + length rest ≡ taken
  pub piece : length rest ≤ 65536
  pub most : taken ≤ 2 ^ 32

-- the pool stands for a state to which the answered lines lead
abbrev pub StandsAt : (m : Meaning) → ℕ → (Disks → m.State → Type 0) → Stand → Stand → List ℕ → List ℕ → ℕ → ℕ → Type 0
StandsAt m rounds stands opening now rest line count taken = StandsForOne stands now (λ state. IsAt m rounds opening now state rest line count taken)

-- this line is the next
pub record IsNext (m : Meaning) (rounds : ℕ) (opening now : Stand) (state : m.State) (line : List ℕ) (number : ℕ) : Type 0 where
  pub lines : List (List ℕ)
  pub more : List (List ℕ)
  pub turns : List (Turn m.State)
  pub taken : List ℕ
  pub done : HasDone m opening now state (agenda rounds lines) turns
  pub input : opening.left ≡ taken ++ now.left
  pub most : length taken ≤ 2 ^ 32
  pub front : lines_of opening.left ≡ lines ++ line ∷ more
  pub number_is : number ≡ length lines + 1
  pub prompt : length taken < bytes_to lines line + 65536
