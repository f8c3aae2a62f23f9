-- A run of commands: what each is answered, and what becomes of the pool's account and of the disks.
use Rattle.std.specs.Prelude.{◌≡◌, ℕ, Bool, true, false, List, [], ◌∷◌, length, map, replicate, Contains, Option, Some, None, is_some, MatchBool}
use Rattle.std.specs.List.{All, flat_map}
use Rattle.zr_base.specs.declared.space.Policy.{Policy}
use Rattle.zr_script.specs.declared.command.Command.{Command}
use Rattle.zr_script.specs.declared.command.Command.TheVariants as cmd
use Rattle.zr_shelf.specs.Disks.{Stand}
use Rattle.zr_shelf.specs.Moments.{World, Throughout}
use Rattle.zr_rules.specs.Steps.{has_condensing}
use Rattle.zr_model.specs.State.{PoolState, ShelfPart, Is, State}
use Rattle.zr_model.specs.Runs.{Shelf, Point, Turn}
use Rattle.zr_image.specs.StateOf.{StateOf}
use Rattle.zr_moves.specs.Account.{Account, StandsFor}
use Rattle.zr_moves.specs.Answers.{Answers}
use Rattle.zr_moves.specs.Tables.{leaving_of}
use Rattle.zr_moves.specs.Move.{Move}

-- how things stand between two commands: the shelf and what it has, and the account of an open pool
pub record Standing : Type 0 where
  pub point : Point State
  pub account : Option Account

-- a command that was done: its turn, the account behind it, and the shelf at moments of it
pub record Act : Type 0 where
  pub turn : Turn State
  pub account : Option Account
  pub moments : List Shelf

-- how things stand behind it
abbrev pub behind : Act → Standing
behind a = record { point = a.turn.point; account = a.account }

-- an open pool has an account that stands for it; with none open the disks mean what the state says
abbrev pub IsSoundBy : Bool → Shelf → ShelfPart → Option Account → Type 0
IsSoundBy true shelf (Is p) (Some a) = StandsFor shelf a p
IsSoundBy true shelf part account = ⊥
IsSoundBy false shelf part None = StateOf shelf.paths shelf.disks part
IsSoundBy false shelf part (Some a) = ⊥

abbrev pub IsSound : Standing → Type 0
IsSound s = IsSoundBy s.point.state.is_open s.point.shelf s.point.state.shelf s.account

-- no pool is open, and the state is what the disks mean
pub record IsStart (s : Standing) : Type 0 where
  pub closed : s.point.state.is_open ≡ false
  pub means : StateOf s.point.shelf.paths s.point.shelf.disks s.point.state.shelf
  pub none : s.account ≡ None

-- One command: a pool of plain objects answers so, the account follows, and behind it all stands as it must.
pub record Takes (policy : Policy) (s : Standing) (a : Act) : Type 0 where
  pub answers : Answers s.point.shelf s.point.state a.turn.command a.turn.answer a.turn.point.state
  pub move : Move (record { policy = policy; before = s.point.shelf; moments = a.moments; after = a.turn.point.shelf }) s.point.state.shelf s.account a.turn.command a.turn.answer a.account
  pub paths : a.turn.point.shelf.paths ≡ s.point.shelf.paths
  pub sizes : map length a.turn.point.shelf.disks ≡ map length s.point.shelf.disks
  pub sound : IsSound (behind a)

-- one command after another
abbrev pub Run : Policy → Standing → List Act → Type 0
Run policy s [] = Unit {0}
Run policy s (a ∷ acts) = Takes policy s a × Run policy (behind a) acts

abbrev pub turns_of : List Act → List (Turn State)
turns_of acts = map (λ (a : Act). a.turn) acts

abbrev pub shelf_of : Stand → Shelf
shelf_of stand = record { paths = stand.paths; disks = stand.seen }

-- The commands are done one after another between these two points: each ends with the shelf as it reads then, and its moments are moments of it.
abbrev pub Happen : List Act → World → World → Type 0
Happen [] from to = Throughout (λ stand. Unit {0}) from to
Happen (a ∷ acts) from to =
    (mid : World) × (since : Throughout (λ stand. Unit {0}) from mid)
    × All (λ m. (stand : Stand) × Contains since.more stand × (m ≡ shelf_of stand)) a.moments
    × (a.turn.point.shelf ≡ shelf_of mid.now) × Happen acts mid to

-- a line or command that is given, or a step that is put in where there is work
pub data Item (A : Type 0) : Type 0 where
  Given : A → Item A
  Inserted : Command → Item A

-- the steps of so many rounds
abbrev pub rounds_of : {A : Type 0} → ℕ → List (Item A)
rounds_of rounds = flat_map (λ (round : List Command). map Inserted round) (replicate rounds (cmd.StepEvac ∷ (cmd.StepDiscard ∷ (cmd.StepCondense ∷ []))))

-- each item with the steps of so many rounds behind it
abbrev pub agenda : {A : Type 0} → ℕ → List A → List (Item A)
agenda rounds given = flat_map (λ x. Given x ∷ rounds_of rounds) given

-- an open pool has work for the step
abbrev pub work_of : Option Account → Command → PoolState → Bool
work_of (Some a) cmd.StepEvac p = is_some (leaving_of a.space)
work_of (Some a) cmd.StepDiscard p = p.discarding
work_of (Some a) cmd.StepCondense p = has_condensing a.space
work_of account command p = false

abbrev pub work_in : ShelfPart → Option Account → Command → Bool
work_in (Is p) account command = work_of account command p
work_in part account command = false

abbrev pub has_work : Standing → Command → Bool
has_work s command = work_in s.point.state.shelf s.account command

-- The acts are those of the items: of each that is given, and of each that is put in where there is work.
abbrev pub Plays : {A : Type 0} → (A → Command → Type 0) → List (Item A) → Standing → List Act → Type 0
Plays Means [] s acts = acts ≡ []
Plays Means (Given x ∷ items) s acts = (a : Act) × (more : List Act) × (acts ≡ a ∷ more) × Means x a.turn.command × Plays Means items (behind a) more
Plays Means (Inserted command ∷ items) s acts =
    MatchBool (has_work s command)
    ((a : Act) × (more : List Act) × (acts ≡ a ∷ more) × (a.turn.command ≡ command) × Plays Means items (behind a) more)
    (Plays Means items s acts)

-- The next command that is due: of the first item that is given, or that is put in where there is work.
abbrev pub IsDue : {A : Type 0} → (A → Command → Type 0) → List (Item A) → Standing → Option Command → Type 0
IsDue Means [] s due = due ≡ None
IsDue Means (Given x ∷ items) s due = (command : Command) × Means x command × (due ≡ Some command)
IsDue Means (Inserted command ∷ items) s due = MatchBool (has_work s command) (due ≡ Some command) (IsDue Means items s due)
