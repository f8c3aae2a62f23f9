-- What commands mean to a kind of pool, and a run of them, each answered from what the one before left.
use Rattle.std.specs.Prelude.{◌≡◌, ◌⊎◌, ℕ, Bool, false, List, [], ◌∷◌}
use Rattle.zr_base.specs.declared.refusal.Refusal.{Refusal}
use Rattle.zr_script.specs.declared.command.Command.{Command}
use Rattle.zr_script.specs.declared.command.Command.TheVariants as cmd
use Rattle.zr_script.specs.declared.reply.Reply.{Reply}
use Rattle.zr_script.specs.Grammar.{IsLine}
use Rattle.zr_shelf.specs.Disks.{Stand, PendingWrite}
use Rattle.zr_model.specs.Runs.{Asks, Point, Shelf, Turn, point, turn}
use Rattle.zr_model.specs.State.{State, no_pool}
use Rattle.zr_model.specs.Step.{Step, IsServed}
use Rattle.zr_model.specs.declared.actor.Actor.{Actor}
use Rattle.zr_model.specs.declared.actor.Actor.TheVariants.{Evac, Discard, Condense}

-- What a command does to the disks: nothing, as all objects are in memory.
abbrev pub Moves : Shelf → Shelf → Type 0
Moves old new = new ≡ old

-- one command from a point
pub record Takes (p : Point State) (t : Turn State) : Type 0 where
  pub step : Step p.shelf.paths p.state t.command t.answer t.point.state
  pub move : Moves p.shelf t.point.shelf

-- the disks at a moment: as the last flush left them, what was written since, and as they read
pub record Disks : Type 0 where
  pub durable : List (List ℕ)
  pub writes : List PendingWrite
  pub seen : List (List ℕ)

abbrev pub disks_of : Stand → Disks
disks_of stand = record { durable = stand.durable; writes = stand.writes; seen = stand.seen }

-- What commands mean to a kind of pool.
pub record Meaning : Type 1 where
  -- what is told of such a pool between two commands
  pub State : Type 0
  -- and where there is none yet, on disks that stand so
  pub none : Disks → State
  -- one command from a point, and its answer
  pub takes : Point State → Turn State → Type 0
  -- the command may stand there, by the paths and the state
  pub serves : List (List ℕ) → State → Command → Type 0
  -- the command may meet this damage from a point
  pub damages : Point State → Command → Refusal → Type 0
  -- the answer to the command tells that a device failed
  pub blames : Command → Reply → Type 0
  -- a step of the actor has work there
  pub works : State → Actor → Bool
  -- the disks may stand so between two commands
  pub rests : Point State → Disks → Type 0
  -- and so at a moment of the command from a point, be it done in the end or not
  pub within : Point State → Command → Disks → Type 0

-- what they mean to plain objects, of which none is ever damaged, which leave no work, and for which the disks read the same at each moment
abbrev pub plain : Meaning
plain = record {
  State = State;
  none = λ disks. no_pool;
  takes = Takes;
  serves = IsServed;
  damages = λ p command found. ⊥;
  blames = λ command answer. ⊥;
  works = λ state actor. false;
  rests = λ p disks. disks.seen ≡ p.shelf.disks;
  within = λ p command disks. disks.seen ≡ p.shelf.disks;
}

-- the line that makes a step of the actor
abbrev pub step_of : Actor → Command
step_of Evac = cmd.StepEvac
step_of Discard = cmd.StepDiscard
step_of Condense = cmd.StepCondense

-- A command was answered and led to some state, for which the pool then stands.
pub record TurnsTo (m : Meaning) (stands : Disks → m.State → Type 0) (before : m.State) (old : Stand) (command : Command) (answer : Reply) (new : Stand) : Type 0 where
  pub after : m.State
  pub stands_for : stands (disks_of new) after
  pub takes : m.takes (point old before) (turn command answer new after)

-- where a run begins, with no pool yet
abbrev pub beginning : (m : Meaning) → Stand → Point m.State
beginning m opening = point opening (m.none (disks_of opening))

-- one command after another
abbrev pub Run : (m : Meaning) → Point m.State → List (Turn m.State) → Type 0
Run m p [] = Unit {0}
Run m p (t ∷ turns) = m.takes p t × Run m t.point turns

-- the line is outside the grammar, or asks for what may not stand here
abbrev pub IsBad : (m : Meaning) → Point m.State → List ℕ → Type 0
IsBad m p line =
    ((command : Command) → IsLine line command → ⊥) ⊎ ((command : Command) × Asks line command × (m.serves p.shelf.paths p.state command → ⊥))

-- some command to such a pool may meet damage
abbrev pub MayBeDamaged : Meaning → Type 0
MayBeDamaged m = (p : Point m.State) × (command : Command) × (found : Refusal) × m.damages p command found
