-- What is due in a run, and the turns by which it is done.
use Rattle.std.specs.Prelude.{◌≡◌, ℕ, List, [], ◌∷◌, map, replicate, MatchBool}
use Rattle.std.specs.List.{flat_map}
use Rattle.zr_script.specs.declared.command.Command.{Command}
use Rattle.zr_model.specs.declared.actor.Actor.{Actor}
use Rattle.zr_model.specs.declared.actor.Actor.TheVariants.{Evac, Discard, Condense}
use Rattle.zr_command.specs.Meanings.{Meaning, step_of}
use Rattle.zr_model.specs.Runs.{Point, Turn}

-- a line or command that is given, or a step of an actor that is put in where there is work
pub data Item (A : Type 0) : Type 0 where
  Given : A → Item A
  Inserted : Actor → Item A

-- whose steps make a round, in this order
abbrev pub round : List Actor
round = Evac ∷ (Discard ∷ (Condense ∷ []))

-- the steps of so many rounds
abbrev pub rounds_of : {A : Type 0} → ℕ → List (Item A)
rounds_of rounds = flat_map (λ (actors : List Actor). map Inserted actors) (replicate rounds round)

-- each item with the steps of so many rounds behind it
abbrev pub agenda : {A : Type 0} → ℕ → List A → List (Item A)
agenda rounds given = flat_map (λ x. Given x ∷ rounds_of rounds) given

-- where only steps are put in
abbrev pub GivesNone : ⊥ → Command → Type 0
GivesNone x command = ⊥

-- a command that is given itself
abbrev pub IsGiven : Command → Command → Type 0
IsGiven given command = command ≡ given

-- The turns are those of the items: of each that is given, and of each that is put in where there is work.
abbrev pub Plays : {A : Type 0} → (m : Meaning) → (A → Command → Type 0) → List (Item A) → Point m.State → List (Turn m.State) → Type 0
Plays m Means [] p turns = turns ≡ []
Plays m Means (Given x ∷ items) p turns = (t : Turn m.State) × (more : List (Turn m.State)) × (turns ≡ t ∷ more) × Means x t.command × Plays m Means items t.point more
Plays m Means (Inserted actor ∷ items) p turns =
    MatchBool (m.works p.state actor)
    ((t : Turn m.State) × (more : List (Turn m.State)) × (turns ≡ t ∷ more) × (t.command ≡ step_of actor) × Plays m Means items t.point more)
    (Plays m Means items p turns)

-- the command is due next: that of the first item that is given, or that is put in where there is work
abbrev pub IsDue : {A : Type 0} → (m : Meaning) → (A → Command → Type 0) → List (Item A) → Point m.State → Command → Type 0
IsDue m Means [] p command = ⊥
IsDue m Means (Given x ∷ items) p command = Means x command
IsDue m Means (Inserted actor ∷ items) p command = MatchBool (m.works p.state actor) (command ≡ step_of actor) (IsDue m Means items p command)
