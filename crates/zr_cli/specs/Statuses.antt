-- What the program came to, by the status that it exits with.
use Rattle.std.specs.Prelude.{◌≡◌, ◌⊎◌, ℕ, List, [], ◌∷◌, codes}
use Rattle.zr_base.specs.Counts.{HasRisen}
use Rattle.zr_shelf.specs.Counts.{Counts}
use Rattle.zr_shelf.specs.Disks.{Stand}
use Rattle.zr_pool.specs.Turns.{on_devices}
use Rattle.zr_session.specs.Answers.{IsDone, TellsBadLine, TellsLimit, TellsFault, TellsDamage, AnswersTaken, AnswersFront, AnswersPartly}
use Rattle.zr_session.specs.Generated.{TellsTally, TellsPartly, TellsFaultThere, TellsUnserved, TellsDamageThere, TellsNothing, Never}
use Rattle.zr_session.specs.Started.{RunsTo, StopsAtDevice}
use Rattle.zr_session.specs.Headline.{NoneRose}

-- the names of the choosers, of which the first is used where no other is asked for
abbrev pub chooser_names : List (List ℕ)
chooser_names = codes "dynamic" ∷ codes "first" ∷ codes "best" ∷ []

-- each status but 1 has its run of the pool on devices
pub record ComesTo (names words : List (List ℕ)) (status : ℕ) (old new : Stand) : Type 0 where
  pub done : status ≡ 0 → RunsTo (IsDone on_devices) (TellsTally on_devices) names words old new
  pub taken : status ≡ 2 → RunsTo (AnswersTaken on_devices) Never names words old new
  pub partly : status ≡ 3 → RunsTo (AnswersPartly on_devices) (TellsPartly on_devices) names words old new
  pub stopped : status ≡ 4 → RunsTo (TellsFault on_devices) (TellsFaultThere on_devices) names words old new
  pub bad_line : status ≡ 5 → RunsTo (TellsBadLine on_devices) (TellsUnserved on_devices) names words old new
  pub damaged : status ≡ 6 → RunsTo (TellsDamage on_devices) (TellsDamageThere on_devices) names words old new
  pub unattached : status ≡ 7 → StopsAtDevice names words old new
  pub limit : status ≡ 8 → RunsTo (TellsLimit on_devices) Never names words old new
  pub memory : status ≡ 9 → (new ≡ old) ⊎ StopsAtDevice names words old new ⊎ RunsTo (AnswersFront on_devices) (TellsNothing on_devices) names words old new

-- each status of a fault has its fault, and where none came all is answered but for a bad line, damage, too long an input or want of memory
pub record TellsFaults (status : ℕ) (before now : Counts) : Type 0 where
  pub input : status ≡ 2 → HasRisen before.input now.input
  pub output : status ≡ 3 → HasRisen before.output now.output
  pub disk : status ≡ 4 → HasRisen before.disk now.disk
  pub attach : status ≡ 7 → HasRisen before.attach now.attach
  pub complete : NoneRose before now → (status ≡ 0) ⊎ (status ≡ 1) ⊎ (status ≡ 5) ⊎ (status ≡ 6) ⊎ (status ≡ 8) ⊎ (status ≡ 9)
