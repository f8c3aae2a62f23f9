-- What the logs of a space's sets gain over what the current root records.
use Rattle.std.specs.Prelude.{ℕ, List}
use Rattle.zr_base.specs.declared.space.Change.{Change}
use Rattle.zr_rules.specs.Places.{is_held, is_kept, is_fresh}
use Rattle.zr_rules.specs.Space.{Space, opened_of, was_held, was_kept, was_fresh}
use Rattle.zr_units.specs.Differences.{IsDifference, IsMerged, Replays}
use Rattle.zr_space.specs.declared.records.SetKind.{SetKind}
use Rattle.zr_space.specs.declared.records.SetKind.TheVariants.{Held, Kept, Fresh}

-- The changes take what the open group allocated and still has, and give back what it freed. They lead from the held set of the current root to the one now.
pub record GainsHeld (s : Space) (d : ℕ) (changes : List Change) : Type 0 where
  pub merged : IsMerged (opened_of s d).born (opened_of s d).deferred changes
  pub difference : IsDifference (was_held s d) (is_held s.parts.devs d) changes
  pub replays : Replays (was_held s d) (is_held s.parts.devs d) changes

-- The changes take what the open group kept, and give back what it discarded. They lead from the kept set of the current root to the one now.
pub record GainsKept (s : Space) (d : ℕ) (changes : List Change) : Type 0 where
  pub merged : IsMerged (opened_of s d).kept.came (opened_of s d).kept.went changes
  pub difference : IsDifference (was_kept s d) (is_kept s.parts.devs d) changes
  pub replays : Replays (was_kept s d) (is_kept s.parts.devs d) changes

-- The changes take what the open group marked, and give back what it counted. They lead from the fresh set of the current root to the one now.
pub record GainsFresh (s : Space) (d : ℕ) (changes : List Change) : Type 0 where
  pub merged : IsMerged (opened_of s d).fresh.came (opened_of s d).fresh.went changes
  pub difference : IsDifference (was_fresh s d) (is_fresh s.parts.devs d) changes
  pub replays : Replays (was_fresh s d) (is_fresh s.parts.devs d) changes

abbrev pub Gains : Space → ℕ → SetKind → List Change → Type 0
Gains s d Held changes = GainsHeld s d changes
Gains s d Kept changes = GainsKept s d changes
Gains s d Fresh changes = GainsFresh s d changes
