-- What a log gains: the units that came to a set and those that went.
use Rattle.std.specs.Prelude.{◌≡◌, ℕ, ◌+◌, ◌<◌, ◌≤◌, Bool, true, false, not, ◌&&◌, List, [], ◌∷◌, ◌++◌, map, filter, if◌then◌else◌}
use Rattle.std.specs.List.{AllByRecursion}
use Rattle.zr_base.specs.declared.space.Extent.{Extent}
use Rattle.zr_base.specs.declared.space.Change.{Change}
use Rattle.zr_base.specs.Extents.{has_unit, IsMaximal}
use Rattle.zr_rules.specs.Logs.{taken_after, IsInTurn}

-- the runs of the changes that take units, or of those that give them back
abbrev pub runs_of : Bool → List Change → List Extent
runs_of freed changes = map (λ (c : Change). c.at) (filter (λ (c : Change). if c.free then freed else not freed) changes)

-- each change lies behind those before it
abbrev pub AreInOrder : List Change → Type 0
AreInOrder [] = Unit {0}
AreInOrder (c ∷ changes) = AllByRecursion (λ (later : Change). c.at.start + c.at.len ≤ later.at.start) changes × AreInOrder changes

-- the changes take the one set and give back the other, by rising place
pub record IsMerged (came went : List Extent) (changes : List Change) : Type 0 where
  pub came_is : runs_of false changes ≡ came
  pub went_is : runs_of true changes ≡ went
  pub order : AreInOrder changes

-- The changes from one set to another: the units that came and those that went, as maximal extents by rising place.
pub record IsDifference (before after : ℕ → Bool) (changes : List Change) : Type 0 where
  pub came : (u : ℕ) → has_unit (runs_of false changes) u ≡ (after u && not (before u))
  pub went : (u : ℕ) → has_unit (runs_of true changes) u ≡ (before u && not (after u))
  pub came_maximal : IsMaximal (runs_of false changes)
  pub went_maximal : IsMaximal (runs_of true changes)
  pub order : AreInOrder changes

-- the changes lead from the one set to the other, and none takes a unit that is taken or gives back one that is not
pub record Replays (before after : ℕ → Bool) (changes : List Change) : Type 0 where
  pub turns : (u : ℕ) → IsInTurn (before u) changes u
  pub members : (u : ℕ) → taken_after (before u) changes u ≡ after u

-- the first extent, if there is one, starts at the unit or above it
abbrev pub StartsFrom : ℕ → List Extent → Type 0
StartsFrom u [] = Unit {0}
StartsFrom u (e ∷ es) = u ≤ e.start

-- Extents that start below the unit are added as given back, and the others are left.
pub record PutsBelow (old new : List Change) (went rest : List Extent) (below : ℕ) : Type 0 where
  pub front : List Extent
  pub split : went ≡ front ++ rest
  pub put : new ≡ old ++ map (λ (e : Extent). record { free = true; at = e }) front
  pub low : AllByRecursion (λ (e : Extent). e.start < below) front
