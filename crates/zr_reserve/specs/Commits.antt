-- A commit from its begin to its end.
use Rattle.std.specs.Prelude.{◌≡◌, ℕ, ◌+◌, ◌≤◌, Bool, false, []}
use Rattle.zr_base.specs.declared.space.Sizes.{Sizes}
use Rattle.zr_rules.specs.Owed.{tree_blocks}
use Rattle.zr_rules.specs.Space.{Space, opened_of, IsLawful}
use Rattle.zr_rules.specs.Steps.{Commits}
use Rattle.zr_reckon.specs.Uses.{HasLateSets}
use Rattle.zr_reserve.specs.Covered.{HasFewMetadata}
use Rattle.zr_reserve.specs.Wrote.{Wrote}

-- A group begins to be committed: no metadata was given back in it yet.
pub record IsBegun (s : Space) : Type 0 where
  pub lawful : IsLawful s
  pub late_sets : HasLateSets s
  pub none : (d : ℕ) → (opened_of s d).dropped ≡ []

-- A group is committed for which this is owed. No more tree blocks are put than its changes take, and no more are freed; of metadata no more is given back than the
-- last roots have, and the new root's is what its streams take.
pub record CommitsWithin (reset : Bool) (owed : Sizes) (old mid new : Space) (most blocks frees metadata given : ℕ) : Type 0 where
  pub begun : IsBegun old
  pub wrote : Wrote old mid most blocks frees metadata given
  pub words_of_a_free : most ≤ owed.gone + 7
  pub blocks_put : blocks ≤ tree_blocks owed
  pub blocks_freed : frees ≤ tree_blocks owed
  pub late : reset ≡ false → given ≤ owed.past
  pub ends : Commits reset mid new
  pub late_sets : HasLateSets new
  pub few : HasFewMetadata new
