-- What a line on a whole object leaves in the open group.
use Rattle.std.specs.Prelude.{◌≡◌, ◌⊎◌, ℕ, ◌+◌, ◌&&◌, nat_lt, Bool, [], Option}
use Rattle.zr_base.specs.Blocks.{is_block_size}
use Rattle.zr_bptr.specs.declared.ObjRec.{ObjRec}
use Rattle.zr_bptr.specs.declared.Ptr.TheVariants.{Hole}
use Rattle.zr_change.specs.Changes.{SetsObject}
use Rattle.zr_lines.specs.Sought.{CanTake}
use Rattle.zr_lines.specs.Counts.{new_object}
use Rattle.zr_txg.specs.Changes.{Changes}

-- an object may have the ID and the block size
abbrev pub can_make : ℕ → ℕ → Bool
can_make id units = nat_lt id 65536 && is_block_size units

-- an object without blocks
abbrev pub blank : ℕ → ObjRec
blank units = record { units = units; tree = record { root = Hole; height = 0 } }

-- the group could not take the object, and was committed: the one behind it is empty
pub record IsBehindCommit (id : ℕ) (old new : Changes) : Type 0 where
  pub full : CanTake 0 (new_object old id) old → ⊥
  pub empty : new.objects ≡ []
  pub txg : new.txg ≡ old.txg + 1

-- the group before a line changes the object in it: the one that was open, unless it was full
abbrev pub IsReadyGroup : ℕ → Changes → Changes → Type 0
IsReadyGroup id old new = (new ≡ old) ⊎ IsBehindCommit id old new

-- the group that was ready has this record of the object, none where it is dropped
pub record SetsInGroup (id : ℕ) (object : Option ObjRec) (old new : Changes) : Type 0 where
  pub group : Changes
  pub ready : IsReadyGroup id old group
  pub sets : SetsObject id object group new
