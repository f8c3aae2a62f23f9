-- What a layer did to the shelf, whatever it was for.
use Rattle.std.specs.Prelude.{◌≡◌, List, [], ◌∷◌, ◌++◌}
use Rattle.zr_shelf.specs.Disks.{Stand, PendingWrite, IsWritten, flushed}
use Rattle.zr_shelf.specs.Moments.{World}

-- one call on the disks: nothing, a write that is allowed, or a flush. The input, the output and the paths stay.
pub data Follows (allowed : PendingWrite → Type 0) (old new : Stand) : Type 0 where
  stood : new ≡ old → Follows allowed old new
  wrote : (w : PendingWrite) → allowed w → IsWritten old w new → Follows allowed old new
  flush : new ≡ flushed old → Follows allowed old new

abbrev pub latest : List Stand → Stand → Stand
latest [] first = first
latest (stand ∷ more) first = stand

-- each follows the one before
abbrev pub IsLinked : (PendingWrite → Type 0) → List Stand → Stand → Type 0
IsLinked allowed [] first = Unit {0}
IsLinked allowed (stand ∷ more) first = Follows allowed (latest more first) stand × IsLinked allowed more first

-- from old to new there was no write but those that are allowed
pub record DoesOnly (allowed : PendingWrite → Type 0) (old new : World) : Type 0 where
  pub more : List Stand
  pub joins : new.now ∷ new.past ≡ more ++ old.now ∷ old.past
  pub linked : IsLinked allowed more old.now

-- one call on the disks that flushes nothing
pub data Adds (allowed : PendingWrite → Type 0) (old new : Stand) : Type 0 where
  added_none : new ≡ old → Adds allowed old new
  added : (w : PendingWrite) → allowed w → IsWritten old w new → Adds allowed old new

-- each follows the one before without a flush
abbrev pub IsAdded : (PendingWrite → Type 0) → List Stand → Stand → Type 0
IsAdded allowed [] first = Unit {0}
IsAdded allowed (stand ∷ more) first = Adds allowed (latest more first) stand × IsAdded allowed more first

-- from old to new there was no flush and no write but those that are allowed
pub record WritesOnly (allowed : PendingWrite → Type 0) (old new : World) : Type 0 where
  pub more : List Stand
  pub joins : new.now ∷ new.past ≡ more ++ old.now ∷ old.past
  pub added : IsAdded allowed more old.now
