-- How a shelf stood at each moment so far, and what a call does to that.
use Rattle.std.specs.Prelude.{◌≡◌, ◌⊎◌, ℕ, Option, List, ◌∷◌, ◌++◌, take, Result, Ok, Err}
use Rattle.std.specs.List.{AllByRecursion}
use Rattle.zr_shelf.specs.declared.desk.DeskErr.{DeskErr}
use Rattle.zr_shelf.specs.declared.desk.DeskErr.TheVariants.{Failed, NoMemory}
use Rattle.zr_shelf.specs.Disks.{Stand, PendingWrite, IsWritten, Reads, flushed, sent_more, taken_to, with_disk}

-- now, and before, the newest first
pub record World : Type 0 where
  pub now : Stand
  pub past : List Stand

-- one moment more, and what changed
pub record Steps (change : Stand → Stand → Type 0) (old new : World) : Type 0 where
  pub past : new.past ≡ old.now ∷ old.past
  pub step : change old.now new.now

-- at each moment after old, up to new, the shelf stood so
pub record Throughout (P : Stand → Type 0) (old new : World) : Type 0 where
  pub more : List Stand
  pub joins : new.now ∷ new.past ≡ more ++ old.now ∷ old.past
  pub each : AllByRecursion P more

-- nothing has changed, at however many moments
pub record IsStill (old new : World) : Type 0 where
  pub now : new.now ≡ old.now
  pub since : Throughout (λ stand. stand ≡ old.now) old new

-- A fault may leave any bytes in the range. Want of memory leaves all as it was.
abbrev pub Writes : PendingWrite → Result (Unit {0}) DeskErr → World → World → Type 0
Writes w (Ok done) = Steps (λ old new. IsWritten old w new × Reads new.seen w)
Writes w (Err Failed) = Steps (λ old new. IsWritten old w new)
Writes w (Err NoMemory) = IsStill

-- a flush that fails promises nothing new
abbrev pub Flushes : Result (Unit {0}) DeskErr → World → World → Type 0
Flushes (Ok done) = Steps (λ old new. new ≡ flushed old)
Flushes (Err e) = IsStill

-- a fault may have sent a part
abbrev pub Gives : List ℕ → Result (Unit {0}) DeskErr → World → World → Type 0
Gives bytes (Ok done) = Steps (λ old new. new ≡ sent_more old bytes)
Gives bytes (Err Failed) = λ old new. IsStill old new ⊎ Steps (λ old new. (front back : List ℕ) × (front ++ back ≡ bytes) × (new ≡ sent_more old front)) old new
Gives bytes (Err NoMemory) = IsStill

-- A disk more, for which this path and this size were asked, or nothing. What the file has is not said, since a file that is there is taken as it is.
abbrev pub Attaches : List ℕ → Option ℕ → Result ℕ DeskErr → World → World → Type 0
Attaches path make (Ok slot) = Steps (λ old new. (bytes : List ℕ) × (new ≡ with_disk old path make bytes))
Attaches path make (Err e) = IsStill

-- the front of what was left is taken, at however many moments, at each of which a front of it is
pub record IsTaken (front : List ℕ) (old new : World) : Type 0 where
  pub left : (left : List ℕ) × (old.now.left ≡ front ++ left) × (new.now ≡ taken_to old.now left)
  pub since : Throughout (λ stand. (left : List ℕ) × (stand ≡ taken_to old.now left)) old new

-- what is answered stands in front of the buffer
abbrev pub Takes : List ℕ → Result ℕ DeskErr → World → World → Type 0
Takes out (Ok n) = IsTaken (take n out)
Takes out (Err e) = IsStill
