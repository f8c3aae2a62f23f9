-- An upgrade of a pool, and why there is none.
use Rattle.std.specs.Prelude.{◌≡◌, ℕ, true, List, IfSome}
use Rattle.zr_base.specs.declared.refusal.Refusal.{Refusal}
use Rattle.zr_base.specs.declared.refusal.Refusal.TheVariants.{NothingToDo}
use Rattle.zr_moves.specs.Moves.{with_version}
use Rattle.zr_shelf.specs.Moments.{World}
use Rattle.zr_sync.specs.Anew.{RenewsLogs}
use Rattle.zr_sync.specs.Commits.{EndsGroup, IsNextRoot, IsShownFrom}
use Rattle.zr_sync.specs.declared.open.OpenPool.{OpenPool}

-- there is nothing to do where the pool is of the second version
abbrev pub IsUpgradeRefusal : ℕ → Refusal → Type 0
IsUpgradeRefusal version r = (version ≡ 2) × (r ≡ NothingToDo)

-- the pool, and its space with it, is of the second version, and all else is as before
abbrev pub renewed : OpenPool → OpenPool
renewed pool = record pool { version = 2; space = with_version pool.space 2 }

-- The pool is of the second version, and its open group ends with a reset that tells so and writes each log anew. The root that a checkpoint holds is the one that it was.
pub record Upgrades (sizes : List ℕ) (told : Type 0) (now : World) (old new : OpenPool) : Type 0 where
  pub root : IfSome new.last (IsNextRoot (renewed old) true)
  pub resets : EndsGroup true (renewed old).space new.space
  pub shown : told → IfSome new.last (λ u. (before : World) × IsShownFrom sizes (renewed old) u before now)
  pub logs : RenewsLogs (renewed old) new
  pub saved : new.saved ≡ old.saved
