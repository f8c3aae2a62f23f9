-- Why a root is not read.
use Rattle.std.specs.Prelude.{◌≡◌, ◌≢◌, ◌≤◌, ℕ, List, Result, IsErrOf}
use Rattle.zr_base.specs.declared.space.Dva.{Dva}
use Rattle.zr_import.specs.declared.errors.ImportErr.{ImportErr}
use Rattle.zr_import.specs.declared.errors.ImportErr.TheVariants.{Rule, Damaged, Failed, NoMemory}

-- the rules of a root by itself: all but that of the root that it saved
abbrev pub IsRootRule : ℕ → Type 0
IsRootRule n = (1 ≤ n) × (n ≤ 9) × (n ≢ 8)

-- a root breaks a rule, or one of its blocks has another sum than its pointer says
pub record IsUnread {T : Type 0} (result : Result T ImportErr) : Type 0 where
  pub rule : (n : ℕ) → IsErrOf result (Rule n) → IsRootRule n
  pub damaged : (at : Dva) (expected found : List ℕ) → IsErrOf result (Damaged at expected found) → expected ≢ found

-- so does a saved root, but whatever rule it breaks is one rule of the root that saved it
pub record IsSavedUnread {T : Type 0} (result : Result T ImportErr) : Type 0 where
  pub rule : (n : ℕ) → IsErrOf result (Rule n) → n ≡ 8
  pub damaged : (at : Dva) (expected found : List ℕ) → IsErrOf result (Damaged at expected found) → expected ≢ found

abbrev pub as_saved : ImportErr → ImportErr
as_saved (Rule n) = Rule 8
as_saved (Damaged at expected found) = Damaged at expected found
as_saved Failed = Failed
as_saved NoMemory = NoMemory
