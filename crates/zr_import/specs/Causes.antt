-- Why a root is not read.
use Rattle.std.specs.Prelude.{◌≡◌, ◌≢◌, ◌⊎◌, ℕ, List, Result, IsErrOf}
use Rattle.zr_base.specs.Counts.{HasRisen}
use Rattle.zr_base.specs.declared.space.Dva.{Dva}
use Rattle.zr_store.specs.Causes.{Account}
use Rattle.zr_store.specs.declared.StoreErr.{StoreErr}
use Rattle.zr_store.specs.declared.StoreErr.TheVariants as store
use Rattle.zr_import.specs.declared.errors.ImportErr.{ImportErr}
use Rattle.zr_import.specs.declared.errors.ImportErr.TheVariants.{Rule, Damaged, Failed, NoMemory}

-- the rules that are looked at: the form, the sets, and the uses of units
abbrev pub IsRule : ℕ → Type 0
IsRule n = (n ≡ 1) ⊎ ((n ≡ 2) ⊎ (n ≡ 7))

-- what a store's answer to a read says of the root: a pointer that does not resolve is a matter of units, and a block
-- outside its form one of form
abbrev pub told_of : StoreErr → ImportErr
told_of (store.NoRun needed longest) = NoMemory
told_of (store.Damaged at expected found) = Damaged at expected found
told_of (store.Unresolved at expected) = Rule 7
told_of (store.Malformed at expected) = Rule 1
told_of store.Failed = Failed
told_of store.NoMemory = NoMemory

-- a call on a device failed only where the count of faults rose, a block is damaged by two sums that differ, and a rule
-- that is broken is one of those that are looked at
pub record HasCause {T : Type 0} (before now : Account) (result : Result T ImportErr) : Type 0 where
  pub failed : IsErrOf result Failed → HasRisen before.faults now.faults
  pub damaged : (at : Dva) (expected found : List ℕ) → IsErrOf result (Damaged at expected found) → expected ≢ found
  pub rule : (n : ℕ) → IsErrOf result (Rule n) → IsRule n

-- what is wrong with a saved root by itself is one rule of the root that saved it
abbrev pub as_saved : ImportErr → ImportErr
as_saved (Rule n) = Rule 8
as_saved (Damaged at expected found) = Damaged at expected found
as_saved Failed = Failed
as_saved NoMemory = NoMemory

-- the same causes for a saved root, which breaks one rule
pub record HasSavedCause {T : Type 0} (before now : Account) (result : Result T ImportErr) : Type 0 where
  pub failed : IsErrOf result Failed → HasRisen before.faults now.faults
  pub damaged : (at : Dva) (expected found : List ℕ) → IsErrOf result (Damaged at expected found) → expected ≢ found
  pub rule : (n : ℕ) → IsErrOf result (Rule n) → n ≡ 8
