-- What the calls of a store may take, and why a store answers an error.
use Rattle.std.specs.Prelude.{◌≡◌, ◌≢◌, ◌+◌, ◌*◌, ◌<◌, ◌≤◌, ℕ, Bool, false, List, Result, IsErrOf}
use Rattle.zr_base.specs.Counts.{HasRisen}
use Rattle.zr_base.specs.declared.space.Dva.{Dva}
use Rattle.zr_bptr.specs.declared.Bptr.{Bptr}
use Rattle.zr_store.specs.declared.StoreErr.{StoreErr}
use Rattle.zr_store.specs.declared.StoreErr.TheVariants.{Failed, Damaged, NoRun, Unresolved}

-- What a store reckons with. A layer below may count words of its records as the load.
pub record Account : Type 0 where
  -- calls on a device that failed: a count of 64 bits that stands still at its end
  pub faults : ℕ
  -- so many blocks of one unit can be put before a run may be missing
  pub room : ℕ
  -- a number that a put raises by at most put_load, and a free by at most free_load
  pub load : ℕ
  pub put_load : ℕ
  pub free_load : ℕ
  -- the address lies within its device and leads to units
  pub resolves : Dva → Bool

-- at most so many units were taken, by so many puts, and so many blocks were given back
pub record Spends (units puts frees : ℕ) (before now : Account) : Type 0 where
  pub faults : before.faults ≤ now.faults
  pub room : before.room ≤ now.room + units
  pub load : now.load ≤ before.load + puts * before.put_load + frees * before.free_load
  pub put_load : now.put_load ≡ before.put_load
  pub free_load : now.free_load ≡ before.free_load
  pub resolves : (at : Dva) → now.resolves at ≡ before.resolves at

-- the same where each block that is put has one unit
abbrev pub Costs : ℕ → ℕ → Account → Account → Type 0
Costs puts frees before now = Spends puts puts frees before now

-- a run of so many units was missing; of one unit only where there is no room
pub record IsNoRun (units : ℕ) (before : Account) (needed longest : ℕ) : Type 0 where
  pub wanted : needed ≡ units
  pub short : longest < needed
  pub full : units ≡ 1 → before.room ≡ 0

-- at most so many blocks of one unit were put, and each error has its cause
pub record HasCause {T : Type 0} (puts : ℕ) (before now : Account) (result : Result T StoreErr) : Type 0 where
  pub failed : IsErrOf result Failed → HasRisen before.faults now.faults
  pub no_run : (needed longest : ℕ) → IsErrOf result (NoRun needed longest) → (before.room < puts) × (longest < needed)
  pub unresolved : (at : Dva) (expected : List ℕ) → IsErrOf result (Unresolved at expected) → before.resolves at ≡ false
  pub damaged : (at : Dva) (expected found : List ℕ) → IsErrOf result (Damaged at expected found) → expected ≢ found

-- this address and this sum are the pointer's
pub record IsOf (b : Bptr) (at : Dva) (expected : List ℕ) : Type 0 where
  pub address : at ≡ b.at
  pub checksum : expected ≡ b.sum
