-- Answers of a line, and why one is refused.
use Rattle.std.specs.Prelude.{◌≡◌, ◌⊎◌, ℕ, Result, Ok, Err}
use Rattle.zr_base.specs.declared.refusal.Refusal.{Refusal}
use Rattle.zr_base.specs.declared.refusal.Refusal.TheVariants.{NoSuchObject, ObjectExists, OutOfRange, NoRoom}
use Rattle.zr_lines.specs.Sought.{IsDamaged}
use Rattle.zr_sync.specs.declared.fault.Fault.{Fault}
use Rattle.zr_sync.specs.declared.fault.Fault.TheVariants.{No, Stops}

-- the line is done or refused, and the run goes on
abbrev pub IsAnswered : {T : Type 0} → Result T Fault → Type 0
IsAnswered (Ok done) = Unit {0}
IsAnswered (Err (No r)) = Unit {0}
IsAnswered (Err (Stops s)) = ⊥

-- more units are needed than are free
abbrev pub IsNoRoom : Refusal → Type 0
IsNoRoom r = (needed free : ℕ) × (r ≡ NoRoom needed free)

-- why a line is refused that sums an object
abbrev pub IsSumRefusal : Refusal → Type 0
IsSumRefusal r = IsDamaged r ⊎ (r ≡ NoSuchObject)

-- why one is refused that reads bytes
abbrev pub IsReadRefusal : Refusal → Type 0
IsReadRefusal r = IsDamaged r ⊎ ((r ≡ NoSuchObject) ⊎ (r ≡ OutOfRange))

-- why one is refused that makes an object
abbrev pub IsMakeRefusal : Refusal → Type 0
IsMakeRefusal r = IsDamaged r ⊎ ((r ≡ OutOfRange) ⊎ ((r ≡ ObjectExists) ⊎ IsNoRoom r))

-- why one is refused that drops an object
abbrev pub IsDropRefusal : Refusal → Type 0
IsDropRefusal r = IsDamaged r ⊎ ((r ≡ NoSuchObject) ⊎ IsNoRoom r)
