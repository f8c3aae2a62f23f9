-- The root of a pool that was found.
use Rattle.std.specs.Prelude.{Result, Ok, Err}
use Rattle.zr_base.specs.declared.refusal.Refusal.{Refusal}
use Rattle.zr_label.specs.declared.root.Uber.{Uber}
use Rattle.zr_slots.specs.declared.pool.Found.{Found}

abbrev pub root_in : Result Found Refusal → Result Uber Refusal
root_in (Ok found) = Ok found.root
root_in (Err r) = Err r
