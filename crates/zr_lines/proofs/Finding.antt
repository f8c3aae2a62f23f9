-- What is found of an object in the records is found of it in the objects.
use Rattle.std.proofs.Common.{◌≡◌, ℕ, List, Option, Some, None, Result, Ok, Err, sym}
use Rattle.std.specs.Prelude.{IfOk}
use Rattle.zr_bptr.specs.declared.ObjRec.{ObjRec}
use Rattle.zr_lookup.specs.Objects.{record_now}
use Rattle.zr_model.specs.Objects.{Objects}
use Rattle.zr_held.proofs.Reading.{object_of, object_missing}
use Rattle.zr_sync.specs.Objects.{account_of, HoldsObjects}
use Rattle.zr_sync.specs.declared.open.OpenPool.{OpenPool}
use Rattle.zr_lines.specs.Sought.{IsRecordIn}

-- what follows from the value of an Ok
pub if_ok : {T E : Type 0} {P Q : T → Type 0} (r : Result T E) → ((x : T) → P x → Q x) → IfOk r P → IfOk r Q
if_ok (Ok x) goes p = goes x p
if_ok (Err e) goes p = tt

pub record_in : {told : Type 0} {disks : List (List ℕ)} (x : OpenPool) (objects : Objects) (id : ℕ) (h : HoldsObjects told disks x objects) (r : Option ObjRec) → r ≡ record_now h.stored x.dir x.group id → IsRecordIn objects id r
record_in x objects id h None is = object_missing h.stored (account_of x) objects id h.has (sym is)
record_in x objects id h (Some r) is = let o = object_of h.stored (account_of x) objects id r h.has (sym is) in (o.0, o.1, o.2.units)
