-- Why a line is refused while its object is sought, and what a group can take.
use Rattle.std.specs.Prelude.{◌≡◌, ℕ, ◌+◌, ◌≤◌, List, length, Option, Some, None}
use Rattle.std.specs.FinMap as map
use Rattle.zr_bptr.specs.declared.ObjRec.{ObjRec}
use Rattle.zr_model.specs.Objects.{Objects}
use Rattle.zr_held.specs.Steps.{IsObjectOf}
use Rattle.zr_base.specs.declared.refusal.Refusal.{Refusal}
use Rattle.zr_base.specs.declared.refusal.Refusal.TheVariants.{Damaged}
use Rattle.zr_base.specs.declared.space.Dva.{Dva}
use Rattle.zr_txg.specs.Changes.{Changes, block_count}

-- a block is damaged
abbrev pub IsDamaged : Refusal → Type 0
IsDamaged r = (at : Dva) × (expected found : List ℕ) × (r ≡ Damaged at expected found)

-- the group can take so many more changed blocks and objects
abbrev pub CanTake : ℕ → ℕ → Changes → Type 0
CanTake blocks objects g = (block_count g.objects + blocks ≤ 64) × (length g.objects + objects ≤ 64)

-- the record of one of these objects, none where there is no such object
abbrev pub IsRecordIn : Objects → ℕ → Option ObjRec → Type 0
IsRecordIn objects id None = map.get objects id ≡ None
IsRecordIn objects id (Some r) = IsObjectOf objects id (λ o. o.units ≡ r.units)
