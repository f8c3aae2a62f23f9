-- What is planned for the blocks of an object, and what was put for it.
use Rattle.std.specs.Prelude.{◌≡◌, ◌⊎◌, ℕ, ◌*◌, ◌<◌, List, [], length, replicate, All, Option, Some, None}
use Rattle.std.specs.List.{sum_by, flat_map, AllZip}
use Rattle.std.specs.Global.{Vec}
use Rattle.zr_bptr.specs.declared.Bptr.{Bptr}
use Rattle.zr_bptr.specs.declared.Ptr.{Ptr}
use Rattle.zr_bptr.specs.declared.Ptr.TheVariants.{Hole, At}
use Rattle.zr_store.specs.declared.StoreErr.{StoreErr}
use Rattle.zr_store.specs.declared.StoreErr.TheVariants.{NoMemory, NoRun, Failed}
use Rattle.zr_store.specs.Causes.{Account}
use Rattle.zr_store.specs.Store.{Stored, Swaps, IsPointerTo}
use Rattle.zr_tree.specs.Trees.{own}
use Rattle.zr_objset.specs.Records.{bytes_of}
use Rattle.zr_bptr.specs.declared.ObjRec.{ObjRec}
use Rattle.zr_txg.specs.Changes.{Changes}
use Rattle.zr_lookup.specs.Objects.{pointer_now, block_now}
use Rattle.zr_lookup.specs.Errors.{IsSoundPointer}
use Rattle.zr_change.specs.declared.ranges.Edit.{Edit}
use Rattle.zr_change.specs.Edits.{IsEdited, IsPart}
use Rattle.zr_change.specs.Changes.{Records}
use Rattle.zr_change.specs.declared.plans.Planned.{Planned}

-- what is to be stored as a block: it has its length, and not zeros alone
pub record IsStorable (units : ℕ) (bytes : List ℕ) : Type 0 where
  pub size : length bytes ≡ 4096 * units
  pub some : ¬ All (λ b. b ≡ 0) bytes

-- no block, or bytes of one
abbrev pub IsNew : ℕ → Option (Vec ℕ) → Type 0
IsNew units None = Unit {0}
IsNew units (Some bytes) = IsStorable units bytes.items

-- what is planned has blocks of so many units
abbrev pub AreNew : ℕ → List Planned → Type 0
AreNew units plan = All (λ p. IsNew units p.new) plan

-- the bytes that a block is to have, zeros where it is stored as no block
abbrev pub bytes_of_new : ℕ → Option (Vec ℕ) → List ℕ
bytes_of_new units None = replicate (4096 * units) 0
bytes_of_new units (Some bytes) = bytes.items

-- 1 where a block is to be put
abbrev pub put_of : Option (Vec ℕ) → ℕ
put_of None = 0
put_of (Some bytes) = 1

-- how many blocks are to be put
abbrev pub puts_of : List Planned → ℕ
puts_of plan = sum_by (λ p. put_of p.new) plan

-- the old blocks
abbrev pub olds_of : List Planned → List Bptr
olds_of plan = flat_map (λ p. own p.old) plan

-- the blocks that these changes lead to
abbrev pub leaves_of : List (ℕ × Ptr) → List Bptr
leaves_of changes = flat_map (λ change. own change.1) changes

-- a pointer to the new bytes, a hole where there are none to store
abbrev pub IsPointerFor : Option (Vec ℕ) → Ptr → Type 0
IsPointerFor None p = p ≡ Hole
IsPointerFor (Some bytes) p = (b : Bptr) × (p ≡ At b) × IsPointerTo 0 bytes.items b

-- the change is that of the planned block
pub record IsChangeFor (p : Planned) (change : ℕ × Ptr) : Type 0 where
  pub index : change.0 ≡ p.index
  pub pointer : IsPointerFor p.new change.1

-- the changes are those of the planned blocks, in their order
abbrev pub AreChangesFor : List Planned → List (ℕ × Ptr) → Type 0
AreChangesFor plan changes = AllZip IsChangeFor plan changes

-- the pointer came for a new block, a hole where there is nothing to store
pub record PutsBlock (units : ℕ) (content : Option (Vec ℕ)) (old new : Stored) (p : Ptr) : Type 0 where
  pub swaps : Swaps old new [] (own p)
  pub bytes : bytes_of new units p ≡ bytes_of_new units content

-- the blocks of the changes came, where none stood, and have the new bytes
pub record PutsPlan (units : ℕ) (plan : List Planned) (changes : List (ℕ × Ptr)) (old new : Stored) : Type 0 where
  pub swaps : Swaps old new [] (leaves_of changes)
  pub bytes : AllZip (λ p change. bytes_of new units change.1 ≡ bytes_of_new units p.new) plan changes

-- a run of so many units was missing where so many blocks were to be put; of one unit only where there is room for fewer
pub record IsLacking (units puts : ℕ) (before : Account) (needed longest : ℕ) : Type 0 where
  pub wanted : needed ≡ units
  pub short : longest < needed
  pub full : units ≡ 1 → before.room < puts

-- what a put may answer
abbrev pub IsPutErr : StoreErr → Type 0
IsPutErr e = (e ≡ Failed) ⊎ ((e ≡ NoMemory) ⊎ ((needed longest : ℕ) × (e ≡ NoRun needed longest)))

-- the planned block has its old pointer, and the bytes that the edit makes of it; what stays of it was read whole
pub record IsPlannedFor (s : Stored) (g : Changes) (id : ℕ) (r : ObjRec) (e : Edit) (p : Planned) : Type 0 where
  pub old : p.old ≡ pointer_now s g id r p.index
  pub bytes : IsEdited e r.units p.index (bytes_of s r.units p.old) (bytes_of_new r.units p.new)
  pub sound : IsPart r.units e p.index → IsSoundPointer s r.units p.old

-- the group has recorded a pointer for each planned block
pub record HasRecorded (id : ℕ) (r : ObjRec) (plan : List Planned) (old new : Changes) : Type 0 where
  pub changes : List (ℕ × Ptr)
  pub are_changes : AreChangesFor plan changes
  pub records : Records id r changes old new

-- From the store s and the group g: the group h has recorded a pointer for each planned block, these blocks are stored in
-- place of the old ones, and each planned block of the object has its new bytes.
pub record IsChanged (id : ℕ) (r : ObjRec) (plan : List Planned) (s : Stored) (g : Changes) (n : Stored) (h : Changes) : Type 0 where
  pub recorded : HasRecorded id r plan g h
  pub swaps : Swaps s n (olds_of plan) (leaves_of recorded.changes)
  pub blocks : All (λ p. block_now n h id r p.index ≡ bytes_of_new r.units p.new) plan
