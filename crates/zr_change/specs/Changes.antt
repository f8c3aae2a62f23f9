-- What a change of an object leaves in the open group.
use Rattle.std.specs.Prelude.{◌≡◌, ℕ, ◌+◌, ◌==◌, not, ◌&&◌, is_some, if◌then◌else◌, List, [], ◌∷◌, length, map, Option, Some, None}
use Rattle.std.specs.List.{sum_by}
use Rattle.zr_bptr.specs.declared.Ptr.{Ptr}
use Rattle.zr_bptr.specs.declared.ObjRec.{ObjRec}
use Rattle.zr_txg.specs.Changes.{Changes, object_in, change_in, block_count}

-- how many of these blocks the group has not changed
abbrev pub new_in : Changes → ℕ → List ℕ → ℕ
new_in g id indices = sum_by (λ k. if is_some (change_in g id k) then 0 else 1) indices

-- the change of a block after these changes, where it was `c`
abbrev pub changed_by : List (ℕ × Ptr) → ℕ → Option Ptr → Option Ptr
changed_by [] k c = c
changed_by (x ∷ xs) k c = changed_by xs k (if x.0 == k then Some x.1 else c)

-- the group has the object with this record and these changes more, and all others as before
pub record Records (id : ℕ) (r : ObjRec) (changes : List (ℕ × Ptr)) (old new : Changes) : Type 0 where
  pub object : (i : ℕ) → object_in new i ≡ (if id == i then Some (Some r) else object_in old i)
  pub blocks : (i k : ℕ) → change_in new i k ≡ (if id == i then changed_by changes k (change_in old i k) else change_in old i k)
  pub block_count : block_count new.objects ≡ block_count old.objects + new_in old id (map (λ x. x.0) changes)
  pub object_count : length new.objects ≡ length old.objects + (if is_some (object_in old id) then 0 else 1)
  pub txg : new.txg ≡ old.txg

-- the group has this record of the object, none where it is gone, which then has no changed block; all others are as before
pub record SetsObject (id : ℕ) (r : Option ObjRec) (old new : Changes) : Type 0 where
  pub object : (i : ℕ) → object_in new i ≡ (if id == i then Some r else object_in old i)
  pub blocks : (i k : ℕ) → change_in new i k ≡ (if id == i && not (is_some r) then None else change_in old i k)
  pub object_count : length new.objects ≡ length old.objects + (if is_some (object_in old id) then 0 else 1)
  pub txg : new.txg ≡ old.txg

-- each of these blocks of an object that is recorded is changed so, and all else is as before
pub record RecordsBlocks (id : ℕ) (changes : List (ℕ × Ptr)) (old new : Changes) : Type 0 where
  pub object : (i : ℕ) → object_in new i ≡ object_in old i
  pub blocks : (i k : ℕ) → change_in new i k ≡ (if id == i then changed_by changes k (change_in old i k) else change_in old i k)
  pub block_count : block_count new.objects ≡ block_count old.objects + new_in old id (map (λ x. x.0) changes)
  pub object_count : length new.objects ≡ length old.objects
  pub txg : new.txg ≡ old.txg
