-- What is read of an object of an open pool.
use Rattle.std.specs.Prelude.{◌≡◌, ℕ, ◌+◌, ◌<◌, ◌&&◌, nat_le, Bool, true, false, List, length, slice_index, Some}
use Rattle.zr_bptr.specs.declared.ObjRec.{ObjRec}
use Rattle.zr_bptr.specs.declared.Tree.{Tree}
use Rattle.zr_bptr.specs.Spelling.{IsObject}
use Rattle.zr_lookup.specs.Errors.{IsSoundPointer}
use Rattle.zr_lookup.specs.Objects.{record_now, pointer_now, byte_now, IsTouched, IsObjectSum}
use Rattle.zr_model.specs.Objects.{Object, bytes_at, is_within, reads_lost}
use Rattle.zr_store.specs.Store.{Stored}
use Rattle.zr_txg.specs.Changes.{Changes}

-- the range has 1 to 4,096 bytes, all of them within an object of this block size
abbrev pub can_read : ℕ → ℕ → ℕ → Bool
can_read units off len = nat_le len 4096 && is_within units off len

-- the object is there, and these are its bytes from the offset on, of blocks that have their sum
pub record AreBytesOf (s : Stored) (dir : Tree) (g : Changes) (id off len : ℕ) (bytes : List ℕ) : Type 0 where
  pub object : ObjRec
  pub found : record_now s dir g id ≡ Some object
  pub within : can_read object.units off len ≡ true
  pub size : length bytes ≡ len
  pub each : (k : ℕ) → k < len → slice_index bytes k ≡ byte_now s g id object (off + k)
  pub lawful : IsObject object
  pub sound : (index : ℕ) → IsTouched object.units off len index → IsSoundPointer s object.units (pointer_now s g id object index)

-- the object is there, and the range cannot be read of it
pub record IsOutside (s : Stored) (dir : Tree) (g : Changes) (id off len : ℕ) : Type 0 where
  pub object : ObjRec
  pub found : record_now s dir g id ≡ Some object
  pub outside : can_read object.units off len ≡ false

-- the object is there, and this is its sum, of blocks that have theirs
pub record IsSumOf (s : Stored) (dir : Tree) (g : Changes) (id : ℕ) (sum : List ℕ) : Type 0 where
  pub object : ObjRec
  pub found : record_now s dir g id ≡ Some object
  pub sum_is : IsObjectSum s g id object sum
  pub lawful : IsObject object
  pub sound : (index : ℕ) → IsSoundPointer s object.units (pointer_now s g id object index)

-- these are the object's bytes from the offset on, and no block of them is lost
pub record IsReadOf (off len : ℕ) (bytes : List ℕ) (o : Object) : Type 0 where
  pub within : can_read o.units off len ≡ true
  pub are : bytes ≡ bytes_at o.bytes off len
  pub whole : reads_lost o off len ≡ false
