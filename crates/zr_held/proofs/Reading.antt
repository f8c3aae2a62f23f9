-- What is read of an object.
use Rattle.std.proofs.Common.{◌≡◌, ◌∙◌, ◌<◌, ◌+◌, ◌*◌, ◌/◌, ◌%◌, ℕ, List, length, Option, Some, None, refl, sym, ap, subst, arith}
use Rattle.std.specs.Prelude.{slice_index, ◌&&◌, nat_lt, Bool, true, false}
use Rattle.std.specs.FinSet as set
use Rattle.std.proofs.lemmas.Bool.{ltb-true}
use Rattle.zr_held.proofs.Lost.{none_met, none_lost}
use Rattle.std.specs.FinMap as fin
use Rattle.std.proofs.Math.Nat.{div-add-mod, mod-lt}
use Rattle.zr_bptr.specs.declared.Ptr.{Ptr}
use Rattle.zr_bptr.specs.declared.Ptr.TheVariants.{Hole, At}
use Rattle.zr_bptr.specs.declared.ObjRec.{ObjRec}
use Rattle.zr_store.specs.Store.{Stored}
use Rattle.zr_objset.specs.Records.{bytes_of}
use Rattle.zr_lookup.specs.Objects.{record_now, pointer_now, block_now, byte_now, IsTouched}
use Rattle.zr_lookup.specs.Errors.{IsSoundPointer}
use Rattle.zr_model.specs.Objects.{Object, Objects, byte_at, bytes_at, meets_block, reads_lost, has_lost}
use Rattle.zr_image.specs.StateOf.{IsLost}
use Rattle.zr_moves.specs.Account.{Account, IsObjectNow, IsObjectAt}
use Rattle.zr_held.specs.Held.{HasObjects}
use Rattle.zr_held.proofs.Frames.{leaf_is}
use Rattle.zr_held.proofs.Bytes.{byte_in, bytes_are}

-- a block that has its sum is not lost
pub not_lost : (s : Stored) (units : ℕ) (p : Ptr) → IsSoundPointer s units p → ¬ IsLost s p
not_lost s units Hole sound lost = lost
not_lost s units (At b) sound lost = lost (sym sound.checksum)

-- the object of the record is one of the objects
pub object_there : (s : Stored) (a : Account) (id : ℕ) (r : ObjRec) (found : Option Object) → IsObjectAt s a id (Some r) found → (o : Object) × (found ≡ Some o) × IsObjectNow s a id r o
object_there s a id r None is = absurd is
object_there s a id r (Some o) is = (o, refl, is)

pub object_of : (s : Stored) (a : Account) (objects : Objects) (id : ℕ) (r : ObjRec) → HasObjects s a objects → record_now s a.dir a.changes id ≡ Some r
    → (o : Object) × (fin.get objects id ≡ Some o) × IsObjectNow s a id r o
object_of s a objects id r has found = object_there s a id r (fin.get objects id) (subst (λ (x : Option ObjRec). IsObjectAt s a id x (fin.get objects id)) found (has.each id))

-- there is no object where there is no record
pub object_missing : (s : Stored) (a : Account) (objects : Objects) (id : ℕ) → HasObjects s a objects → record_now s a.dir a.changes id ≡ None → fin.get objects id ≡ None
object_missing s a objects id has none = subst (λ (x : Option ObjRec). IsObjectAt s a id x (fin.get objects id)) none (has.each id)

module _ (s : Stored) (a : Account) (id : ℕ) (r : ObjRec) (o : Object) (found : record_now s a.dir a.changes id ≡ Some r) (is : IsObjectNow s a id r o) where
  -- the bytes of a block that is not lost
  pub block_bytes : (i : ℕ) → ¬ IsLost s (pointer_now s a.changes id r i) → bytes_at o.bytes (4096 * r.units * i) (4096 * r.units) ≡ block_now s a.changes id r i
  block_bytes i there =
      is.blocks i (λ lost. there (subst (λ (p : Ptr). IsLost s p) (leaf_is s a id r found i) lost))
      ∙ ap (λ (p : Ptr). bytes_of s r.units p) (leaf_is s a id r found i)

  pub byte_is : (at : ℕ) → 0 < r.units → ¬ IsLost s (pointer_now s a.changes id r (at / (4096 * r.units))) → byte_now s a.changes id r at ≡ byte_at o.bytes at
  byte_is at some there =
      let i = at / (4096 * r.units) in
      let k = at % (4096 * r.units) in
      let less : k < 4096 * r.units = mod-lt at (omega (arith, some)) in
      let whole : 4096 * r.units * i + k ≡ at = div-add-mod at (4096 * r.units) in
      ap (λ (bs : List ℕ). slice_index bs k) (sym (block_bytes i there)) ∙ (byte_in o.bytes (4096 * r.units * i) (4096 * r.units) k less ∙ ap (λ (x : ℕ). byte_at o.bytes x) whole)

  pub bytes_read : (off len : ℕ) (bytes : List ℕ) → 0 < r.units → length bytes ≡ len → ((index : ℕ) → IsTouched r.units off len index → IsSoundPointer s r.units (pointer_now s a.changes id r index))
      → ((k : ℕ) → k < len → slice_index bytes k ≡ byte_now s a.changes id r (off + k)) → bytes_at o.bytes off len ≡ bytes
  bytes_read off len bytes some size sound each = bytes_are o.bytes off len bytes size
      (λ k lt.
      let at = off + k in
      let index = at / (4096 * r.units) in
      let less : at % (4096 * r.units) < 4096 * r.units = mod-lt at (omega (arith, some)) in
      let whole = div-add-mod at (4096 * r.units) in
      let up : 4096 * r.units * (index + 1) ≡ 4096 * r.units * index + 4096 * r.units = omega arith in
      let touched : IsTouched r.units off len index = record { begins = omega (arith, less, whole, up); ends = omega (arith, whole, lt) } in
      sym (byte_is at some (not_lost s r.units (pointer_now s a.changes id r index) (sound index touched))) ∙ sym (each k lt))

  -- no lost block is read
  pub none_read : (off len : ℕ) → ((index : ℕ) → IsTouched r.units off len index → IsSoundPointer s r.units (pointer_now s a.changes id r index)) → reads_lost o off len ≡ false
  none_read off len sound = none_met (meets_block o off len) o.lost (λ i among. by_meeting i among (nat_lt off (4096 * r.units * (i + 1))) (nat_lt (4096 * r.units * i) (off + len)) refl refl)
    where
      by_meeting : (i : ℕ) → set.contains o.lost i ≡ true → (x y : Bool) → nat_lt off (4096 * r.units * (i + 1)) ≡ x → nat_lt (4096 * r.units * i) (off + len) ≡ y → meets_block o off len i ≡ false
      by_meeting i among true true begins ends =
          let touched : IsTouched r.units off len i = record { begins = ltb-true off (4096 * r.units * (i + 1)) begins; ends = ltb-true (4096 * r.units * i) (off + len) ends } in
          absurd (not_lost s r.units (pointer_now s a.changes id r i) (sound i touched) (subst (λ (p : Ptr). IsLost s p) (leaf_is s a id r found i) ((is.lost_are i).0 among)))
      by_meeting i among true false begins ends = subst (λ (u : ℕ). (nat_lt off (4096 * u * (i + 1)) && nat_lt (4096 * u * i) (off + len)) ≡ false) (sym is.units) (rw (begins, ends) refl)
      by_meeting i among false y begins ends = subst (λ (u : ℕ). (nat_lt off (4096 * u * (i + 1)) && nat_lt (4096 * u * i) (off + len)) ≡ false) (sym is.units) (rw begins refl)

  -- nor is any, where each block has its sum
  pub none_at_all : ((index : ℕ) → IsSoundPointer s r.units (pointer_now s a.changes id r index)) → has_lost o ≡ false
  none_at_all sound = none_lost o (λ i among. not_lost s r.units (pointer_now s a.changes id r i) (sound i) (subst (λ (p : Ptr). IsLost s p) (leaf_is s a id r found i) ((is.lost_are i).0 among)))
