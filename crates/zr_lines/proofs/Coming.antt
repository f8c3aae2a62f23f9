-- A new object at the level of objects.
use Rattle.std.proofs.Common.{◌≡◌, ◌<◌, ℕ, List, Option, Some, None, refl, sym, subst, ◌∙◌}
use Rattle.std.specs.Prelude.{is_some, true, false}
use Rattle.zr_base.specs.declared.refusal.Refusal.TheVariants.{Damaged, ObjectExists}
use Rattle.zr_base.specs.declared.space.Dva.{Dva}
use Rattle.zr_held.specs.Steps.{IsObjectOf}
use Rattle.zr_lines.specs.Sought.{IsRecordIn}
use Rattle.zr_lines.specs.Answers.{IsNoRoom}
use Rattle.std.specs.FinMap as map
use Rattle.zr_bptr.specs.declared.ObjRec.{ObjRec}
use Rattle.zr_change.specs.Changes.{SetsObject}
use Rattle.zr_lookup.specs.Objects.{record_now}
use Rattle.zr_model.specs.Objects.{Objects, blank}
use Rattle.zr_moves.specs.Changes.{new_record}
use Rattle.zr_held.proofs.Making.{made}
use Rattle.zr_held.proofs.Reading.{object_of}
use Rattle.zr_sync.specs.Objects.{account_of, HoldsObjects}
use Rattle.zr_sync.specs.declared.open.OpenPool.{OpenPool}

-- where there is no object there is no record
pub no_record : {told : Type 0} {disks : List (List ℕ)} (x : OpenPool) (objects : Objects) (id : ℕ) (h : HoldsObjects told disks x objects) → map.get objects id ≡ None → record_now h.stored x.dir x.group id ≡ None
no_record x objects id h none = by_record (record_now h.stored x.dir x.group id) refl
  where
    by_record : (r : Option ObjRec) → record_now h.stored x.dir x.group id ≡ r → record_now h.stored x.dir x.group id ≡ None
    by_record None is = is
    by_record (Some r) is = absurd (let o = object_of h.stored (account_of x) objects id r h.has is in let e = sym o.1 ∙ none in cc)

-- the group has it from now on, and all else is the same
pub comes_of : (told : Type 0) (disks : List (List ℕ)) (x y : OpenPool) (objects : Objects) (id units : ℕ) → id < 65536 → y ≡ record x { group = y.group } → SetsObject id (Some (new_record units)) x.group y.group
    → map.get objects id ≡ None → HoldsObjects told disks x objects → HoldsObjects told disks y (map.insert objects id (blank units))
comes_of told disks x y objects id units low rest sets none h =
    let z = record x { group = y.group } in
    let there : HoldsObjects told disks z (map.insert objects id (blank units)) = record {
      stored = h.stored;
      held = h.held;
      has = made h.stored (account_of x) (account_of z) objects id units low refl (no_record x objects id h none) sets h.has;
    } in
    subst (λ (p : OpenPool). HoldsObjects told disks p (map.insert objects id (blank units))) (sym rest) there

pub some_there : (objects : Objects) (id : ℕ) (r : Option ObjRec) → is_some r ≡ true → IsRecordIn objects id r → IsObjectOf objects id (λ o. Unit {0})
some_there objects id None is record_is = absurd (cc)
some_there objects id (Some r) is record_is = (record_is.0, record_is.1, tt)

pub none_there : (objects : Objects) (id : ℕ) (r : Option ObjRec) → is_some r ≡ false → IsRecordIn objects id r → map.get objects id ≡ None
none_there objects id None is record_is = record_is
none_there objects id (Some r) is record_is = absurd (cc)

-- want of room is not that the object is there
pub no_room_only : IsNoRoom ObjectExists → ⊥
no_room_only r = let e = r.2 in cc

-- nor that a block is damaged
pub no_damage_only : (at : Dva) (expected found : List ℕ) → IsNoRoom (Damaged at expected found) → ⊥
no_damage_only at expected found r = let e = r.2 in cc
