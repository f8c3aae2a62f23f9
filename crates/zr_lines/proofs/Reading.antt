-- What is read of an object's blocks is read of the object.
use Rattle.std.proofs.Common.{◌≡◌, ℕ, List, None, true, false, sym, subst}
use Rattle.std.specs.FinMap as map
use Rattle.zr_lookup.proofs.Touching.{some_units}
use Rattle.zr_model.specs.Objects.{Objects, has_lost, object_sum}
use Rattle.zr_held.specs.Steps.{IsObjectOf}
use Rattle.zr_held.proofs.Reading.{object_of, object_missing, bytes_read, none_read, none_at_all}
use Rattle.zr_lookup.specs.Objects.{record_now}
use Rattle.zr_sync.specs.Objects.{account_of, HoldsObjects}
use Rattle.zr_sync.specs.declared.open.OpenPool.{OpenPool}
use Rattle.zr_lines.proofs.Summing.{sum_of_leaves}
use Rattle.zr_lines.specs.Reads.{AreBytesOf, IsOutside, IsSumOf, IsReadOf, can_read}

module _ {told : Type 0} {disks : List (List ℕ)} (x : OpenPool) (objects : Objects) (id : ℕ) (h : HoldsObjects told disks x objects) where
  pub bytes_of_object : (off len : ℕ) (bytes : List ℕ) → AreBytesOf h.stored x.dir x.group id off len bytes → IsObjectOf objects id (IsReadOf off len bytes)
  bytes_of_object off len bytes are =
      let r = are.object in
      let o = object_of h.stored (account_of x) objects id r h.has are.found in (
        o.0,
        o.1,
        record {
          within = subst (λ (u : ℕ). can_read u off len ≡ true) (sym o.2.units) are.within;
          are = sym (bytes_read h.stored (account_of x) id r o.0 are.found o.2 off len bytes (some_units r.units are.lawful.size) are.size are.sound are.each);
          whole = none_read h.stored (account_of x) id r o.0 are.found o.2 off len are.sound;
        },
      )

  pub outside_of_object : (off len : ℕ) → IsOutside h.stored x.dir x.group id off len → IsObjectOf objects id (λ o. can_read o.units off len ≡ false)
  outside_of_object off len out =
      let o = object_of h.stored (account_of x) objects id out.object h.has out.found in
      (o.0, o.1, subst (λ (u : ℕ). can_read u off len ≡ false) (sym o.2.units) out.outside)

  pub no_object : record_now h.stored x.dir x.group id ≡ None → map.get objects id ≡ None
  no_object none = object_missing h.stored (account_of x) objects id h.has none

  pub sum_of_object : (sum : List ℕ) → IsSumOf h.stored x.dir x.group id sum → IsObjectOf objects id (λ o. (has_lost o ≡ false) × (sum ≡ object_sum o))
  sum_of_object sum is =
      let o = object_of h.stored (account_of x) objects id is.object h.has is.found in (
        o.0,
        o.1,
        (
          none_at_all h.stored (account_of x) id is.object o.0 is.found o.2 is.sound,
          sum_of_leaves h.stored (account_of x) id is.object o.0 is.found o.2 (some_units is.object.units is.lawful.size) is.sound sum is.sum_is,
        ),
      )
