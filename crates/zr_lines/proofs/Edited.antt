-- What a line finds and does, told of the objects that the disks hold.
use Rattle.std.proofs.Common.{◌≡◌, ◌∙◌, ℕ, ◌<◌, List, [], Option, Some, None, Result, Ok, Err, true, false, sym, ap, arith}
use Rattle.std.specs.Prelude.{OnOk, IfOk, IfSome, length, slice_index}
use Rattle.std.specs.FinMap as map
use Rattle.std.proofs.lemmas.Bool.Decides.{nat_tests}
use Rattle.zr_change.specs.Edits.{byte_put}
use Rattle.zr_change.specs.Plans.{IsChanged, olds_of}
use Rattle.zr_change.specs.declared.ranges.Edit.{Edit}
use Rattle.zr_held.proofs.Again.{found_again, plan_again}
use Rattle.zr_held.proofs.Contents.{edit_done, edit_stored}
use Rattle.zr_held.proofs.Reading.{object_of, object_missing}
use Rattle.zr_held.proofs.Same.{same}
use Rattle.zr_held.specs.Steps.{IsObjectOf}
use Rattle.zr_lookup.proofs.Touching.{some_units}
use Rattle.zr_lookup.specs.Objects.{record_now}
use Rattle.zr_model.specs.Objects.{Objects, Object, changes_lost, with_bytes}
use Rattle.zr_store.specs.Store.{AreStored, Now, Swaps}
use Rattle.zr_sync.specs.Holds.{HasBlocks}
use Rattle.zr_sync.specs.Objects.{account_of, HoldsObjects}
use Rattle.zr_sync.specs.declared.open.OpenPool.{OpenPool}
use Rattle.zr_lines.specs.Intents.{IsFor, IsIntent, IsOutside, IsPlanned, IsReadyFor}
use Rattle.zr_lines.specs.Reaches.{is_in_reach}
use Rattle.zr_lines.specs.declared.intent.Intent.{Intent}
use Rattle.zr_lines.specs.declared.range.Reach.{Reach}

-- ---- what a look finds

module _ {told : Type 0} {disks : List (List ℕ)} (x : OpenPool) (objects : Objects) (id : ℕ) (h : HoldsObjects told disks x objects) where
  pub absent_in : record_now h.stored x.dir x.group id ≡ None → map.get objects id ≡ None
  absent_in none = object_missing h.stored (account_of x) objects id h.has none

  pub far_in : (reach : Reach) (e : Edit) → IsOutside h.stored x.dir x.group id reach e → IsObjectOf objects id (λ o. is_in_reach reach o.units e ≡ false)
  far_in reach e out =
      let o = object_of h.stored (account_of x) objects id out.object h.has out.found in
      (o.0, o.1, ap (λ (units : ℕ). is_in_reach reach units e) o.2.units ∙ out.outside)

  -- what was planned is so behind the look
  pub ready_behind : {told_new : Type 0} {disks_new : List (List ℕ)} (y : OpenPool) (e : Edit) (i : Intent) → y.dir ≡ x.dir → y.group ≡ x.group → IsPlanned h.stored x.dir x.group id e i
      → Now (HasBlocks told_new disks_new y) (λ n. Swaps h.stored n [] []) → IsReadyFor told_new disks_new y id e objects i
  ready_behind y e i dir group plan now = record {
    stored = now.stored;
    held = now.held;
    has = same h.stored now.stored (account_of x) (account_of y) objects now.is dir group h.has;
    planned = rw (dir, group) (record {
      found = found_again h.stored now.stored (account_of x) objects id i.rec now.is h.has plan.found;
      plans = plan_again h.stored now.stored (account_of x) objects id i.rec now.is h.has plan.found e i.plan.items plan.plans;
    });
  }

  pub ready_if : {E : Type 0} {told_new : Type 0} {disks_new : List (List ℕ)} (y : OpenPool) (e : Edit) (r : Result (Option Intent) E) → y.dir ≡ x.dir → y.group ≡ x.group → IfOk r (λ o. IfSome o (IsPlanned h.stored x.dir x.group id e))
      → Now (HasBlocks told_new disks_new y) (λ n. Swaps h.stored n [] []) → IfOk r (λ o. IfSome o (IsReadyFor told_new disks_new y id e objects))
  ready_if y e (Ok (Some i)) dir group plan now = ready_behind y e i dir group plan now
  ready_if y e (Ok None) dir group plan now = tt
  ready_if y e (Err error) dir group plan now = tt

-- what is ready is held
pub held_when_ready : {told : Type 0} {disks : List (List ℕ)} (x : OpenPool) (id : ℕ) (e : Edit) (objects : Objects) (i : Intent) → IsReadyFor told disks x id e objects i → HoldsObjects told disks x objects
held_when_ready x id e objects i ready = record { stored = ready.stored; held = ready.held; has = ready.has }

-- ---- what is done

some_bytes : (reach : Reach) (units : ℕ) (e : Edit) → is_in_reach reach units e ≡ true → 0 < e.len
some_bytes reach units e within = grind (arith, nat_tests, within)

same_units : (objects : Objects) (id : ℕ) (o p : Object) → map.get objects id ≡ Some o → map.get objects id ≡ Some p → o.units ≡ p.units
same_units objects id o p is was =
    let both : Some o ≡ Some p = sym is ∙ was in
    let one : o ≡ p = cc in
    ap (λ (q : Object). q.units) one

-- the blocks that go are stored
pub ready_stored : {told : Type 0} {disks : List (List ℕ)} (reach : Reach) (id : ℕ) (e : Edit) (i : Intent) (x : OpenPool) (objects : Objects) → IsFor reach e i → (ready : IsReadyFor told disks x id e objects i) → AreStored (olds_of i.plan.items) ready.stored
ready_stored reach id e i x objects fits ready = edit_stored ready.stored (account_of x) objects id i.rec e i.plan.items ready.has ready.planned.found fits.touched ready.planned.plans

module _ {told : Type 0} {disks : List (List ℕ)} (told_new : Type 0) (disks_new : List (List ℕ)) (reach : Reach) (id : ℕ) (e : Edit) (i : Intent) (x y : OpenPool) (objects : Objects) (bytes : List ℕ)
    (intent : IsIntent x.group id i) (fits : IsFor reach e i) (ready : IsReadyFor told disks x id e objects i) where
  pub edited_now : y.dir ≡ x.dir → length bytes ≡ e.len → ((k : ℕ) → k < e.len → slice_index bytes k ≡ byte_put e.bytes k)
      → Now (HasBlocks told_new disks_new y) (λ n. IsChanged id i.rec i.plan.items ready.stored x.group n y.group)
      → IsObjectOf objects id (λ o. (is_in_reach reach o.units e ≡ true) × (changes_lost o e.off (length bytes) ≡ false) × HoldsObjects told_new disks_new y (map.insert objects id (with_bytes o e.off bytes)))
  edited_now dir size each now =
      let found = ready.planned.found in
      let was = object_of ready.stored (account_of x) objects id i.rec ready.has found in
      let done = edit_done ready.stored now.stored (account_of x) (account_of y) objects id i.rec e i.plan.items bytes ready.has intent.low found (some_units i.rec.units intent.object.size) (some_bytes reach i.rec.units e fits.within)
      fits.touched ready.planned.plans dir now.is now.held.alone size each in (
        done.0,
        done.1,
        (
          ap (λ (units : ℕ). is_in_reach reach units e) (same_units objects id done.0 was.0 done.1 was.1 ∙ was.2.units) ∙ fits.within,
          done.2.0,
          record { stored = now.stored; held = now.held; has = done.2.1 },
        ),
      )

  pub edited_ok : {T E : Type 0} (r : Result T E) → OnOk r (y.dir ≡ x.dir) → length bytes ≡ e.len → ((k : ℕ) → k < e.len → slice_index bytes k ≡ byte_put e.bytes k)
      → OnOk r (Now (HasBlocks told_new disks_new y) (λ n. IsChanged id i.rec i.plan.items ready.stored x.group n y.group))
      → OnOk r (IsObjectOf objects id (λ o. (is_in_reach reach o.units e ≡ true) × (changes_lost o e.off (length bytes) ≡ false) × HoldsObjects told_new disks_new y (map.insert objects id (with_bytes o e.off bytes))))
  edited_ok (Ok v) dir size each now = edited_now dir size each now
  edited_ok (Err v) dir size each now = tt
