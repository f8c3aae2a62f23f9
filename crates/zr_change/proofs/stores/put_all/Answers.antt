use Rattle.std.proofs.Common.{List, [], ℕ, inl, inr, sym, subst}
use Rattle.zr_bptr.specs.declared.Ptr.{Ptr}
use Rattle.zr_store.specs.Store.{AreStored, Swaps}
use Rattle.zr_change.specs.Plans.{leaves_of}
use Rattle.zr_change.proofs.Putting.{came_stored, gone_again}
use Rattle.zr_change.proofs.stores.put_all.Goals as goal

pub returns-in_ok-free_changes-in-Err-clause-err : goal.returns-in_ok-free_changes-in-Err-clause-err
returns-in_ok-free_changes-in-Err-clause-err g c = λ s held. elim (c.in-Err.ensures.err s held) [
  | inl lacking ↦ inl lacking
  | inr put ↦
      let once = g.met.B.Blocks.once c.put_each.new.store put.stored put.held in
      let stored = subst (λ (cs : List (ℕ × Ptr)). AreStored (leaves_of cs) put.stored) (sym c.as_slice.ensures.value) (came_stored s put.stored (leaves_of c.put_each.new.changes.items) put.is) in
      let back = c.in_ok-free_changes-in-Err.ensures.swaps put.stored put.held stored in
      let came : Swaps s put.stored [] (leaves_of c.as_slice.result.now) = rw c.as_slice.ensures.value put.is in
      inr (record { stored = back.stored; held = back.held; is = gone_again s put.stored back.stored (leaves_of c.as_slice.result.now) once came back.is })
]
