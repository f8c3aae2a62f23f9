use Rattle.std.proofs.Common.{◌<◌, ℕ, List, sym, subst, arith}
use Rattle.std.specs.Prelude.{All}
use Rattle.zr_bptr.specs.declared.Ptr.{Ptr}
use Rattle.zr_tree.specs.Trees.{Rises}
use Rattle.zr_change.specs.Changes.{Records}
use Rattle.zr_change.specs.Plans.{leaves_of, olds_of}
use Rattle.zr_change.proofs.Putting.{stays_stored}
use Rattle.zr_change.proofs.Rows.{rises_of, low_of, is_changed, count_planned}
use Rattle.zr_change.proofs.changes.change_object.Goals as goal

pub record_change-requires-clause-low : goal.record_change-requires-clause-low
record_change-requires-clause-low g c =
    let cs = c.in_ok-changes.changes.items in
    let row = c.requires.row in
    subst (All (λ (x : ℕ × Ptr). x.0 < 33554432)) (sym c.as_slice.ensures.value) (low_of 33554432 c.args.plan.now cs c.in_ok-changes.ensures.changes row row.low)

pub record_change-requires-clause-rises : goal.record_change-requires-clause-rises
record_change-requires-clause-rises g c = subst Rises (sym c.as_slice.ensures.value) (rises_of c.args.plan.now c.in_ok-changes.changes.items c.in_ok-changes.ensures.changes c.requires.row)

pub returns-clause-ok : goal.returns-clause-ok
returns-clause-ok g c = λ s holds held.
    let id = c.args.id in
    let r = c.args.rec.now in
    let plan = c.args.plan.now in
    let cs = c.in_ok-changes.changes.items in
    let old = c.args.group.now in
    let new = c.record_change.new.group in
    let put = c.in_ok-changes.ensures.ok s holds in
    let n = put.stored in
    let once = g.met.B.Blocks.once c.put_all.new.store n put.held in
    let free = c.in_ok-free_olds.ensures.swaps n put.held (stays_stored s n (leaves_of cs) (olds_of plan) put.is.swaps held) in
    let records = subst (λ (xs : List (ℕ × Ptr)). Records id r xs old new) c.as_slice.ensures.value c.in_ok-record_change.ensures.records in
    record { stored = free.stored; held = free.held; is = is_changed id r plan cs s n free.stored old new c.in_ok-changes.ensures.changes c.requires.row records put.is held once free.is }

pub returns-clause-block_count : goal.returns-clause-block_count
returns-clause-block_count g c =
    let id = c.args.id in
    let plan = c.args.plan.now in
    let cs = c.in_ok-changes.changes.items in
    let old = c.args.group.now in
    let records = subst (λ (xs : List (ℕ × Ptr)). Records id c.args.rec.now xs old c.record_change.new.group) c.as_slice.ensures.value c.in_ok-record_change.ensures.records in
    let counted = records.block_count in
    omega (arith, counted, count_planned id plan cs old c.in_ok-changes.ensures.changes)
