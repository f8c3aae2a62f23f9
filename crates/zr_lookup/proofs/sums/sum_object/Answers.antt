use Rattle.std.proofs.Common.{◌∙◌, ◌<◌, ℕ, length, get_or, sym, subst}
use Rattle.std.specs.Prelude.{All}
use Rattle.std.proofs.lemmas.Result.{err_from_is_err_and}
use Rattle.std.proofs.lemmas.List.{take_all}
use Rattle.std.proofs.lemmas.List.Elements.{All-more}
use Rattle.zr_bptr.specs.declared.Bptr.{Bptr}
use Rattle.zr_bptr.specs.declared.Ptr.{Ptr}
use Rattle.zr_bptr.specs.declared.Ptr.TheVariants.{At}
use Rattle.zr_store.proofs.Causes.{costs_then}
use Rattle.zr_tree.specs.Blocks.{FitsAt}
use Rattle.zr_lookup.specs.Objects.{pointer_now, HasLeaves}
use Rattle.zr_lookup.specs.Errors.{IsSoundBlock}
use Rattle.zr_lookup.proofs.Telling.{of_block, object_from}
use Rattle.zr_lookup.proofs.Summing.{no_leaf, leaf_pointer, all_sound, sum_more}
use Rattle.zr_lookup.proofs.sums.sum_object.Goals as goal

pub returns-in_err-bytes-clause-errors : goal.returns-in_err-bytes-clause-errors
returns-in_err-bytes-clause-errors g c = λ s holds.
    let at : ℕ → Ptr = pointer_now s c.args.group.now c.args.id c.args.rec.now in
    let r = c.args.rec.now in
    let items = c.deref-index-items.result.now in
    let i = c.loop-index.index-index in
    let lt : i < length items = c.loop-index-test.true in
    let leaf = get_or items i no_leaf in
    let e = c.in_err-bytes in
    let x = c.from_residual-in_err-bytes in
    let leaves = subst (HasLeaves at) (sym c.deref-index-items.ensures.value) (c.in_ok-leaves.ensures.leaves s holds) in
    let fits = subst (All (λ (y : ℕ × Bptr). FitsAt 0 (At y.1))) (sym c.deref-index-items.ensures.value) c.in_ok-leaves.ensures.fits in
    object_from s at r (λ _. Unit {0}) x.result e.field-0.0 (err_from_is_err_and x.result x.ensures.1)
    (of_block s at r (λ _. Unit {0}) leaf.0 (At leaf.1) _ (leaf_pointer at items i no_leaf leaves lt) tt (fits i no_leaf lt) (e.ensures.errors s (c.loop-index.invariant.same s holds)))

pub loop-index-preserved : goal.loop-index-preserved
loop-index-preserved g c =
    let r = c.args.rec.now in
    let items = c.deref-index-items.result.now in
    let i = c.loop-index.index-index in
    let lt : i < length items = c.loop-index-test.true in
    let inv = c.loop-index.invariant in
    let h = c.in_ok-bytes.ensures in
    record {
      follows = λ start so_far. h.follows start (inv.follows start so_far);
      costs = costs_then inv.costs h.costs;
      same = λ s holds. h.same s (inv.same s holds);
      sound = λ s holds. All-more (λ (leaf : ℕ × Bptr). IsSoundBlock s r.units leaf.1) items i no_leaf lt (inv.sound s holds) (h.sound s (inv.same s holds));
      summed_up = λ s holds. sum_more s c.loop-index.digest c.add_block.new.digest items i no_leaf c.as_slice.result.now lt (c.as_slice.ensures.value ∙ h.bytes s (inv.same s holds)) (inv.summed_up s holds) c.add_block.ensures;
    }

pub returns-clause-sound : goal.returns-clause-sound
returns-clause-sound g c = λ s holds.
    let at : ℕ → Ptr = pointer_now s c.args.group.now c.args.id c.args.rec.now in
    let r = c.args.rec.now in
    let items = c.deref-index-items.result.now in
    let leaves = subst (HasLeaves at) (sym c.deref-index-items.ensures.value) (c.in_ok-leaves.ensures.leaves s holds) in
    all_sound s r.units at items leaves (subst (All (λ (leaf : ℕ × Bptr). IsSoundBlock s r.units leaf.1)) (take_all c.loop-index.index-index items c.loop-index-test.false) (c.loop-index.invariant.sound s holds))
