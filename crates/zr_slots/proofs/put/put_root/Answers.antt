use Rattle.std.proofs.Common.{ℕ, ◌+◌, List, get_or, ◌∙◌, subst, arith}
use Rattle.std.specs.Prelude.{slice_index, Contains}
use Rattle.zr_shelf.specs.Disks.{disk, IsSameOutside}
use Rattle.zr_shelf.specs.Doings.{WritesOnly}
use Rattle.zr_shelf.proofs.Doings.{writes_more}
use Rattle.zr_label.specs.Blocks.{uber_block}
use Rattle.zr_scan.specs.Puts.{puts, root_places}
use Rattle.zr_scan.specs.Scan.{Stands}
use Rattle.zr_slots.specs.Phases.{IsRootPut}
use Rattle.zr_slots.proofs.Rooting.{writes_wider, root_put, two_more, have_all}
use Rattle.zr_slots.proofs.put.put_root.Goals as goal

pub returns-in_err-put_uber-clause-wrote : goal.returns-in_err-put_uber-clause-wrote
returns-in_err-put_uber-clause-wrote g c = λ t.
    let slot = get_or c.args.slots.now c.loop-i.i 0 in
    let sizes = g.S.Shelf.sizes c.args.shelf.now in
    let one = subst (λ (l : List ℕ). WritesOnly (Contains (puts slot (root_places (slice_index l slot) c.args.first c.args.u.now.txg) (uber_block c.args.u.now))) (g.S.Shelf.world c.loop-i.shelf) (g.S.Shelf.world c.put_uber.new.shelf)) c.loop-i.invariant.sizes (c.put_uber.ensures.wrote (c.loop-i.invariant.told t)) in
    writes_more (IsRootPut sizes c.args.slots.now c.args.first c.args.u.now) (g.S.Shelf.world c.args.shelf.now) (g.S.Shelf.world c.loop-i.shelf) (g.S.Shelf.world c.put_uber.new.shelf) (c.loop-i.invariant.wrote t)
    (writes_wider _ (IsRootPut sizes c.args.slots.now c.args.first c.args.u.now) (root_put sizes c.args.slots.now c.loop-i.i c.args.first c.args.u.now c.loop-i-test.true) (g.S.Shelf.world c.loop-i.shelf) (g.S.Shelf.world c.put_uber.new.shelf) one)

pub loop-i-preserved : goal.loop-i-preserved
loop-i-preserved g c =
    let slot = get_or c.args.slots.now c.loop-i.i 0 in
    let sizes = g.S.Shelf.sizes c.args.shelf.now in
    record {
      sizes = c.put_uber.ensures.sizes ∙ c.loop-i.invariant.sizes;
      none_fell = let a = c.loop-i.invariant.none_fell in let b = c.put_uber.ensures.none_fell in record { disk = omega arith; attach = omega arith; input = omega arith; output = omega arith };
      told = λ t. c.put_uber.ensures.told (c.loop-i.invariant.told t);
      wrote = λ t.
          let one = subst (λ (l : List ℕ). WritesOnly (Contains (puts slot (root_places (slice_index l slot) c.args.first c.args.u.now.txg) (uber_block c.args.u.now))) (g.S.Shelf.world c.loop-i.shelf) (g.S.Shelf.world c.put_uber.new.shelf)) c.loop-i.invariant.sizes (c.put_uber.ensures.wrote (c.loop-i.invariant.told t)) in
          writes_more (IsRootPut sizes c.args.slots.now c.args.first c.args.u.now) (g.S.Shelf.world c.args.shelf.now) (g.S.Shelf.world c.loop-i.shelf) (g.S.Shelf.world c.put_uber.new.shelf) (c.loop-i.invariant.wrote t)
          (writes_wider _ (IsRootPut sizes c.args.slots.now c.args.first c.args.u.now) (root_put sizes c.args.slots.now c.loop-i.i c.args.first c.args.u.now c.loop-i-test.true) (g.S.Shelf.world c.loop-i.shelf) (g.S.Shelf.world c.put_uber.new.shelf) one);
      there = λ t.
          let told = c.loop-i.invariant.told t in
          let new = (g.S.Shelf.world c.put_uber.new.shelf).now.seen in
          two_more sizes c.args.slots.now c.loop-i.i c.args.first c.args.u.now (g.S.Shelf.world c.loop-i.shelf).now.seen new
          (subst (λ (l : List ℕ). IsSameOutside (puts slot (root_places (slice_index l slot) c.args.first c.args.u.now.txg) (uber_block c.args.u.now)) (g.S.Shelf.world c.loop-i.shelf).now.seen new) c.loop-i.invariant.sizes (c.put_uber.ensures.rest told))
          (record {
            one = subst (λ (l : List ℕ). Stands (slice_index l slot) (disk new slot) c.args.first c.args.u.now) c.loop-i.invariant.sizes (c.in_ok-put_uber.ensures.there told);
            other = subst (λ (l : List ℕ). Stands (slice_index l slot) (disk new slot) (c.args.first + 2) c.args.u.now) c.loop-i.invariant.sizes (c.in_ok-put_uber.ensures.there_too told);
          })
          (c.loop-i.invariant.there t);
    }

pub returns-clause-there : goal.returns-clause-there
returns-clause-there g c = λ t.
    have_all (g.S.Shelf.sizes c.args.shelf.now) c.args.slots.now c.loop-i.i c.args.first c.args.u.now (g.S.Shelf.world c.loop-i.shelf).now.seen c.loop-i-test.false (c.loop-i.invariant.there t)
