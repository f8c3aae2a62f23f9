use Rattle.std.proofs.Common.{◌≡◌, ◌+◌, ◌*◌, ◌/◌, ◌<◌, ℕ, List, Option, sym, ◌∙◌, subst, ap, arith}
use Rattle.std.specs.Prelude.{slice_index_or, None}
use Rattle.zr_bptr.specs.declared.ObjRec.{ObjRec}
use Rattle.zr_objset.specs.Records.{record_in}
use Rattle.zr_store.proofs.Causes.{costs_then}
use Rattle.zr_tree.specs.Trees.{tree_at}
use Rattle.zr_tables.specs.Walks.{AreMetBelow}
use Rattle.zr_tables.proofs.Walking.{next_of}
use Rattle.zr_tables.proofs.live.put_leaf.Goals as goal

pub loop-place-preserved : goal.loop-place-preserved
loop-place-preserved g c =
    let inv = c.loop-place.invariant in
    let h = c.in_ok-put_object.ensures in
    let first = c.in_ok-records.ensures in
    let index = c.args.index in
    let place = c.loop-place.place in
    let group = c.args.group.now in
    let few : place < 16 = c.loop-place-test.true in
    let leaf : (16 * index + place) / 16 ≡ index = omega (arith, few) in
    record {
      follows = λ start so_far. h.follows start (inv.follows start so_far);
      costs = costs_then inv.costs h.costs;
      same = λ s holds. h.same s (inv.same s holds);
      so_far = λ s dir holds has before.
          let there = first.records s dir holds has in
          let object_is = c.record_by-object.ensures.record s dir
          (λ k. ap (λ (rs : List (Option ObjRec)). slice_index_or rs k None) c.as_slice.ensures.value ∙ there k ∙ ap (λ (n : ℕ). record_in s (tree_at s dir n) k) (c.from.ensures ∙ sym leaf)) in
          subst (λ (n : ℕ). AreMetBelow s dir group n c.put_object.new.out.items) (omega arith)
          (next_of s dir group (16 * index + place) c.record_by-object.result c.loop-place.out.items c.put_object.new.out.items (inv.so_far s dir holds has before) object_is (h.blocks s (inv.same s holds)));
    }
