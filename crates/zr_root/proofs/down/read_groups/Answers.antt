use Rattle.std.proofs.Common.{◌≡◌, length, ap, arith, ◌∙◌, ◌++◌, subst, sym}
use Rattle.std.proofs.lemmas.List.{length-append}
use Rattle.std.proofs.lemmas.List.Elements.{All-append}
use Rattle.std.proofs.lemmas.Result.{err_from_is_err_and}
use Rattle.std.specs.Prelude.{All, List, Vec}
use Rattle.std.specs.Global.{Global}
use Rattle.zr_bptr.specs.declared.Ptr.{Ptr}
use Rattle.zr_tree.specs.Blocks.{FitsAt}
use Rattle.zr_store.proofs.Causes.{costs_then}
use Rattle.zr_root.proofs.Reading.{form_from, groups_more, one_within}
use Rattle.zr_root.proofs.down.read_groups.Goals as goal

pub loop-b-preserved : goal.loop-b-preserved
loop-b-preserved g c =
    let all = c.loop-b.all.items in
    let ps = c.in_ok-pointers.pointers.items in
    let items : c.extend_from_slice.new.self.items ≡ all ++ ps = c.in_ok-extend_from_slice.ensures.items ∙ ap (λ (qs : List Ptr). all ++ qs) c.as_slice.ensures.value in
    record {
      follows = λ start so_far. c.read_group.ensures.follows start (c.loop-b.invariant.follows start so_far);
      costs = costs_then c.loop-b.invariant.costs c.read_group.ensures.costs;
      same = λ s held. c.read_group.ensures.same s (c.loop-b.invariant.same s held);
      count = let e = ap (λ (qs : List Ptr). length qs) items in omega (arith, e, length-append all ps, c.loop-b.invariant.count, c.in_ok-pointers.ensures.count);
      fit = subst (All (FitsAt c.args.below)) (sym items) (All-append (FitsAt c.args.below) all ps c.loop-b.invariant.fit c.in_ok-pointers.ensures.fit);
      reads = λ s held.
          let now = c.loop-b.invariant.same s held in
          groups_more s c.args.below c.loop-b.b-index c.args.tops.now _ all ps c.extend_from_slice.new.self.items c.loop-b-test.true items (c.in_ok-pointers.ensures.pointers s now) (c.in_ok-pointers.ensures.whole s now) (c.loop-b.invariant.reads s held);
    }

pub returns-in_err-pointers-clause-errors : goal.returns-in_err-pointers-clause-errors
returns-in_err-pointers-clause-errors g c = λ s held.
    let e = c.in_err-pointers in
    let x = c.from_residual in
    form_from {T = Vec Ptr Global} s _ c.args.tops.now _ _ x.result e.field-0.0 (err_from_is_err_and x.result x.ensures.1) (one_within c.args.tops.now c.loop-b.b-index _ c.loop-b-test.true)
    (λ b no all. no (all c.loop-b.b-index _ c.loop-b-test.true)) (e.ensures.errors s (c.loop-b.invariant.same s held))
