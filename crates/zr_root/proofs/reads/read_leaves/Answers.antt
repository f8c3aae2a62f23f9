use Rattle.std.proofs.Common.{◌≡◌, length, ap, arith, ◌∙◌, ◌++◌, List, ℕ, Vec, Global}
use Rattle.std.proofs.lemmas.List.{length-append}
use Rattle.std.proofs.lemmas.Result.{err_from_is_err_and}
use Rattle.zr_store.proofs.Causes.{costs_then}
use Rattle.zr_root.proofs.Reading.{form_from, one_within}
use Rattle.zr_root.proofs.Standing.{leaves_more}
use Rattle.zr_root.proofs.reads.read_leaves.Goals as goal

pub loop-b-preserved : goal.loop-b-preserved
loop-b-preserved g c =
    let all = c.loop-b.all.items in
    let bytes = c.in_ok-bytes.bytes.items in
    let items : c.extend_from_slice.new.self.items ≡ all ++ bytes = c.in_ok-extend_from_slice.ensures.items ∙ ap (λ (xs : List ℕ). all ++ xs) c.as_slice.ensures.value in
    record {
      follows = λ start so_far. c.read_leaf.ensures.follows start (c.loop-b.invariant.follows start so_far);
      costs = costs_then c.loop-b.invariant.costs c.read_leaf.ensures.costs;
      same = λ s held. c.read_leaf.ensures.same s (c.loop-b.invariant.same s held);
      len = let e = ap (λ (xs : List ℕ). length xs) items in omega (arith, e, length-append all bytes, c.loop-b.invariant.len, c.in_ok-bytes.ensures.len);
      reads = λ s held.
          leaves_more s c.loop-b.b-index c.args.leaves.now _ all bytes c.extend_from_slice.new.self.items c.loop-b-test.true items (c.in_ok-bytes.ensures.bytes s (c.loop-b.invariant.same s held)) c.in_ok-bytes.ensures.len c.in_ok-bytes.ensures.sum (c.loop-b.invariant.reads s held);
    }

pub returns-in_err-bytes-clause-errors : goal.returns-in_err-bytes-clause-errors
returns-in_err-bytes-clause-errors g c = λ s held.
    let e = c.in_err-bytes in
    let x = c.from_residual in
    form_from {T = Vec ℕ Global} s _ c.args.leaves.now _ _ x.result e.field-0.0 (err_from_is_err_and x.result x.ensures.1) (one_within c.args.leaves.now c.loop-b.b-index _ c.loop-b-test.true)
    (λ b other all. other (all c.loop-b.b-index _ c.loop-b-test.true)) (e.ensures.errors s (c.loop-b.invariant.same s held))
