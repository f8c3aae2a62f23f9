use Rattle.std.proofs.Common.{[], subst, sym, rules}
use Rattle.std.proofs.lemmas.List.Elements.{All-push}
use Rattle.std.proofs.lemmas.Result.{err_from_is_err_and}
use Rattle.std.specs.Prelude.{All}
use Rattle.zr_bptr.specs.declared.Bptr.{Bptr}
use Rattle.zr_tree.proofs.Wholes.{tells_from}
use Rattle.zr_store.proofs.Causes.{costs_then}
use Rattle.zr_root.specs.Streams.{IsUnitAt}
use Rattle.zr_root.proofs.Puts.{no_leaf_put, leaf_now}
use Rattle.zr_root.proofs.bytes.put_leaves.Goals as goal

pub loop-piece-init : goal.loop-piece-init
loop-piece-init g c = record {
  follows = λ start so_far. so_far;
  adds = λ start so_far. so_far;
  costs = search rules;
  count = search rules;
  units = search rules;
  puts = λ s held. record { stored = s; held = held; is = no_leaf_put s c.new-leaves.result.items (search rules) };
}

pub loop-piece-preserved : goal.loop-piece-preserved
loop-piece-preserved g c =
    let leaves = c.loop-piece.leaves.items in
    let items = c.in_ok-push.ensures.items in
    record {
      follows = λ start so_far. c.put_leaf.ensures.follows start (c.loop-piece.invariant.follows start so_far);
      adds = λ start so_far. c.in_ok-b.ensures.adds start (c.loop-piece.invariant.adds start so_far);
      costs = costs_then c.loop-piece.invariant.costs c.put_leaf.ensures.costs;
      count = search rules;
      units = subst (All (IsUnitAt 0)) (sym items) (All-push (IsUnitAt 0) leaves c.in_ok-b.b c.loop-piece.invariant.units c.in_ok-b.ensures.unit);
      puts = λ s held.
          leaf_now (g.B.Blocks.holds c.loop-piece.store) (g.B.Blocks.holds c.put_leaf.new.store) s c.args.pieces.now c.loop-piece.piece-index leaves c.push.new.self.items c.in_ok-b.b c.loop-piece-test.true items
          (c.loop-piece.invariant.puts s held) (λ t h. c.in_ok-b.ensures.puts t h) c.in_ok-b.ensures.sum;
    }

pub returns-in_err-b-clause-errors : goal.returns-in_err-b-clause-errors
returns-in_err-b-clause-errors g c = λ s.
    let e = c.in_err-b in
    let x = c.from_residual in
    tells_from {T = Bptr} s [] x.result e.field-0.0 (err_from_is_err_and x.result x.ensures.1) (e.ensures.errors s)
