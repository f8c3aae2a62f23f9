use Rattle.std.proofs.Common.{◌+◌, [], subst, sym, rules}
use Rattle.std.proofs.lemmas.List.Elements.{All-push}
use Rattle.std.proofs.lemmas.Result.{err_from_is_err_and}
use Rattle.std.specs.Prelude.{All}
use Rattle.zr_bptr.specs.declared.Bptr.{Bptr}
use Rattle.zr_tree.proofs.Wholes.{tells_from}
use Rattle.zr_store.proofs.Causes.{costs_then}
use Rattle.zr_root.specs.Streams.{IsUnitAt}
use Rattle.zr_root.proofs.Puts.{none_put, block_now}
use Rattle.zr_root.proofs.levels.put_groups.Goals as goal

pub loop-piece-init : goal.loop-piece-init
loop-piece-init g c = record {
  follows = λ start so_far. so_far;
  adds = λ start so_far. so_far;
  costs = search rules;
  count = search rules;
  fit = search rules;
  puts = λ s held. record { stored = s; held = held; is = none_put c.args.below s c.new-tops.result.items (search rules) };
}

pub loop-piece-preserved : goal.loop-piece-preserved
loop-piece-preserved g c =
    let tops = c.loop-piece.tops.items in
    let items = c.in_ok-push.ensures.items in
    record {
      follows = λ start so_far. c.put_group.ensures.follows start (c.loop-piece.invariant.follows start so_far);
      adds = λ start so_far. c.in_ok-b.ensures.adds start (c.loop-piece.invariant.adds start so_far);
      costs = costs_then c.loop-piece.invariant.costs c.put_group.ensures.costs;
      count = search rules;
      fit = subst (All (IsUnitAt (c.args.below + 1))) (sym items) (All-push (IsUnitAt (c.args.below + 1)) tops c.in_ok-b.b c.loop-piece.invariant.fit c.in_ok-b.ensures.fits);
      puts = λ s held.
          block_now (g.B.Blocks.holds c.loop-piece.store) (g.B.Blocks.holds c.put_group.new.store) c.args.below s c.args.pieces.now c.loop-piece.piece-index tops c.push.new.self.items c.in_ok-b.b c.loop-piece-test.true items
          (c.loop-piece.invariant.puts s held) (λ t h. c.in_ok-b.ensures.puts t h);
    }

pub returns-in_err-b-clause-errors : goal.returns-in_err-b-clause-errors
returns-in_err-b-clause-errors g c = λ s.
    let e = c.in_err-b in
    let x = c.from_residual in
    tells_from {T = Bptr} s [] x.result e.field-0.0 (err_from_is_err_and x.result x.ensures.1) (e.ensures.errors s)
