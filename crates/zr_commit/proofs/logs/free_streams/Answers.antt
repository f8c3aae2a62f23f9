use Rattle.std.proofs.Common.{◌+◌, ◌<◌, Err, length, arith}
use Rattle.std.proofs.lemmas.Result.{err_from_is_err_and}
use Rattle.zr_store.proofs.Causes.{costs_then, cause_then, cause_from}
use Rattle.zr_tree.proofs.Wholes.{tells_from}
use Rattle.zr_commit.specs.Logs.{streams_reach}
use Rattle.zr_commit.proofs.Giving.{stream_stored, stream_freed, stream_tells, stream_costs, stream_most}
use Rattle.zr_commit.proofs.logs.free_streams.Goals as goal

pub returns-in_err-free_tree-clause-puts : goal.returns-in_err-free_tree-clause-puts
returns-in_err-free_tree-clause-puts g c =
    let p = c.loop-stream.invariant.puts in
    let q = c.free_tree.ensures.puts in
    (p.0 + q.0, costs_then p.1 q.1)

pub returns-in_err-free_tree-clause-costs : goal.returns-in_err-free_tree-clause-costs
returns-in_err-free_tree-clause-costs g c = λ s holds stored.
    let ts = c.args.streams.now in
    let i = c.loop-stream.stream-index in
    let lt : i < length ts = omega arith in
    let before = c.loop-stream.invariant.so_far s holds stored in
    stream_most (g.B.Blocks.holds c.loop-stream.store) s ts i _ lt (g.met.B.Blocks.once c.args.store.now s holds) stored before (c.loop-stream.invariant.costs s holds stored) (c.free_tree.ensures.costs before.stored before.held)

pub returns-in_err-free_tree-clause-cause : goal.returns-in_err-free_tree-clause-cause
returns-in_err-free_tree-clause-cause g c =
    let e = c.in_err-free_tree in
    let x = c.from_residual in
    let p = c.loop-stream.invariant.puts in
    cause_from {T = Unit {0}} x.result e.field-0.0 (err_from_is_err_and x.result x.ensures.1) (cause_then p.1 e.ensures.cause)

pub returns-in_err-free_tree-clause-errors : goal.returns-in_err-free_tree-clause-errors
returns-in_err-free_tree-clause-errors g c = λ s holds stored.
    let ts = c.args.streams.now in
    let i = c.loop-stream.stream-index in
    let lt : i < length ts = omega arith in
    let e = c.in_err-free_tree in
    let x = c.from_residual in
    let before = c.loop-stream.invariant.so_far s holds stored in
    tells_from {T = Unit {0}} s (streams_reach s ts) x.result e.field-0.0 (err_from_is_err_and x.result x.ensures.1)
    (stream_tells (g.B.Blocks.holds c.loop-stream.store) s ts i _ lt (g.met.B.Blocks.once c.args.store.now s holds) stored before (Err e.field-0.0) (e.ensures.errors before.stored before.held))

pub loop-stream-preserved : goal.loop-stream-preserved
loop-stream-preserved g c =
    let ts = c.args.streams.now in
    let i = c.loop-stream.stream-index in
    let lt : i < length ts = omega arith in
    let had = g.B.Blocks.holds c.loop-stream.store in
    let p = c.loop-stream.invariant.puts in
    let q = c.free_tree.ensures.puts in
    record {
      follows = λ start so_far. c.free_tree.ensures.follows start (c.loop-stream.invariant.follows start so_far);
      puts = (p.0 + q.0, costs_then p.1 q.1);
      costs = λ s holds stored.
          let before = c.loop-stream.invariant.so_far s holds stored in
          stream_costs had s ts i _ lt (g.met.B.Blocks.once c.args.store.now s holds) stored before (c.loop-stream.invariant.costs s holds stored) (c.free_tree.ensures.costs before.stored before.held);
      so_far = λ s holds stored.
          let before = c.loop-stream.invariant.so_far s holds stored in
          let once = g.met.B.Blocks.once c.args.store.now s holds in
          stream_freed had s ts i _ lt once stored before (g.B.Blocks.holds c.free_tree.new.store) (c.in_ok-free_tree.ensures.swaps before.stored before.held (stream_stored had s ts i _ lt once stored before));
    }
