use Rattle.std.proofs.Common.{◌<◌, length, arith}
use Rattle.zr_store.proofs.Causes.{costs_then}
use Rattle.zr_commit.proofs.Freeing.{freed_stored, freed_more}
use Rattle.zr_commit.proofs.trees.free_all.Goals as goal

pub loop-b-preserved : goal.loop-b-preserved
loop-b-preserved g c = record {
  follows = λ start so_far. c.free.ensures.follows start (c.loop-b.invariant.follows start so_far);
  costs = costs_then c.loop-b.invariant.costs c.free.ensures.costs;
  so_far = λ s holds held.
      let bs = c.args.bs.now in
      let i = c.loop-b.b-index in
      let lt : i < length bs = omega arith in
      let before = c.loop-b.invariant.so_far s holds held in
      let n = before.stored in
      let after = c.in_ok-free.ensures.ok n before.held (freed_stored bs i _ s n lt before.is held) in
      record { stored = after.stored; held = after.held; is = freed_more bs i _ s n after.stored lt before.is after.is };
}
