use Rattle.std.proofs.Common.{◌≢◌, List}
use Rattle.zr_beside.specs.Beside.{Standing}
use Rattle.zr_sync.specs.Anew.{KeepsCounts}
use Rattle.zr_sync.specs.Pools.{IsOpen}
use Rattle.zr_sync.specs.Trees.{HoldsStreams, Stage, giving}
use Rattle.zr_sync.specs.Trees.Stage.{Written}
use Rattle.zr_sync.specs.Writes.{WritesMetadata}
use Rattle.zr_sync.specs.declared.mappings.MappingStream.{MappingStream}
use Rattle.zr_sync.proofs.late.give_lates.Given as goal

abbrev pub invariant-loop-dev : goal.invariant-loop-dev
invariant-loop-dev g l = record {
  wrote : WritesMetadata (g.S.Shelf.sizes l.fn.shelf) (g.S.Shelf.sizes l.shelf) (g.S.Shelf.counts l.fn.shelf) (g.S.Shelf.counts l.shelf) (g.S.Shelf.tells l.fn.shelf) (g.S.Shelf.tells l.shelf) (g.S.Shelf.world l.fn.shelf) (g.S.Shelf.world l.shelf) l.fn.pool l.pool;
  pool : IsOpen (g.S.Shelf.sizes l.shelf) l.pool;
  counts : KeepsCounts l.fn.pool l.pool;
  trees : (first : Stage) (cond : MappingStream → Stage) (others : List Standing) → first ≢ Written → HoldsStreams (giving first 0) cond others (g.S.Shelf.tells l.fn.shelf) (g.S.Shelf.world l.fn.shelf).now.seen l.fn.pool → HoldsStreams (giving first l.dev) cond others (g.S.Shelf.tells l.shelf) (g.S.Shelf.world l.shelf).now.seen l.pool;
}
