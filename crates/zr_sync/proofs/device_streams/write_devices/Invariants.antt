use Rattle.std.proofs.Common.{◌≡◌, List}
use Rattle.zr_beside.specs.Beside.{Standing}
use Rattle.zr_sync.specs.Trees.{HoldsStreams, Stage, first_stage, writing}
use Rattle.zr_sync.specs.declared.mappings.MappingStream.{MappingStream}
use Rattle.zr_sync.specs.Anew.{AreRenewed}
use Rattle.zr_sync.specs.declared.logs.Logs.TheVariants.{Anew}
use Rattle.zr_sync.specs.Pools.{IsOpen}
use Rattle.zr_sync.specs.Writes.{WritesMetadata}
use Rattle.zr_sync.proofs.device_streams.write_devices.Given as goal

abbrev pub invariant-loop-dev : goal.invariant-loop-dev
invariant-loop-dev g l = record {
  wrote : WritesMetadata (g.S.Shelf.sizes l.fn.shelf) (g.S.Shelf.sizes l.shelf) (g.S.Shelf.counts l.fn.shelf) (g.S.Shelf.counts l.shelf) (g.S.Shelf.tells l.fn.shelf) (g.S.Shelf.tells l.shelf) (g.S.Shelf.world l.fn.shelf) (g.S.Shelf.world l.shelf) l.fn.pool l.pool;
  pool : IsOpen (g.S.Shelf.sizes l.shelf) l.pool;
  trees : (cond : MappingStream → Stage) (others : List Standing) → HoldsStreams (writing (first_stage l.logs) 0) cond others (g.S.Shelf.tells l.fn.shelf) (g.S.Shelf.world l.fn.shelf).now.seen l.fn.pool → HoldsStreams (writing (first_stage l.logs) l.dev) cond others (g.S.Shelf.tells l.shelf) (g.S.Shelf.world l.shelf).now.seen l.pool;
  anew : l.logs ≡ Anew → AreRenewed l.fn.pool.version l.fn.pool.space l.pool.streams.items l.dev;
}
