use Rattle.std.proofs.Common.{◌≡◌, take}
use Rattle.std.specs.List.{AllByRecursion}
use Rattle.zr_meta.specs.Heads.{IsStream}
use Rattle.zr_sync.specs.Heads.{streams_of}
use Rattle.zr_sync.proofs.heads.head_of.Given as goal

abbrev pub invariant-loop-dev : goal.invariant-loop-dev
invariant-loop-dev l = record {
  lawful : AllByRecursion IsStream l.streams;
  streams : l.streams ≡ streams_of (take l.dev l.pool.table.rows) (take l.dev l.pool.streams.items);
}
