use Rattle.std.proofs.Common.{◌≡◌, ◌++◌, length, take, drop}
use Rattle.std.specs.List.{AllByRecursion}
use Rattle.std.specs.Prelude.{All}
use Rattle.zr_meta.specs.Heads.{IsStream}
use Rattle.zr_sync.specs.Pools.{AreStreams}
use Rattle.zr_open.specs.Streams.{HasNoLate, untold_of}
use Rattle.zr_sync.specs.Heads.{told_of}
use Rattle.zr_open.proofs.Streams.{left_total}
use Rattle.zr_open.proofs.pool.streams_of.Given as goal

abbrev pub invariant-loop-row : goal.invariant-loop-row
invariant-loop-row l = record {
  count : length l.devices.items ≡ l.row-index;
  lawful : All AreStreams l.devices.items;
  late : l.head.form ≡ 1 → All HasNoLate l.devices.items;
  untold : untold_of (take l.row-index l.rows) l.devices.items ≡ 0;
  left : AllByRecursion IsStream l.rest;
  total : length l.rest ≡ left_total (drop l.row-index l.rows) l.head;
  each : told_of l.head.form (take l.row-index l.rows) l.devices.items ++ l.rest ≡ l.head.streams;
}
