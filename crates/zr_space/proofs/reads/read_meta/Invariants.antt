use Rattle.std.proofs.Common.{◌≡◌, take}
use Rattle.zr_space.specs.Reads.{ReadsMeta}
use Rattle.zr_space.proofs.reads.read_meta.Given as goal

abbrev pub invariant-loop-a : goal.invariant-loop-a
invariant-loop-a l = record {
  so_far : ReadsMeta (take l.a-index l.meta) l.dev l.initial.units l.units l.initial.used.extents l.used.extents;
  room : l.room ≡ l.initial.units.units;
}
