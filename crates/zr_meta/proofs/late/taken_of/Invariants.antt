use Rattle.std.proofs.Common.{◌≡◌, map, take}
use Rattle.std.specs.List.{AllByRecursion}
use Rattle.zr_smap.specs.Cuts.{taken}
use Rattle.zr_smap.specs.Spellings.{IsRun}
use Rattle.zr_meta.specs.Streams.{runs_of_kind}
use Rattle.zr_meta.proofs.late.taken_of.Given as goal

abbrev pub invariant-loop-c : goal.invariant-loop-c
invariant-loop-c l = record {
  taken : l.runs.items ≡ map taken (runs_of_kind l.free (take l.c-index l.changes));
  lawful : AllByRecursion IsRun l.runs.items;
}
