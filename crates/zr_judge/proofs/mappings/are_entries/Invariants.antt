use Rattle.std.proofs.Common.{length}
use Rattle.zr_space.proofs.Mapped.{RiseWithin}
use Rattle.zr_judge.proofs.mappings.are_entries.Given as goal

abbrev pub invariant-loop-first : goal.invariant-loop-first
invariant-loop-first l = record {
  all : RiseWithin l.units l.low l.rest → RiseWithin l.units 0 l.entries;
  part : RiseWithin l.units 0 l.entries → RiseWithin l.units l.low l.rest;
}

abbrev pub decreases-loop-first : goal.decreases-loop-first
decreases-loop-first l = length l.rest
