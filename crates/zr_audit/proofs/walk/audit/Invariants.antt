use Rattle.std.proofs.Common.{◌≡◌, map}
use Rattle.std.specs.List.{range_with_len}
use Rattle.zr_audit.specs.Found.{found, allocated_units}
use Rattle.zr_audit.proofs.walk.audit.Given as goal

abbrev pub invariant-loop-dev : goal.invariant-loop-dev
invariant-loop-dev l = record {
  walked : l.walked ≡ map (found l.space l.live l.meta) (range_with_len 0 l.dev);
  allocated : l.allocated ≡ map (allocated_units l.space) (range_with_len 0 l.dev);
}
