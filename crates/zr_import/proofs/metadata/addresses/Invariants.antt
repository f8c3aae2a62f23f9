use Rattle.std.proofs.Common.{◌≡◌, map, take}
use Rattle.zr_import.proofs.metadata.addresses.Given as goal

abbrev pub invariant-loop-b : goal.invariant-loop-b
invariant-loop-b l = record {
  so_far : l.ats ≡ map (λ b. b.at) (take l.b-index l.met);
}
