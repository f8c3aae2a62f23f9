use Rattle.std.proofs.Common.{◌≡◌, map, take, []}
use Rattle.zr_base.specs.declared.space.DevPart.{DevPart}
use Rattle.zr_import.proofs.metadata.devs_without_late.Given as goal

abbrev pub invariant-loop-p : goal.invariant-loop-p
invariant-loop-p l = record {
  so_far : l.devs ≡ map (λ (p : DevPart). record p { late1 = []; late2 = [] }) (take l.p-index l.parts);
}
