use Rattle.std.proofs.Common.{◌≡◌, ◌*◌, ◌^◌, ◌≤◌, take}
use Rattle.zr_image.specs.Roots.{concrete_units}
use Rattle.zr_import.proofs.heads.concrete_units.Given as goal

abbrev pub invariant-loop-r : goal.invariant-loop-r
invariant-loop-r l = record {
  bound : l.units ≤ l.r-index * 2 ^ 36;
  so_far : l.units ≡ concrete_units (take l.r-index l.rows);
}
