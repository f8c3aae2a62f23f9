use Rattle.std.proofs.Common.{◌≡◌, map, take}
use Rattle.zr_judge.specs.Blank.{blank_part}
use Rattle.zr_judge.proofs.blank.blank_devs.Given as goal

abbrev pub invariant-loop-row : goal.invariant-loop-row
invariant-loop-row l = record {
  so_far : l.devs ≡ map blank_part (take l.row-index l.rows);
}
