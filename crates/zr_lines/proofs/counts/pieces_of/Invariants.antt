use Rattle.std.proofs.Common.{◌≡◌, ◌*◌, ◌≤◌, take}
use Rattle.zr_rules.specs.Equation.{devices_in}
use Rattle.zr_lines.specs.Counts.{pieces_in}
use Rattle.zr_lines.proofs.counts.pieces_of.Given as goal

abbrev pub invariant-loop-b : goal.invariant-loop-b
invariant-loop-b l = record {
  pieces : l.pieces ≡ pieces_in (devices_in l.pool.space) (take l.b-index l.blocks);
  most : l.pieces ≤ 1056 * l.b-index;
}
