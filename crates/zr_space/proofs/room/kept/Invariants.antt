use Rattle.std.proofs.Common.{◌≡◌, ◌≤◌, ◌*◌, ◌^◌, take}
use Rattle.zr_space.specs.Totals.{total_by, kept_in}
use Rattle.zr_space.proofs.room.kept.Given as goal

abbrev pub invariant-loop-device : goal.invariant-loop-device
invariant-loop-device l = record {
  so_far : l.kept ≡ total_by kept_in (take l.device-index l.devs);
  most : l.kept ≤ l.device-index * 2 ^ 40;
}
