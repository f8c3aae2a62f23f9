use Rattle.std.proofs.Common.{◌≡◌, ◌≤◌, ◌*◌, ◌^◌, ◌+◌, take}
use Rattle.zr_space.specs.Totals.{serving_by, current_meta, late1_meta, late2_meta}
use Rattle.zr_space.proofs.room.serving_meta.Given as goal

abbrev pub invariant-loop-device : goal.invariant-loop-device
invariant-loop-device l = record {
  current : l.meta.current ≡ serving_by current_meta (take l.device-index l.devs);
  late1 : l.meta.late1 ≡ serving_by late1_meta (take l.device-index l.devs);
  late2 : l.meta.late2 ≡ serving_by late2_meta (take l.device-index l.devs);
  most : l.meta.current + l.meta.late1 + l.meta.late2 ≤ l.device-index * 2 ^ 40;
}
