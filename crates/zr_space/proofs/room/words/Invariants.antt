use Rattle.std.proofs.Common.{◌≡◌, ◌≤◌, ◌*◌, ◌^◌, take}
use Rattle.zr_space.specs.Totals.{all_units, all_words}
use Rattle.zr_space.proofs.room.words.Given as goal

abbrev pub invariant-loop-device : goal.invariant-loop-device
invariant-loop-device l = record {
  so_far : l.words ≡ all_words l.version (take l.device-index l.devs);
  few : l.words ≤ 13 * all_units (take l.device-index l.devs);
  most : l.words ≤ l.device-index * 2 ^ 44;
}
