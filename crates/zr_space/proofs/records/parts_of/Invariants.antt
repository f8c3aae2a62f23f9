use Rattle.std.proofs.Common.{◌≡◌, map, take}
use Rattle.zr_space.specs.Views.{part_in}
use Rattle.zr_space.proofs.records.parts_of.Given as goal

abbrev pub invariant-loop-device : goal.invariant-loop-device
invariant-loop-device l = l.parts ≡ map part_in (take l.device-index l.devs)
