use Rattle.std.proofs.Common.{◌≡◌, map, take}
use Rattle.zr_words.specs.Views.{path_of}
use Rattle.zr_session.proofs.program.paths_of.Given as goal

abbrev pub invariant-loop-device : goal.invariant-loop-device
invariant-loop-device l = l.paths ≡ map path_of (take l.device-index l.devices)
