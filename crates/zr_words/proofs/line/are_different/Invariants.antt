use Rattle.std.proofs.Common.{◌≡◌, map, take}
use Rattle.zr_words.specs.Views.{path_of}
use Rattle.zr_words.proofs.line.are_different.Given as goal

abbrev pub invariant-loop-device : goal.invariant-loop-device
invariant-loop-device l = map (λ w. w.now) l.paths.items ≡ map path_of (take l.device-index l.devices)
