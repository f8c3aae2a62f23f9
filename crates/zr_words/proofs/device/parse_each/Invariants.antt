use Rattle.std.proofs.Common.{map, take}
use Rattle.zr_words.specs.Views.{device_of}
use Rattle.zr_words.specs.Reading.{AreEach}
use Rattle.zr_words.proofs.device.parse_each.Given as goal

abbrev pub invariant-loop-word : goal.invariant-loop-word
invariant-loop-word l = AreEach (map (λ word. word.now) (take l.word-index l.words)) (map device_of l.devices.items)
