use Rattle.std.proofs.Common.{◌≡◌, map, take}
use Rattle.zr_script.proofs.lines.copy_all.Given as goal

abbrev pub invariant-loop-word : goal.invariant-loop-word
invariant-loop-word l = l.blobs ≡ map (λ w. w.now) (take l.word-index l.words)
