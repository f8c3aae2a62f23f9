use Rattle.std.proofs.Common.{◌≤◌, take}
use Rattle.zr_shelf.specs.Memory.{start, run}
use Rattle.zr_shelf.specs.Choices.{IsShown}
use Rattle.zr_shelf.proofs.images.image_after.Given as goal

abbrev pub invariant-loop-call : goal.invariant-loop-call
invariant-loop-call l = record {
  places : l.place ≤ l.call-index;
  shown : IsShown l.choice (run (start l.history.input.items) (take l.call-index l.calls)).now l.seen.items l.image.items l.place;
}
