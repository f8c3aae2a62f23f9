use Rattle.std.proofs.Common.{◌≡◌, ◌≤◌, length, take, drop}
use Rattle.zr_shelf.specs.Choices.{AreOthers}
use Rattle.zr_shelf.proofs.images.add_others.Given as goal

abbrev pub invariant-loop-file : goal.invariant-loop-file
invariant-loop-file l = record {
  count : l.disks ≡ length l.fn.image.items;
  within : l.disks ≤ length l.image.items;
  front : take l.disks l.image.items ≡ l.fn.image.items;
  others : AreOthers l.fn.image.items (take l.file-index l.folder) (drop l.disks l.image.items);
}
