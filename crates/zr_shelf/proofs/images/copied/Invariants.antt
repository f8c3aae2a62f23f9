use Rattle.std.proofs.Common.{◌≡◌, take}
use Rattle.zr_shelf.specs.Memory.{bytes_of, paths_of}
use Rattle.zr_shelf.proofs.images.copied.Given as goal

abbrev pub invariant-loop-file : goal.invariant-loop-file
invariant-loop-file l = record {
  paths : paths_of l.all.items ≡ paths_of (take l.file-index l.files);
  bytes : bytes_of l.all.items ≡ bytes_of (take l.file-index l.files);
}
