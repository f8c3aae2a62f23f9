use Rattle.std.proofs.Common.{◌≡◌, ◌*◌, length, take}
use Rattle.zr_base.specs.Words.{words}
use Rattle.zr_root.proofs.streams.bytes_of.Given as goal

abbrev pub invariant-loop-n : goal.invariant-loop-n
invariant-loop-n l = record {
  bytes : l.bytes.items ≡ words (take l.n-index l.ns);
  len : length l.bytes.items ≡ 8 * l.n-index;
}
