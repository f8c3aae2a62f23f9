use Rattle.std.proofs.Common.{◌≡◌, take, sum_by}
use Rattle.zr_bptr.specs.Spelling.{fill_of}
use Rattle.zr_bptr.proofs.blocks.leaves_of.Given as goal

abbrev pub invariant-loop-p : goal.invariant-loop-p
invariant-loop-p l = l.leaves ≡ sum_by fill_of (take l.p-index l.pointers)
