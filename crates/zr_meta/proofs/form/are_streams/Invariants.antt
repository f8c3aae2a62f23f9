use Rattle.std.proofs.Common.{take}
use Rattle.std.specs.List.{AllByRecursion}
use Rattle.zr_meta.specs.Heads.{IsStream}
use Rattle.zr_meta.proofs.form.are_streams.Given as goal

abbrev pub invariant-loop-s : goal.invariant-loop-s
invariant-loop-s l = AllByRecursion IsStream (take l.s-index l.streams)
