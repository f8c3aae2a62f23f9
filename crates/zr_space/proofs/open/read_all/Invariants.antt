use Rattle.zr_space.proofs.Opening.{IsReading}
use Rattle.zr_space.proofs.open.read_all.Given as goal

abbrev pub invariant-loop-part : goal.invariant-loop-part
invariant-loop-part l = IsReading l.parts l.meta l.saved l.part-index l.read.slabs l.read.devs.items
