use Rattle.zr_scan.specs.Rings.{AddsRoots}
use Rattle.zr_scan.proofs.rings.add_roots.Given as goal

abbrev pub invariant-loop-k : goal.invariant-loop-k
invariant-loop-k l = AddsRoots l.fn.ring l.k l.fn.l l.fn.roots l.roots
