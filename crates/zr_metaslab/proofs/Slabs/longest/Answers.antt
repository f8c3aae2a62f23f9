use Rattle.std.proofs.Common.{arith, ◌+◌}
use Rattle.zr_metaslab.proofs.Fits.{none_longer}
use Rattle.zr_metaslab.proofs.Slabs.longest.Goals as goal

pub returns-clause-most : goal.returns-clause-most
returns-clause-most c = rw (← c.self.view_is) (none_longer c.self.inside.devs.items (c.longest_on.result + 1) c.longest_on.result c.self.invariant.sound (omega arith) (omega arith) (rw c.as_slice.ensures.value at c.longest_on.ensures.most))
