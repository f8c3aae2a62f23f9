use Rattle.zr_space.proofs.Underway.{back}
use Rattle.zr_space.proofs.copying.Copying.failed.Goals as goal

pub invariant_of-result : goal.invariant_of-result
invariant_of-result c = back c.self.inside.whole c.self.inside.slabs c.self.inside.devs.items c.self.inside.dev c.self.inside.plan c.self.invariant c.release.new.self (rw c.extent_of.ensures at c.release.ensures)
