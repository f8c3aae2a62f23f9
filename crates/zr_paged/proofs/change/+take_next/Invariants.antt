use Rattle.std.proofs.Common.{length}
use Rattle.zr_paged.specs.Pages.{pages_in}
use Rattle.zr_paged.proofs.change.+take_next.Given as goal

abbrev pub decreases-take_next : goal.decreases-take_next
decreases-take_next l = length (pages_in l.tree.now)
