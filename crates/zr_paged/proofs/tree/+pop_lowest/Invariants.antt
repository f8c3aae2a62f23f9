use Rattle.std.proofs.Common.{length}
use Rattle.zr_paged.specs.Pages.{pages_in}
use Rattle.zr_paged.proofs.tree.+pop_lowest.Given as goal

abbrev pub decreases-pop_lowest : goal.decreases-pop_lowest
decreases-pop_lowest l = length (pages_in l.tree.now)
