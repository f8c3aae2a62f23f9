use Rattle.std.proofs.Common.{length}
use Rattle.zr_paged.specs.Pages.{pages_in}
use Rattle.zr_paged.proofs.change.+remove.Given as goal

abbrev pub decreases-remove : goal.decreases-remove
decreases-remove l = length (pages_in l.tree.now)
