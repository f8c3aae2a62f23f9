use Rattle.std.proofs.Common.{length}
use Rattle.zr_paged.specs.Pages.{pages_in}
use Rattle.zr_paged.proofs.change.+add.Given as goal

abbrev pub decreases-add : goal.decreases-add
decreases-add l = length (pages_in l.tree.now)
