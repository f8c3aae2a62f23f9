use Rattle.std.proofs.Common.{length}
use Rattle.zr_paged.specs.Pages.{pages_in}
use Rattle.zr_paged.proofs.find.+append_tree.Given as goal

abbrev pub decreases-append_tree : goal.decreases-append_tree
decreases-append_tree l = length (pages_in l.tree.now)
