use Rattle.std.proofs.Common.{length}
use Rattle.zr_paged.specs.Pages.{pages_in}
use Rattle.zr_paged.proofs.find.+run_with.Given as goal

abbrev pub decreases-run_with : goal.decreases-run_with
decreases-run_with l = length (pages_in l.tree.now)
