use Rattle.std.proofs.Common.{length}
use Rattle.zr_paged.specs.Pages.{pages_in}
use Rattle.zr_paged.proofs.find.+part_from.Given as goal

abbrev pub decreases-part_from : goal.decreases-part_from
decreases-part_from l = length (pages_in l.tree.now)
