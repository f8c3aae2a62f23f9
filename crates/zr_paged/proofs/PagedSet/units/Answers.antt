use Rattle.std.proofs.Common.{arith}
use Rattle.zr_ranges.proofs.Edits.{count_bound}
use Rattle.zr_paged.specs.Pages.{all_of, pages_in}
use Rattle.zr_paged.proofs.PagedSet.units.Goals as goal

pub returns-clause-bound : goal.returns-clause-bound
returns-clause-bound c = omega (arith, count_bound (all_of (pages_in c.self.inside.front)) c.self.invariant.pages.maximal, c.self.invariant.counted)
