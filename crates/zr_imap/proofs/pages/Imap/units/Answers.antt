use Rattle.std.proofs.Common.{arith}
use Rattle.zr_imap.specs.Pages.{all_of}
use Rattle.zr_imap.proofs.Paging.{mapped_few}
use Rattle.zr_imap.proofs.pages.Imap.units.Goals as goal

pub returns-clause-bound : goal.returns-clause-bound
returns-clause-bound c = omega (arith, mapped_few 0 (all_of c.self.inside.pages.items) c.self.invariant.rising (omega arith), c.self.invariant.added)
