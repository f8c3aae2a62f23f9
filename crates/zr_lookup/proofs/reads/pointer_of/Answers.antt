use Rattle.std.proofs.Common.{sym}
use Rattle.zr_lookup.proofs.Groups.{change_fits}
use Rattle.zr_lookup.proofs.reads.pointer_of.Goals as goal

pub returns-in-Some-clause-fits : goal.returns-in-Some-clause-fits
returns-in-Some-clause-fits g c = change_fits c.args.group.now c.args.id c.args.index c.in-Some.p c.requires.group (sym c.in-Some.ensures)
