use Rattle.std.proofs.Common.{sym}
use Rattle.zr_lookup.proofs.Groups.{record_lawful}
use Rattle.zr_lookup.proofs.directory.record_by.Goals as goal

pub returns-in-Some-clause-lawful : goal.returns-in-Some-clause-lawful
returns-in-Some-clause-lawful c = record_lawful c.args.group.now c.args.id c.in-Some.object c.requires.group (sym c.in-Some.ensures)
