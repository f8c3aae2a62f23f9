use Rattle.std.proofs.Common.{None}
use Rattle.zr_change.proofs.Grouping.{finds_of, lawful_from, set_lawful}
use Rattle.zr_change.proofs.objects.drop_object.Goals as goal

pub returns-clause-lawful : goal.returns-clause-lawful
returns-clause-lawful g c =
    let e = c.in_ok-record_object.ensures in
    let old = c.args.group.now in
    let new = c.record_object.new.self in
    lawful_from new c.look_over.ensures.objects c.look_over.ensures.blocks (set_lawful c.args.id None old new c.requires.id tt e.objects e.blocks (finds_of old c.requires.lawful))
