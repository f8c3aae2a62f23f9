use Rattle.std.proofs.Common.{ap, ◌∙◌}
use Rattle.std.specs.FinMap as map
use Rattle.zr_session.proofs.Maps.{one_given}
use Rattle.zr_session.proofs.table.ObjectTable.insert.Goals as goal

pub returns : goal.returns
returns c = one_given c.self.inside.objects.entries c.insert.new.self.entries c.args.id c.args.object c.in_ok-insert.ensures.updates.0 ∙ ap (λ m. map.insert m c.args.id c.args.object) c.self.view_is
