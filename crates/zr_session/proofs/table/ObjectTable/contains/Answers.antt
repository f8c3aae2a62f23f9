use Rattle.std.proofs.Common.{ap, sym, ◌∙◌, is_some}
use Rattle.std.specs.FinMap as map
use Rattle.zr_session.proofs.Maps.{get_is}
use Rattle.zr_session.proofs.table.ObjectTable.contains.Goals as goal

pub returns : goal.returns
returns c = c.contains_key.ensures ∙ ap is_some (sym (get_is c.self.inside.objects.entries c.args.id) ∙ ap (λ m. map.get m c.args.id) c.self.view_is)
