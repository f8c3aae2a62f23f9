use Rattle.std.proofs.Common.{ap, sym, ◌∙◌, unwrap_or}
use Rattle.zr_model.specs.Objects.{byte_at}
use Rattle.zr_session.proofs.Maps.{get_is}
use Rattle.zr_session.proofs.object.StoredObject.byte.Goals as goal

pub returns : goal.returns
returns c =
    c.unwrap_or.ensures
    ∙ ap (λ o. unwrap_or o 0) (c.copied.ensures ∙ (c.get.ensures.value ∙ sym (get_is c.self.inside.stored.entries c.args.at)))
    ∙ ap (λ o. byte_at o.bytes c.args.at) c.self.view_is
