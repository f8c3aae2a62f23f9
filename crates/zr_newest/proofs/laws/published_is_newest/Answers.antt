use Rattle.zr_newest.proofs.Newest.{published_newest}
use Rattle.zr_newest.proofs.laws.published_is_newest.Goals as goal

pub returns : goal.returns
returns c = λ before after u slots seen lawful above puts labels devices at. published_newest before after u slots seen lawful above puts labels devices at
