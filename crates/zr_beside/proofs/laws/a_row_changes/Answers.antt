use Rattle.zr_beside.proofs.Rows.{row_changes}
use Rattle.zr_beside.proofs.laws.a_row_changes.Goals as goal

pub returns : goal.returns
returns c = λ s n f g count d first gone came last rest lt same old new h once swaps stand. row_changes s n f g count d first gone came last rest lt same old new h once swaps stand
