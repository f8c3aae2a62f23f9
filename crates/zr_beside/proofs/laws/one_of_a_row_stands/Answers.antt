use Rattle.zr_beside.proofs.Rows.{in_row}
use Rattle.zr_beside.proofs.laws.one_of_a_row_stands.Goals as goal

pub returns : goal.returns
returns c = λ s f count d first last rest w lt is h. in_row s f count d first last rest w lt is h
