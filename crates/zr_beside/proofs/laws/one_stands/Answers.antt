use Rattle.zr_beside.proofs.Beside.{one_bytes, one_stored}
use Rattle.zr_beside.proofs.laws.one_stands.Goals as goal

pub returns-clause-stored : goal.returns-clause-stored
returns-clause-stored c = λ s front back w h. one_stored s front back w h

pub returns-clause-stands : goal.returns-clause-stands
returns-clause-stands c = λ s front back w h. one_bytes s front back w h
