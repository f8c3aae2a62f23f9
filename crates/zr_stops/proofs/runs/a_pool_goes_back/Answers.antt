use Rattle.zr_stops.proofs.Returning.{returns_either}
use Rattle.zr_stops.proofs.runs.a_pool_goes_back.Goals as goal

pub returns : goal.returns
returns c = λ sizes before after read now h. returns_either sizes before after read now h
