use Rattle.zr_stops.proofs.Joining.{adds_show}
use Rattle.zr_stops.proofs.runs.a_device_joins.Goals as goal

pub returns : goal.returns
returns c = λ sizes before after slot old start now h ready told adds. adds_show sizes before after slot old ready start now h told adds
