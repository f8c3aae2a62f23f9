use Rattle.zr_bptr.proofs.Spelled.{hole_spelled}
use Rattle.zr_bptr.proofs.pointer.encode.Goals as goal

pub returns-in-Hole : goal.returns-in-Hole
returns-in-Hole c = hole_spelled _ c.in-Hole.is
