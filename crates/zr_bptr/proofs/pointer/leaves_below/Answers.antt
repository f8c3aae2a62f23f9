use Rattle.std.proofs.Common.{arith}
use Rattle.zr_bptr.proofs.Spelled.{leaves_below}
use Rattle.zr_bptr.proofs.pointer.leaves_below.Goals as goal

pub pow-requires : goal.pow-requires
pow-requires c = rw c.from.ensures (omega (arith, leaves_below c.args.level c.requires))
