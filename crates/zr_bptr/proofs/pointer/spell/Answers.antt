use Rattle.std.proofs.Common.{arith}
use Rattle.zr_bptr.proofs.Spelled.{laid}
use Rattle.zr_bptr.proofs.pointer.spell.Goals as goal

pub returns : goal.returns
returns c = rw (c.write_u64_into.ensures, c.copy_from_slice.ensures.after) (laid c.args.b.now _ _ (omega (arith, c.from-len.ensures, c.from.ensures)) c.properties.ensures)
