use Rattle.zr_bptr.proofs.Leaves.{laid_record}
use Rattle.zr_bptr.proofs.records.spell.Goals as goal

pub returns : goal.returns
returns c = rw (c.write_u64_into.ensures, c.copy_from_slice.ensures.after) (laid_record c.args.r.now _ _ _ c.from.ensures c.from-2.ensures c.encode.ensures.spelling)
