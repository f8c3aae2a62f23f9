use Rattle.std.proofs.Common.{ap, arith}
use Rattle.zr_base.specs.Extents.{unit_count}
use Rattle.zr_removal.proofs.Few.{few_held}
use Rattle.zr_removal.proofs.may.estimate.Goals as goal

pub overflow_mul-result : goal.overflow_mul-result
overflow_mul-result c =
    let held = few_held c.requires.pool.0 c.args.pool.now c.args.dev c.requires.pool.1 c.requires.known in
    let few = c.copy_pieces.ensures.few in
    let same = ap (λ es. unit_count es) c.held.ensures in
    omega (arith, held, few, same)
