use Rattle.std.proofs.Common.{◌≤◌, arith}
use Rattle.zr_evac.proofs.Frontiers.{starts_above, rest_above}
use Rattle.zr_evac.proofs.take_piece.Goals as goal

pub returns-clause-opened : goal.returns-clause-opened
returns-clause-opened c =
    let above : c.args.opened ≤ c.take_front-piece.result.start = starts_above c.args.left.now.extents c.take_front-piece.result c.args.opened c.take_front-piece.ensures.covered c.take_front-piece.ensures.not_empty c.requires.uncopied in
    omega (arith, above, c.take_front-piece.ensures.start, c.requires.front.start)

pub returns-clause-uncopied : goal.returns-clause-uncopied
returns-clause-uncopied c =
    rest_above c.args.left.now.extents _ c.take_front-piece.result c.first-left.ensures.maximal c.requires.front.some c.take_front-piece.ensures.start c.take_front-piece.ensures.removed
