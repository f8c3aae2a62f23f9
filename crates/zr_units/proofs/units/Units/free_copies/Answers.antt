use Rattle.std.proofs.Common.{arith}
use Rattle.zr_units.proofs.Ends.{ends_within, held_within}
use Rattle.zr_units.proofs.units.Units.free_copies.Goals as goal

pub free_parts-requires-clause-in_range : goal.free_parts-requires-clause-in_range
free_parts-requires-clause-in_range c =
    let w = ends_within _ c.args.e _ (λ u is. c.requires.account.copying.held u (c.requires.copies u is)) c.requires.not_empty (held_within _ _ _ c.requires.account) in
    let e = c.requires.units in
    omega (arith, w, e)
