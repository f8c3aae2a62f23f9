use Rattle.std.proofs.Common.{arith}
use Rattle.zr_units.proofs.Ends.{ends_within, held_within}
use Rattle.zr_units.proofs.units.Units.keep_reserved.Goals as goal

pub keep_parts-requires-clause-in_range : goal.keep_parts-requires-clause-in_range
keep_parts-requires-clause-in_range c =
    let w = ends_within _ c.args.e _ c.requires.held c.requires.not_empty (held_within _ _ _ c.requires.account) in
    let e = c.requires.units in
    omega (arith, w, e)
