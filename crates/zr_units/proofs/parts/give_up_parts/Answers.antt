use Rattle.zr_units.proofs.Ends.{ends_within}
use Rattle.zr_units.proofs.parts.give_up_parts.Goals as goal

pub free_parts-requires-clause-in_range : goal.free_parts-requires-clause-in_range
free_parts-requires-clause-in_range c = ends_within _ _ _ c.take_front-e.ensures.covered c.take_front-e.ensures.not_empty c.loop-copies.invariant.within
