use Rattle.zr_units.proofs.Ends.{ends_within}
use Rattle.zr_units.proofs.parts.let_go.Goals as goal

pub release-requires-clause-within : goal.release-requires-clause-within
release-requires-clause-within c = ends_within _ _ _ c.take_front-e.ensures.covered c.take_front-e.ensures.not_empty c.loop-set.invariant.within
