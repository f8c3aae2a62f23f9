use Rattle.std.proofs.Common.{sym, subst}
use Rattle.zr_rules.specs.Resolve.{IsRanked}
use Rattle.zr_judge.proofs.are_ranked.Goals as goal

pub returns : goal.returns
returns c = (λ y. subst IsRanked c.in_ok-devs.ensures.devices (c.ranked.ensures.0 y), λ r. c.ranked.ensures.1 (subst IsRanked (sym c.in_ok-devs.ensures.devices) r))
