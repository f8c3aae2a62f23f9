use Rattle.std.proofs.Common.{◌∙◌, ap, sym}
use Rattle.zr_rules.specs.Equation.{devices_in}
use Rattle.zr_rules.specs.Places.{is_gone}
use Rattle.zr_audit.proofs.Leading.{far_nowhere}
use Rattle.zr_audit.proofs.ends.end_of.Goals as goal

pub returns-in-Gone-clause-past : goal.returns-in-Gone-clause-past
returns-in-Gone-clause-past c = λ u far.
    far_nowhere (devices_in c.args.space.now) c.args.dev u (ap is_gone (sym c.state.ensures ∙ c.in-Gone.is)) (c.lawful.ensures.rising c.args.dev) far
