use Rattle.zr_rules.specs.Equation.{devices_in}
use Rattle.zr_audit.proofs.Leading.{unit_more}
use Rattle.zr_audit.proofs.ends.follow_units.Goals as goal

pub loop-k-preserved : goal.loop-k-preserved
loop-k-preserved c =
    unit_more (devices_in c.args.space.now) c.args.a.dev c.args.a.start c.loop-k.k c.from.result c.in_ok-follow_whole.field-0 c.args.met.now.items c.loop-k.met.items c.follow_whole.new.met.items c.from.ensures c.loop-k.invariant c.in_ok-follow_whole.ensures.yes c.in_ok-follow_whole.ensures.no
