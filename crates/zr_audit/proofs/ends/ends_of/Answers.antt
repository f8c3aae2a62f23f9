use Rattle.zr_base.specs.declared.space.Dva.{Dva}
use Rattle.zr_rules.specs.Equation.{devices_in}
use Rattle.zr_audit.proofs.Leading.{next_address, all_addresses}
use Rattle.zr_audit.proofs.ends.ends_of.Goals as goal

pub loop-a-preserved : goal.loop-a-preserved
loop-a-preserved c =
    let no_address : Dva = record { dev = 0; start = 0; len = 0 } in
    next_address (devices_in c.args.space.now) c.args.list.now c.loop-a.a-index no_address c.loop-a.met.items c.follow.new.met.items c.loop-a-test.true c.loop-a.invariant c.in_ok-follow.ensures

pub returns : goal.returns
returns c = all_addresses (devices_in c.args.space.now) c.args.list.now c.loop-a.a-index c.loop-a.met.items c.loop-a-test.false c.loop-a.invariant
