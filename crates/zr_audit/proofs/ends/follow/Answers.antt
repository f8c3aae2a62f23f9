use Rattle.std.proofs.Common.{List, subst}
use Rattle.zr_chain.specs.declared.visit.Visited.{Visited}
use Rattle.zr_rules.specs.Equation.{devices_in}
use Rattle.zr_space.proofs.Paths.{on_ok}
use Rattle.zr_audit.specs.Found.{LeadsOn}
use Rattle.zr_audit.proofs.Leading.{all_of_front}
use Rattle.zr_audit.proofs.ends.follow.Goals as goal

pub returns-then-branch : goal.returns-then-branch
returns-then-branch c =
    all_of_front (devices_in c.args.space.now) c.args.a c.front_of-a.result c.end_of.result c.args.met.now.items c.follow_whole.new.met.items c.front_of-a.ensures.front c.end_of.ensures.past (c.in_ok-follow_whole.ensures.yes c.if-branch.true)

pub returns : goal.returns
returns c =
    let ds = devices_in c.args.space.now in
    let same = (c.in_ok-follow_whole.ensures.no c.if-branch.false).1 in
    on_ok c.follow_units.result (LeadsOn ds c.front_of-a.result c.follow_whole.new.met.items c.follow_units.new.met.items) (LeadsOn ds c.args.a c.args.met.now.items c.follow_units.new.met.items)
    (λ more. all_of_front ds c.args.a c.front_of-a.result c.end_of.result c.args.met.now.items c.follow_units.new.met.items c.front_of-a.ensures.front c.end_of.ensures.past (subst (λ (old : List Visited). LeadsOn ds c.front_of-a.result old c.follow_units.new.met.items) same more))
    c.follow_units.ensures
