use Rattle.std.proofs.Common.{◌≡◌, ◌∙◌, ◌++◌, List, ap}
use Rattle.zr_chain.specs.declared.visit.Visited.{Visited}
use Rattle.zr_rules.specs.Equation.{devices_in}
use Rattle.zr_audit.proofs.Leading.{followed}
use Rattle.zr_audit.proofs.ends.follow_whole.Goals as goal

pub returns-in-Ok-clause-yes : goal.returns-in-Ok-clause-yes
returns-in-Ok-clause-yes c = λ yes.
    let after : c.extend_from_slice.new.self.items ≡ c.args.met.now.items ++ c.as_slice.result.now = c.in_ok-extend_from_slice-in-Ok.ensures.items in
    followed (devices_in c.args.space.now) c.args.a c.new-told.result.list.items c.remap.new.v.list.items c.args.met.now.items c.extend_from_slice.new.self.items c.in-Ok.ensures.resolved c.new-told.ensures c.in-Ok.ensures.visits
    (after ∙ ap (λ (vs : List Visited). c.args.met.now.items ++ vs) c.as_slice.ensures.value)
