use Rattle.std.proofs.Common.{◌≡◌, ◌+◌, min, length, ap, arith}
use Rattle.zr_base.specs.declared.space.CondPart.{CondPart}
use Rattle.zr_condense.proofs.Stepping.{next_worked, next_count}
use Rattle.zr_condense.proofs.Condense.step.Goals as goal

pub returns-clause-next : goal.returns-clause-next
returns-clause-next c = λ n.
    let i = c.loop-self.invariant in
    let was = ap (λ (v : CondPart). v.at) c.self.view_is in
    let now = ap (λ (v : CondPart). v.at) c.self-in-loop-self.view_is in
    let at : c.loop-self.self.at ≡ min (c.args.self.now.at + 64) (length c.args.map.now.entries) = omega (arith, i.to, c.loop-self-test.false, c.min.ensures, c.len.ensures.count, was, now, n) in
    next_worked c.args.map.now.entries c.args.counts.now c.args.self.now c.loop-self.self c.requires.worked i.worked c.requires.count at i.dev

pub returns-clause-stay : goal.returns-clause-stay
returns-clause-stay c = λ n.
    let i = c.loop-self.invariant in
    let was = ap (λ (v : CondPart). v.at) c.self.view_is in
    let now = ap (λ (v : CondPart). v.at) c.self-in-loop-self.view_is in
    let at : c.loop-self.self.at ≡ min (c.args.self.now.at + 64) (length c.args.map.now.entries) = omega (arith, i.to, c.loop-self-test.false, c.min.ensures, c.len.ensures.count, was, now, n) in
    next_count c.args.map.now.entries c.args.counts.now c.args.self.now c.loop-self.self c.requires.worked i.worked c.requires.count at c.loop-self.kept i.kept_is
