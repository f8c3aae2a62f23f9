use Rattle.std.proofs.Common.{Some, refl, sym, subst}
use Rattle.zr_rules.specs.Space.{Space}
use Rattle.zr_space.specs.Condensing.{IsUnderWay}
use Rattle.zr_space.proofs.Condensing.{cond_space, condensing_of}
use Rattle.zr_space.specs.Views.{space_of}
use Rattle.zr_space.proofs.CondenseRoot.{cond_root}
use Rattle.zr_space.proofs.space.Space.put_back.Goals as goal

pub invariant_of-self : goal.invariant_of-self
invariant_of-self c =
    cond_space c.self.inside.whole c.self.inside.slabs c.self.inside.devs.items (Some c.args.cond) c.self.invariant
    (condensing_of c.self.inside.whole c.self.inside.devs.items c.args.cond (subst (λ (s : Space). IsUnderWay s c.args.cond) (sym c.self.view_is) c.requires.under_way))

pub returns-clause-root : goal.returns-clause-root
returns-clause-root c = rw (← c.self.view_is) (cond_root (space_of c.self.inside.whole c.self.inside.devs.items) _ (Some c.args.cond) refl)
