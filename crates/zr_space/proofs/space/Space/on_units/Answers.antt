use Rattle.std.proofs.Common.{◌≡◌, ◌∙◌, List, ap, subst, sym}
use Rattle.zr_rules.specs.Space.{Space}
use Rattle.zr_rules.specs.Columns.{on_units}
use Rattle.zr_space.specs.Views.{Kept}
use Rattle.zr_space.specs.Totals.{AreFew, serving_units}
use Rattle.zr_space.proofs.Sizing.{are_few}
use Rattle.zr_space.proofs.Totalling.{on_units_are}
use Rattle.zr_space.proofs.space.Space.on_units.Goals as goal

pub returns-clause-units : goal.returns-clause-units
returns-clause-units c =
    subst (λ (s : Space). c.units.result ≡ on_units s) c.self.view_is
    (c.units.ensures.units ∙ (ap (λ (xs : List Kept). serving_units xs) c.as_slice.ensures.value ∙ on_units_are c.self.inside.whole c.self.inside.slabs c.self.inside.devs.items c.self.invariant))

pub units-requires : goal.units-requires
units-requires c = subst AreFew (sym c.as_slice.ensures.value) (are_few c.self.inside.whole c.self.inside.slabs c.self.inside.devs.items c.self.invariant)
