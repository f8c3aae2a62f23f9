use Rattle.std.proofs.Common.{◌≡◌, ◌∙◌, List, ap, subst, sym}
use Rattle.zr_rules.specs.Space.{Space}
use Rattle.zr_space.specs.Views.{Kept}
use Rattle.zr_space.specs.Totals.{AreFew, total_by, kept_in, kept_units}
use Rattle.zr_space.proofs.Sizing.{are_few}
use Rattle.zr_space.proofs.Totalling.{kept_total}
use Rattle.zr_space.proofs.space.Space.kept_units.Goals as goal

pub returns : goal.returns
returns c =
    subst (λ (s : Space). c.kept.result ≡ kept_units s) c.self.view_is
    (c.kept.ensures ∙ (ap (λ (xs : List Kept). total_by kept_in xs) c.as_slice.ensures.value ∙ kept_total c.self.inside.devs.items))

pub kept-requires : goal.kept-requires
kept-requires c = subst AreFew (sym c.as_slice.ensures.value) (are_few c.self.inside.whole c.self.inside.slabs c.self.inside.devs.items c.self.invariant)
