use Rattle.std.proofs.Common.{◌≡◌, ℕ, false, map, refl, sym, subst}
use Rattle.zr_rules.specs.Places.{is_leaving, state_of_dev}
use Rattle.zr_rules.specs.Space.{Space}
use Rattle.zr_space.specs.Views.{part_in}
use Rattle.zr_space.proofs.Keeps.{no_leaving_space}
use Rattle.zr_space.proofs.space.Space.discard.Goals as goal

pub invariant_of-self : goal.invariant_of-self
invariant_of-self c =
    let stays : (d : ℕ) → is_leaving (state_of_dev (map part_in c.self.inside.devs.items) d) ≡ false = subst (λ (s : Space). (d : ℕ) → is_leaving (state_of_dev s.parts.devs d) ≡ false) (sym c.self.view_is) c.requires.stays in
    no_leaving_space c.self.inside.whole _ c.self.inside.slabs c.self.inside.devs.items c.self.invariant stays refl
