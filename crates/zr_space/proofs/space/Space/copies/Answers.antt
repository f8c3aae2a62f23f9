use Rattle.std.proofs.Common.{◌≡◌, ◌∙◌, ◌<◌, length, sym, ap, subst, arith}
use Rattle.std.proofs.lemmas.List.{length-map}
use Rattle.zr_base.specs.Extents.{has_unit}
use Rattle.zr_rules.specs.Roles.{is_copy_role}
use Rattle.zr_rules.specs.Space.{Space, role_at}
use Rattle.zr_space.specs.Views.{Kept, kept_of, part_in, space_of}
use Rattle.zr_space.proofs.Views.{kept_read}
use Rattle.zr_space.proofs.MetaRuns.{copies_are}
use Rattle.zr_space.proofs.space.Space.copies.Goals as goal

pub returns : goal.returns
returns c = λ u.
    let devs = c.self.inside.devs.items in
    let dev = c.args.dev in
    let k : Kept = record { row = c.behind-self.inside.row; uses = c.behind-self.inside.units; moves = c.behind-self.inside.moves } in
    let known : dev < length (space_of c.self.inside.whole devs).parts.devs = subst (λ (s : Space). dev < length s.parts.devs) (sym c.self.view_is) c.requires in
    let there : dev < length devs = let e = length-map devs part_in in omega (arith, known, e) in
    let is : k ≡ kept_of devs dev = c.behind-self.view_is ∙ kept_read devs dev c.index.result.now there c.index.ensures in
    let has : has_unit c.copies.result.now.extents u ≡ has_unit (kept_of devs dev).uses.copies u = ap (λ es. has_unit es u) c.copies.ensures ∙ ap (λ (z : Kept). has_unit z.uses.copies u) is in
    subst (λ (s : Space). has_unit c.copies.result.now.extents u ≡ is_copy_role (role_at s dev u)) c.self.view_is
    (has ∙ copies_are c.self.inside.whole c.self.inside.slabs devs dev u c.self.invariant)
