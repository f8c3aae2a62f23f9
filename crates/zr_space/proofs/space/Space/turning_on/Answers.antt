use Rattle.std.proofs.Common.{◌≡◌, ◌∙◌, ◌<◌, length, sym, ap, subst, arith}
use Rattle.std.proofs.lemmas.List.{length-map}
use Rattle.zr_base.specs.Extents.{unit_count}
use Rattle.zr_rules.specs.Space.{Space}
use Rattle.zr_space.specs.Metadata.{turning_on}
use Rattle.zr_space.specs.Views.{Kept, kept_of, part_in, space_of}
use Rattle.zr_space.proofs.Views.{kept_read}
use Rattle.zr_space.proofs.MetaRuns.{turning_is}
use Rattle.zr_space.proofs.space.Space.turning_on.Goals as goal

pub returns : goal.returns
returns c =
    let devs = c.self.inside.devs.items in
    let dev = c.args.dev in
    let k : Kept = record { row = c.behind-self.inside.row; uses = c.behind-self.inside.units; moves = c.behind-self.inside.moves } in
    let known : dev < length (space_of c.self.inside.whole devs).parts.devs = subst (λ (s : Space). dev < length s.parts.devs) (sym c.self.view_is) c.requires in
    let there : dev < length devs = let e = length-map devs part_in in omega (arith, known, e) in
    let is : k ≡ kept_of devs dev = c.behind-self.view_is ∙ kept_read devs dev c.index.result.now there c.index.ensures in
    let current : c.units.result ≡ unit_count (kept_of devs dev).uses.meta = c.units.ensures.units ∙ (ap (λ es. unit_count es) c.meta.ensures ∙ ap (λ (z : Kept). unit_count z.uses.meta) is) in
    let first : c.units-2.result ≡ unit_count (kept_of devs dev).uses.late1.meta = c.units-2.ensures.units ∙ (ap (λ es. unit_count es) (c.meta-2.ensures ∙ ap (λ f. f.meta) c.late1.ensures) ∙ ap (λ (z : Kept). unit_count z.uses.late1.meta) is) in
    let second : c.units-3.result ≡ unit_count (kept_of devs dev).uses.late2.meta = c.units-3.ensures.units ∙ (ap (λ es. unit_count es) (c.meta-3.ensures ∙ ap (λ f. f.meta) c.late2.ensures) ∙ ap (λ (z : Kept). unit_count z.uses.late2.meta) is) in
    let all = turning_is c.self.inside.whole devs dev in
    let told = ap (λ (s : Space). turning_on s dev) c.self.view_is in
    omega (arith, current, first, second, all, told)
