use Rattle.std.proofs.Common.{◌≡◌, ◌+◌, true, false, sym, refl, arith, ◌∙◌}
use Rattle.std.proofs.lemmas.Bool.Decides.{nat_tests}
use Rattle.zr_base.specs.Extents.{in_extent}
use Rattle.zr_imap.specs.Searches.{IsImage, MissesUnit}
use Rattle.zr_space.proofs.Passing.{image_entries}
use Rattle.zr_judge.proofs.mappings.has_entries.Goals as goal

false_true : false ≡ true → ⊥
false_true e = cc

pub returns : goal.returns
returns c = (
  λ _.
      let image : IsImage c.args.map.now.entries c.args.e c.in-Some._parts.items = rw c.in-Some.is at c.in_ok-_parts.ensures.found in
      image_entries c.args.map.now.entries c.args.e c.in-Some._parts.items image,
  λ _. refl,
)

pub returns-in_default : goal.returns-in_default
returns-in_default c = (
  λ yes. absurd (false_true yes),
  λ all.
      let gap : MissesUnit c.args.map.now.entries c.args.e = rw c.in_default.is at c.in_ok-_parts.ensures.found in
      let lt = gap.within in
      let at : in_extent c.args.e (c.args.e.start + gap.place) ≡ true = grind (arith, nat_tests, lt) in
      absurd (false_true (sym gap.missing ∙ all (c.args.e.start + gap.place) at)),
)
