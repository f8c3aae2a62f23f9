use Rattle.std.proofs.Common.{◌≡◌, ◌∙◌, false, true, get_or, take, ap, sym, arith, refl, List}
use Rattle.std.proofs.lemmas.Bool.Decides.{nat_tests}
use Rattle.std.proofs.lemmas.List.{take_more}
use Rattle.zr_base.specs.declared.space.Extent.{Extent}
use Rattle.zr_base.specs.Extents.{has_unit, HasAll}
use Rattle.zr_base.proofs.ExtentSets.{has_unit-at}
use Rattle.zr_space.proofs.Reading.{has_snoc, take_end}
use Rattle.zr_space.proofs.reads.is_among.Goals as goal

false_true : false ≡ true → ⊥
false_true e = cc

no_extent : Extent
no_extent = record { start = 0; len = 0 }

pub loop-e-preserved : goal.loop-e-preserved
unfolding no_extent
loop-e-preserved c = λ u is.
    let es = c.extents-extents.result.now in
    let i = c.loop-e.e-index in
    let all : HasAll c.args.all.now.extents (get_or es i no_extent) = c.if-not-covers.ensures.0 refl in
    let more = ap (λ (xs : List Extent). has_unit xs u) (take_more es i no_extent c.loop-e-test.true) in
    let snoc = has_snoc (take i es) (get_or es i no_extent) u in
    let old = c.loop-e.invariant u in
    let new = all u in
    grind (arith, nat_tests, more, snoc, old, new, is)

pub returns-then-not-covers : goal.returns-then-not-covers
unfolding no_extent
returns-then-not-covers c = (
  (λ yes. absurd (false_true yes)),
  (λ among.
      let es = c.extents-extents.result.now in
      let e : Extent = get_or es c.loop-e.e-index no_extent in
      let all : HasAll c.args.all.now.extents e = λ u at.
      among u (ap (λ (xs : List Extent). has_unit xs u) (sym c.extents-extents.ensures.extents) ∙ has_unit-at c.loop-e.e-index u es no_extent c.loop-e-test.true at) in
      absurd (false_true (c.if-not-covers.ensures.1 all))),
)

pub returns : goal.returns
returns c = (
  (λ yes u is.
      let es = c.extents-extents.result.now in
      let whole = take_end es c.loop-e.e-index (let t = c.loop-e-test.false in omega (arith, t)) in
      c.loop-e.invariant u (ap (λ (xs : List Extent). has_unit xs u) whole ∙ (ap (λ (xs : List Extent). has_unit xs u) c.extents-extents.ensures.extents ∙ is))),
  (λ among. refl),
)
