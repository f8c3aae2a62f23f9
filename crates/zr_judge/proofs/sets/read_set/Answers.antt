use Rattle.std.proofs.Common.{◌+◌, ◌∷◌, take, drop, get_or, List, refl, subst, sym}
use Rattle.std.proofs.lemmas.List.{take_more}
use Rattle.zr_base.specs.declared.space.Extent.{Extent}
use Rattle.zr_units.proofs.SetWords.{drop_first, drop_end}
use Rattle.zr_space.proofs.Reading.{IsReading, reads_more, all_read, take_end}
use Rattle.zr_judge.proofs.sets.read_set.Goals as goal

pub loop-e-preserved : goal.loop-e-preserved
loop-e-preserved c =
    let es = c.args.extents.now in
    let i = c.loop-e.e-index in
    let no_extent : Extent = record { start = 0; len = 0 } in
    let e : Extent = get_or es i no_extent in
    let next = c.if-not-is_next.ensures.0 refl in
    let here : IsReading (take i es) (e ∷ drop (i + 1) es) es c.args.used.now.extents c.loop-e.used.extents c.loop-e.set.extents c.loop-e.low c.args.units =
    subst (λ (rest : List Extent). IsReading (take i es) rest es c.args.used.now.extents c.loop-e.used.extents c.loop-e.set.extents c.loop-e.low c.args.units) (drop_first es i c.loop-e-test.true) c.loop-e.invariant in
    subst (λ (front : List Extent). IsReading front (drop (i + 1) es) es c.args.used.now.extents c.add-in-loop-e.new.self.extents c.add.new.self.extents (e.start + e.len + 1) c.args.units) (sym (take_more es i no_extent c.loop-e-test.true))
    (reads_more (take i es) (drop (i + 1) es) es c.args.used.now.extents c.loop-e.used.extents c.loop-e.set.extents c.loop-e.low c.args.units e here
    c.add-in-loop-e.new.self.extents c.add.new.self.extents (e.start + e.len + 1) next.0 next.1 next.2 c.requires (c.if-not-is_apart.ensures.0 refl) c.in_ok-add.ensures.ok c.in_ok-add-2.ensures.ok refl)

pub returns-clause-set : goal.returns-clause-set
returns-clause-set c =
    let es = c.args.extents.now in
    let i = c.loop-e.e-index in
    (all_read (take i es) (drop i es) es c.args.used.now.extents c.loop-e.used.extents c.loop-e.set.extents c.loop-e.low c.args.units c.loop-e.invariant (drop_end es i c.loop-e-test.false) (take_end es i c.loop-e-test.false)).0
