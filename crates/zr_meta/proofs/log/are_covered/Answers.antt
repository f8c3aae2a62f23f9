use Rattle.std.proofs.Common.{take, get_or, subst, sym}
use Rattle.std.specs.List.{AllByRecursion}
use Rattle.std.proofs.lemmas.Grind.{take_at_read}
use Rattle.zr_base.specs.declared.space.Extent.{Extent}
use Rattle.zr_base.specs.Extents.{HasAll}
use Rattle.zr_bptr.proofs.Pieces.{each_more}
use Rattle.zr_meta.proofs.log.are_covered.Goals as goal

abbrev nil : Extent
nil = record { start = 0; len = 0 }

pub loop-e-preserved : goal.loop-e-preserved
loop-e-preserved c =
    subst (AllByRecursion (HasAll c.args.set.now.extents)) (sym (take_at_read c.args.extents.now c.loop-e.e-index nil c.loop-e-test.true).1)
    (each_more (HasAll c.args.set.now.extents) (take c.loop-e.e-index c.args.extents.now) (get_or c.args.extents.now c.loop-e.e-index nil) c.loop-e.invariant (c.covers.ensures.0 c.if-not-covers.false))
