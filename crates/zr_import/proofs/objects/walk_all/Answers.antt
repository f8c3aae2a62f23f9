use Rattle.std.proofs.Common.{rules, false, ◌∙◌, ◌<◌, length, sym, ap, subst, refl, arith}
use Rattle.std.specs.Prelude.{All}
use Rattle.std.specs.List.{flat_map}
use Rattle.std.proofs.lemmas.List.{take_all}
use Rattle.std.proofs.lemmas.List.Elements.{All-more}
use Rattle.zr_bptr.specs.declared.ObjRec.{ObjRec}
use Rattle.zr_tree.specs.Trees.{tree_reach}
use Rattle.zr_image.specs.Roots.{HasRootSize}
use Rattle.zr_import.specs.Directories.{objects_in, HasItsLength}
use Rattle.zr_import.specs.declared.walks.Kept.TheVariants.{Pointers}
use Rattle.zr_import.specs.declared.walks.Shape.{Shape}
use Rattle.zr_import.proofs.Marking.{marks_more}
use Rattle.zr_import.proofs.Directory.{all_marked, met_all}
use Rattle.zr_import.proofs.Places.{in_place}
use Rattle.zr_import.proofs.objects.walk_all.Goals as goal

pub loop-r-preserved : goal.loop-r-preserved
loop-r-preserved g c =
    let inv = c.loop-r.invariant in
    let items = c.deref-r-items.result.now in
    let i = c.loop-r.r-index in
    let lt : i < length items = omega arith in
    record {
      follows = search rules;
      costs = search rules;
      same = search rules;
      marks = λ s holds. marks_more g.M.Mark.marks c.args.txg (λ (r : ObjRec). tree_reach s r.tree) items i _ _ _ _ lt (inv.marks s holds) (c.in_ok-walk_object.ensures.marks s (inv.same s holds));
      sized = λ s holds. All-more (HasItsLength s) items i _ lt (inv.sized s holds) (c.in_ok-walk_object.ensures.length s (inv.same s holds));
    }

pub returns-clause-marks : goal.returns-clause-marks
returns-clause-marks g c = λ s holds.
    let there = c.in_ok-walk_tree.ensures.same s holds in
    let slice = met_all s c.args.dir.now _ _ _ c.requires.first (c.in_ok-walk_tree.ensures.met s holds (λ is. cc)) c.as_slice.ensures.value in
    all_marked g.M.Mark.marks s c.args.dir.now c.args.txg c.loop-r.r-index _ _ _ _ _ _ (c.in_ok-walk_tree.ensures.marks s holds) slice
    (c.in_ok-objects.ensures.objects s there) c.deref-r-items.ensures.value c.loop-r-test.false (c.loop-r.invariant.marks s holds)

pub returns-clause-place : goal.returns-clause-place
returns-clause-place g c = λ s holds.
    let there = c.in_ok-walk_tree.ensures.same s holds in
    let slice = met_all s c.args.dir.now _ _ _ c.requires.first (c.in_ok-walk_tree.ensures.met s holds (λ is. cc)) c.as_slice.ensures.value in
    let items = c.deref-r-items.result.now in
    let all = subst (All (HasItsLength s)) (take_all c.loop-r.r-index items c.loop-r-test.false) (c.loop-r.invariant.sized s holds) in
    let shape : Shape = record { txg = c.args.txg; leaf_units = 1; leaves = 4096; full = false; kept = Pointers } in
    in_place s shape c.args.dir.now items refl (c.in_ok-walk_tree.ensures.sound s holds) (c.in_ok-walk_tree.ensures.stand s holds)
    (c.deref-r-items.ensures.value ∙ c.in_ok-objects.ensures.objects s there ∙ ap (flat_map (objects_in s)) slice) all

pub walk_object-requires-clause-sized : goal.walk_object-requires-clause-sized
walk_object-requires-clause-sized g c =
    let all = subst (All HasRootSize) (sym c.deref-r-items.ensures.value) c.in_ok-objects.ensures.sized in
    all c.loop-r.r-index _ c.loop-r-test.true
