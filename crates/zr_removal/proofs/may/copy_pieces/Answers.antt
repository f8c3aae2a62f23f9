use Rattle.std.proofs.Common.{◌+◌, ap, arith}
use Rattle.std.specs.Int.{div_ceil}
use Rattle.std.proofs.lemmas.List.Sums.{sum_by-cons}
use Rattle.zr_base.specs.declared.space.Extent.{Extent}
use Rattle.zr_paged.proofs.Walking.{above, cut_above, all_above, next_part, none_above}
use Rattle.zr_removal.specs.Devices.{copy_pieces}
use Rattle.zr_removal.proofs.Few.{pieces_few}
use Rattle.zr_removal.proofs.may.copy_pieces.Goals as goal

pub loop-part-init : goal.loop-part-init
loop-part-init c = record {
  cut = cut_above 0 0 c.args.set.now.extents c.first-lowest.ensures.maximal (omega arith);
  to = omega arith;
  so_far = let is = ap copy_pieces (all_above 0 0 c.args.set.now.extents c.first-lowest.ensures.maximal (omega arith)) in omega (arith, is);
}

pub overflow_add-pieces : goal.overflow_add-pieces
overflow_add-pieces c =
    let es = c.args.set.now.extents in
    let next = next_part 0 c.loop-part.at es c.in-Some.part c.first-lowest.ensures.maximal c.loop-part.invariant.cut c.in-Some.ensures.some in
    let is = ap copy_pieces next.here in
    let more = sum_by-cons (λ (e : Extent). div_ceil e.len 256) c.in-Some.part (above (c.in-Some.part.start + c.in-Some.part.len) es) in
    let most = pieces_few es in
    omega (arith, is, more, most, c.loop-part.invariant.so_far, c.div_ceil-pieces.ensures, c.units-units.ensures.units, c.units-units.ensures.bound)

pub overflow_add-at : goal.overflow_add-at
overflow_add-at c =
    let next = next_part 0 c.loop-part.at c.args.set.now.extents c.in-Some.part c.first-lowest.ensures.maximal c.loop-part.invariant.cut c.in-Some.ensures.some in
    omega (arith, next.bound)

pub loop-part-smaller : goal.loop-part-smaller
loop-part-smaller c =
    let next = next_part 0 c.loop-part.at c.args.set.now.extents c.in-Some.part c.first-lowest.ensures.maximal c.loop-part.invariant.cut c.in-Some.ensures.some in
    omega (arith, next.bound, next.some, next.from)

pub loop-part-preserved : goal.loop-part-preserved
loop-part-preserved c =
    let es = c.args.set.now.extents in
    let next = next_part 0 c.loop-part.at es c.in-Some.part c.first-lowest.ensures.maximal c.loop-part.invariant.cut c.in-Some.ensures.some in
    let is = ap copy_pieces next.here in
    let more = sum_by-cons (λ (e : Extent). div_ceil e.len 256) c.in-Some.part (above (c.in-Some.part.start + c.in-Some.part.len) es) in
    record {
      cut = next.cut;
      to = next.bound;
      so_far = omega (arith, is, more, c.loop-part.invariant.so_far, c.div_ceil-pieces.ensures);
    }

pub returns-clause-pieces : goal.returns-clause-pieces
returns-clause-pieces c =
    let none = ap copy_pieces (none_above 0 c.loop-part.at c.args.set.now.extents c.first-lowest.ensures.maximal c.in_default.ensures.none) in
    omega (arith, none, c.loop-part.invariant.so_far)

pub returns-clause-few : goal.returns-clause-few
returns-clause-few c =
    let none = ap copy_pieces (none_above 0 c.loop-part.at c.args.set.now.extents c.first-lowest.ensures.maximal c.in_default.ensures.none) in
    let most = pieces_few c.args.set.now.extents in
    omega (arith, none, most, c.loop-part.invariant.so_far)
