use Rattle.std.proofs.Common.{rules, [], ◌∷◌, ◌+◌, ◌^◌, ◌<◌, arith}
use Rattle.std.specs.Prelude.{slice_index_or}
use Rattle.zr_imap.specs.declared.image.Piece.{Piece as Part}
use Rattle.zr_chain.specs.Visits.{PassesGap}
use Rattle.zr_chain.proofs.Ranks.{later_count}
use Rattle.zr_chain.proofs.Parts.{no_piece, IsPartOf, IsHop, part_at, hop_of, gap_below, follows_more, follows_told}
use Rattle.zr_chain.specs.Visits.{Begins}
use Rattle.zr_chain.proofs.Begun.{begins_part}
use Rattle.zr_chain.proofs.remap.+visit.Goals as goal

pub overflow_add-part : goal.overflow_add-part
overflow_add-part g t c =
    let ds = g.M.Maps.devices c.args.devs.now in
    let hop : IsHop ds c.args.p c.deref-part-items.result.now _ _ = hop_of ds c.args.p _ c.deref-part-items.result.now c.loop-part.part-index _ _ c.in_ok-parts.ensures.told c.deref-part-items.ensures.value c.loop-part-test.true in
    let part : IsPartOf ds c.args.p (slice_index_or c.deref-part-items.result.now c.loop-part.part-index no_piece) = part_at ds c.args.p c.deref-part-items.result.now c.loop-part.part-index c.requires.ranked hop.gone hop.image c.loop-part-test.true in
    omega (arith, part.ends, c.requires.bound)

pub visit-requires : goal.visit-requires
visit-requires g t c κs within =
    let ds = g.M.Maps.devices c.args.devs.now in
    let q : Part = slice_index_or c.deref-part-items.result.now c.loop-part.part-index no_piece in
    let hop : IsHop ds c.args.p c.deref-part-items.result.now _ _ = hop_of ds c.args.p _ c.deref-part-items.result.now c.loop-part.part-index _ _ c.in_ok-parts.ensures.told c.deref-part-items.ensures.value c.loop-part-test.true in
    let part : IsPartOf ds c.args.p q = part_at ds c.args.p c.deref-part-items.result.now c.loop-part.part-index c.requires.ranked hop.gone hop.image c.loop-part-test.true in
    let known : q.dev < (g.M.Maps.devices c.args.devs.now).count = part.known in
    let fewer : later_count ds q.dev < later_count ds c.args.p.dev = part.fewer in
    let bound : c.args.p.split + q.split + q.at.len < 2 ^ 64 = omega (arith, part.ends, c.requires.bound) in
    search rules

pub returns-in_err-visit-clause-gap : goal.returns-in_err-visit-clause-gap
returns-in_err-visit-clause-gap g t c =
    let ds = g.M.Maps.devices c.args.devs.now in
    let q : Part = slice_index_or c.deref-part-items.result.now c.loop-part.part-index no_piece in
    let hop : IsHop ds c.args.p c.deref-part-items.result.now _ _ = hop_of ds c.args.p _ c.deref-part-items.result.now c.loop-part.part-index _ _ c.in_ok-parts.ensures.told c.deref-part-items.ensures.value c.loop-part-test.true in
    let part : IsPartOf ds c.args.p q = part_at ds c.args.p c.deref-part-items.result.now c.loop-part.part-index c.requires.ranked hop.gone hop.image c.loop-part-test.true in
    let gap : PassesGap ds c.args.p c.in_err-visit.field-0.0 = gap_below ds c.args.p q c.in_err-visit.field-0.0 c.requires.ranked c.requires.known hop.gone part c.in_err-visit.ensures.gap in
    search rules

pub loop-part-preserved : goal.loop-part-preserved
loop-part-preserved g t c = follows_more (g.M.Maps.devices c.args.devs.now) c.args.p.split c.loop-part.part-index c.deref-part-items.result.now _ _ _ c.loop-part-test.true c.loop-part.invariant c.in_ok-visit.ensures.visits

pub returns-clause-visits : goal.returns-clause-visits
returns-clause-visits g t c =
    follows_told (g.M.Maps.devices c.args.devs.now) c.args.p _ c.deref-part-items.result.now c.loop-part.part-index _ _ _ c.in_ok-parts.ensures.told c.deref-part-items.ensures.value c.loop-part-test.false c.loop-part.invariant

pub returns-in_err-visit-clause-front : goal.returns-in_err-visit-clause-front
returns-in_err-visit-clause-front g t c =
    let ds = g.M.Maps.devices c.args.devs.now in
    let hop : IsHop ds c.args.p c.deref-part-items.result.now _ _ = hop_of ds c.args.p _ c.deref-part-items.result.now c.loop-part.part-index _ _ c.in_ok-parts.ensures.told c.deref-part-items.ensures.value c.loop-part-test.true in
    let begun : Begins ds (c.args.p ∷ []) _ _ = begins_part ds c.args.p c.deref-part-items.result.now c.loop-part.part-index _ _ _ _ hop c.loop-part-test.true c.loop-part.invariant c.in_err-visit.ensures.front in
    search rules
