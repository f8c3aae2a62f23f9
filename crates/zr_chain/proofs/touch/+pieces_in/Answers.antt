use Rattle.std.proofs.Common.{◌≡◌, ◌+◌, ◌-◌, ◌*◌, ◌^◌, ◌<◌, ◌≤◌, ℕ, max, true, false, List, take, sum_by, sym, ap, ◌∙◌, arith}
use Rattle.zr_base.specs.declared.space.DevRow.{DevRow}
use Rattle.zr_base.specs.declared.space.Entry.{Entry}
use Rattle.zr_base.specs.declared.space.Extent.{Extent}
use Rattle.zr_rules.specs.Places.{is_gone, is_leaving}
use Rattle.zr_rules.specs.Devices.{Devices, state_at}
use Rattle.zr_rules.specs.Mappings.{entry_at}
use Rattle.zr_rules.specs.Steps.{pieces, moved_part}
use Rattle.zr_chain.proofs.Counted.{term, IsRow, row_of, more_hops, leaving_pieces, few_pieces, in_order, at_first, at_next, at_end, stays_few}
use Rattle.zr_chain.proofs.Touched.{pieces_at}
use Rattle.zr_chain.proofs.touch.+pieces_in.Goals as goal

pub overflow_sub-result : goal.overflow_sub-result
overflow_sub-result g t c =
    let ds = g.M.Maps.devices c.args.devs.now in
    let row : IsRow (ds.entries c.args.dev) c.args.e.start c.args.e.len c.ended_by.result c.begun_before.result = row_of c.map-map.result.now.entries _ _ _ _ _ c.map-map.ensures c.ended_by.ensures c.begun_before.ensures in
    in_order (ds.entries c.args.dev) c.args.e.start c.args.e.len c.ended_by.result c.begun_before.result row (c.requires.rising c.args.dev)

pub overflow_add-result : goal.overflow_add-result
overflow_add-result g t c =
    let ds = g.M.Maps.devices c.args.devs.now in
    let there : is_gone (state_at ds c.args.dev) ≡ false = ap (λ (r : DevRow). is_gone r.state) (sym c.row.ensures) ∙ ap is_gone c.in-Leaving.is in
    let leaves : is_leaving (state_at ds c.args.dev) ≡ true = ap (λ (r : DevRow). is_leaving r.state) (sym c.row.ensures) ∙ ap is_leaving c.in-Leaving.is in
    let row : IsRow (ds.entries c.args.dev) c.args.e.start c.args.e.len c.ended_by.result c.begun_before.result = row_of c.map-map.result.now.entries _ _ _ _ _ c.map-map.ensures c.ended_by.ensures c.begun_before.ensures in
    let is = leaving_pieces (c.args.hops - 1) ds c.args.dev c.args.e.start c.args.e.len c.ended_by.result c.begun_before.result there leaves (c.requires.rising c.args.dev) row in
    let more = more_hops c.args.hops ds c.args.dev c.args.e.start c.args.e.len c.if-hops-eq0.false in
    let few = few_pieces c.args.hops ds c.args.dev c.args.e.start c.args.e.len c.requires.rising c.requires.few in
    omega (arith, is, more, few, c.requires.short)

pub loop-i-init : goal.loop-i-init
loop-i-init g t c =
    let ds = g.M.Maps.devices c.args.devs.now in
    let gone : is_gone (state_at ds c.args.dev) ≡ true = ap (λ (r : DevRow). is_gone r.state) (sym c.row.ensures) ∙ ap is_gone c.in-Gone.is in
    let row : IsRow (ds.entries c.args.dev) c.args.e.start c.args.e.len c.ended_by-i.result c.begun_before-i-end.result = row_of c.map-map-in-Gone.result.now.entries _ _ _ _ _ c.map-map-in-Gone.ensures c.ended_by-i.ensures c.begun_before-i-end.ensures in
    at_first ds (c.args.hops - 1) c.args.dev c.args.e.start c.args.e.len c.ended_by-i.result c.begun_before-i-end.result c.requires.rising gone row

pub overflow_add-pieces : goal.overflow_add-pieces
overflow_add-pieces g t c =
    let ds = g.M.Maps.devices c.args.devs.now in
    let gone : is_gone (state_at ds c.args.dev) ≡ true = ap (λ (r : DevRow). is_gone r.state) (sym c.row.ensures) ∙ ap is_gone c.in-Gone.is in
    let row : IsRow (ds.entries c.args.dev) c.args.e.start c.args.e.len c.ended_by-i.result c.begun_before-i-end.result = row_of c.map-map-in-Gone.result.now.entries _ _ _ _ _ c.map-map-in-Gone.ensures c.ended_by-i.ensures c.begun_before-i-end.ensures in
    let next = at_next ds (c.args.hops - 1) c.args.dev c.args.e.start c.args.e.len c.ended_by-i.result c.begun_before-i-end.result c.requires.rising gone row c.loop-i.pieces c.loop-i.i c.loop-i.invariant c.loop-i.auto.i c.loop-i-test.true in
    let few = stays_few ds (c.args.hops - 1) c.args.dev c.args.e.start c.args.e.len c.ended_by-i.result c.begun_before-i-end.result c.requires.rising gone row (c.loop-i.i + 1) (omega (arith, c.if-hops-eq0.false, c.requires.few)) in
    let entry : c.entry-entry.result ≡ entry_at (ds.entries c.args.dev) c.loop-i.i = c.entry-entry.ensures.value ∙ ap (λ (es : List Entry). entry_at es c.loop-i.i) c.map-map-in-Gone.ensures in
    let part : c.pieces_in-pieces.result ≡ pieces_at (c.args.hops - 1) ds (moved_part c.args.e.start c.args.e.len (entry_at (ds.entries c.args.dev) c.loop-i.i)) =
    c.pieces_in-pieces.ensures.pieces ∙ (ap (λ (p : Extent). pieces (c.args.hops - 1) ds c.entry-entry.result.dev p.start p.len) c.part_by.ensures.part ∙ ap (λ (e : Entry). pieces_at (c.args.hops - 1) ds (moved_part c.args.e.start c.args.e.len e)) entry) in
    omega (arith, next, few, part, c.requires.short)

pub returns-in-Leaving-clause-pieces : goal.returns-in-Leaving-clause-pieces
returns-in-Leaving-clause-pieces g t c =
    let ds = g.M.Maps.devices c.args.devs.now in
    let there : is_gone (state_at ds c.args.dev) ≡ false = ap (λ (r : DevRow). is_gone r.state) (sym c.row.ensures) ∙ ap is_gone c.in-Leaving.is in
    let leaves : is_leaving (state_at ds c.args.dev) ≡ true = ap (λ (r : DevRow). is_leaving r.state) (sym c.row.ensures) ∙ ap is_leaving c.in-Leaving.is in
    let row : IsRow (ds.entries c.args.dev) c.args.e.start c.args.e.len c.ended_by.result c.begun_before.result = row_of c.map-map.result.now.entries _ _ _ _ _ c.map-map.ensures c.ended_by.ensures c.begun_before.ensures in
    sym (more_hops c.args.hops ds c.args.dev c.args.e.start c.args.e.len c.if-hops-eq0.false
    ∙ leaving_pieces (c.args.hops - 1) ds c.args.dev c.args.e.start c.args.e.len c.ended_by.result c.begun_before.result there leaves (c.requires.rising c.args.dev) row)

pub returns-in-Leaving-clause-few : goal.returns-in-Leaving-clause-few
returns-in-Leaving-clause-few g t c =
    let ds = g.M.Maps.devices c.args.devs.now in
    let is = returns-in-Leaving-clause-pieces g t c in
    let few = few_pieces c.args.hops ds c.args.dev c.args.e.start c.args.e.len c.requires.rising c.requires.few in
    omega (arith, is, few)

pub returns-after-loop-i-clause-pieces : goal.returns-after-loop-i-clause-pieces
returns-after-loop-i-clause-pieces g t c =
    let ds = g.M.Maps.devices c.args.devs.now in
    let gone : is_gone (state_at ds c.args.dev) ≡ true = ap (λ (r : DevRow). is_gone r.state) (sym c.row.ensures) ∙ ap is_gone c.in-Gone.is in
    let row : IsRow (ds.entries c.args.dev) c.args.e.start c.args.e.len c.ended_by-i.result c.begun_before-i-end.result = row_of c.map-map-in-Gone.result.now.entries _ _ _ _ _ c.map-map-in-Gone.ensures c.ended_by-i.ensures c.begun_before-i-end.ensures in
    let order = in_order (ds.entries c.args.dev) c.args.e.start c.args.e.len c.ended_by-i.result c.begun_before-i-end.result row (c.requires.rising c.args.dev) in
    let last : c.loop-i.i ≡ c.begun_before-i-end.result = omega (arith, order) in
    let end = at_end ds (c.args.hops - 1) c.args.dev c.args.e.start c.args.e.len c.ended_by-i.result c.begun_before-i-end.result c.requires.rising gone row in
    c.loop-i.invariant ∙ (ap (λ (i : ℕ). 1 + sum_by (term c.args.e.start c.args.e.len (pieces_at (c.args.hops - 1) ds)) (take i (ds.entries c.args.dev))) last
    ∙ (sym end ∙ sym (more_hops c.args.hops ds c.args.dev c.args.e.start c.args.e.len c.if-hops-eq0.false)))

pub returns-after-loop-i-clause-few : goal.returns-after-loop-i-clause-few
returns-after-loop-i-clause-few g t c =
    let ds = g.M.Maps.devices c.args.devs.now in
    let is = returns-after-loop-i-clause-pieces g t c in
    let few = few_pieces c.args.hops ds c.args.dev c.args.e.start c.args.e.len c.requires.rising c.requires.few in
    omega (arith, is, few)
