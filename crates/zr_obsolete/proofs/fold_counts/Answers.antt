use Rattle.std.proofs.Common.{◌≡◌, ◌<◌, ◌∙◌, length, get_or, arith, ap}
use Rattle.std.proofs.lemmas.List.{get_or_default}
use Rattle.zr_base.specs.declared.space.Entry.{Entry}
use Rattle.zr_rules.specs.Condense.{fresh_units}
use Rattle.zr_obsolete.proofs.fold_counts.Goals as goal

pub overflow_add-index_mut : goal.overflow_add-index_mut
overflow_add-index_mut c =
    let here : c.loop-i.i < length c.loop-i.counts.items = omega (arith, c.loop-i.invariant.count, c.len-i-end.ensures.count) in
    let i_in : c.loop-i.i < length c.args.map.now.entries = omega (arith, c.len-i-end.ensures.count) in
    let now : c.index_mut.result.now ≡ get_or c.args.counts.now.items c.loop-i.i 0 =
    c.index_mut.ensures.value ∙ get_or_default c.loop-i.counts.items c.loop-i.i c.index_mut.result.now 0 here ∙ c.loop-i.invariant.rest c.loop-i.i (omega arith) in
    let fits = c.requires.fits c.loop-i.i i_in in
    let added = c.fresh_in-added.ensures.units ∙ ap (λ (e : Entry). fresh_units c.args.fresh.now.extents e) c.entry.ensures.value in
    let len = ap (λ (e : Entry). e.len) c.entry.ensures.value in
    omega (arith, now, fits, added, len, c.entry.ensures.lawful.short)
