use Rattle.std.proofs.Common.{◌/◌, ◌<◌, length, ap, arith, ◌∙◌, sym, List, Vec, Global}
use Rattle.std.specs.List.{flat_map}
use Rattle.std.proofs.lemmas.Result.{err_from_is_err_and}
use Rattle.zr_bptr.specs.declared.Ptr.{Ptr}
use Rattle.zr_tree.specs.Trees.{own}
use Rattle.zr_root.proofs.Reading.{form_from, form_bad, among_at, within_same, level_bad, level_count, level_has}
use Rattle.zr_root.proofs.down.read_level.Goals as goal

pub returns-in_err-pointers-clause-errors : goal.returns-in_err-pointers-clause-errors
returns-in_err-pointers-clause-errors g c = λ s held.
    let e = c.in_err-pointers in
    let x = c.from_residual in
    form_from {T = Vec Ptr Global} s c.args.tops.now c.args.tops.now _ _ x.result e.field-0.0 (err_from_is_err_and x.result x.ensures.1) (within_same c.args.tops.now) (λ b no bs count has. no has.whole) (e.ensures.errors s held)

pub returns-in-Some-clause-errors : goal.returns-in-Some-clause-errors
returns-in-Some-clause-errors g c = λ s held.
    let len = ap (λ (ps : List Ptr). length ps) c.as_slice.ensures.value in
    let j = c.in-Some.j in
    let lt : j / 32 < length c.args.tops.now = omega (arith, len, c.in_ok-pointers.ensures.count, c.in-Some.ensures.within) in
    let reads = c.in_ok-pointers.ensures.reads s held in
    form_bad s c.args.tops.now _ _ (among_at c.args.tops.now (j / 32) _ lt) (reads.whole (j / 32) _ lt).checksum (level_bad s c.args.below c.args.n c.args.tops.now c.in_ok-pointers.pointers.items c.as_slice.result.now c.as_slice.ensures.value c.in-Some.ensures.cut reads)

pub returns-clause-count : goal.returns-clause-count
returns-clause-count g c =
    let bs_are = c.in_ok-blocks_in.ensures ∙ ap (flat_map own) (c.as_slice-2.ensures.value ∙ sym c.as_slice.ensures.value) in
    (level_count c.args.below c.args.n c.in_ok-blocks_in.field-0.items (length c.args.tops.now) c.in_ok-pointers.pointers.items c.as_slice.result.now c.as_slice.ensures.value c.requires.count c.in_ok-pointers.ensures.count c.in_ok-pointers.ensures.fit c.in_default.ensures.cut bs_are).0

pub returns-clause-units : goal.returns-clause-units
returns-clause-units g c =
    let bs_are = c.in_ok-blocks_in.ensures ∙ ap (flat_map own) (c.as_slice-2.ensures.value ∙ sym c.as_slice.ensures.value) in
    (level_count c.args.below c.args.n c.in_ok-blocks_in.field-0.items (length c.args.tops.now) c.in_ok-pointers.pointers.items c.as_slice.result.now c.as_slice.ensures.value c.requires.count c.in_ok-pointers.ensures.count c.in_ok-pointers.ensures.fit c.in_default.ensures.cut bs_are).1

pub returns-clause-level : goal.returns-clause-level
returns-clause-level g c = λ s held.
    let bs_are = c.in_ok-blocks_in.ensures ∙ ap (flat_map own) (c.as_slice-2.ensures.value ∙ sym c.as_slice.ensures.value) in
    level_has s c.args.below c.args.n c.args.tops.now c.in_ok-blocks_in.field-0.items c.in_ok-pointers.pointers.items c.as_slice.result.now c.as_slice.ensures.value c.requires.count c.in_ok-pointers.ensures.count c.in_ok-pointers.ensures.fit c.in_default.ensures.cut bs_are (c.in_ok-pointers.ensures.reads s held)
