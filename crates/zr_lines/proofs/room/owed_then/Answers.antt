use Rattle.std.proofs.Common.{List, length, sym, ◌∙◌, ap, subst, arith}
use Rattle.std.specs.Prelude.{All}
use Rattle.zr_bptr.specs.Spelling.{IsPointer}
use Rattle.zr_bptr.specs.declared.Bptr.{Bptr}
use Rattle.zr_change.specs.Changes.{new_in}
use Rattle.zr_change.specs.Plans.{puts_of, olds_of}
use Rattle.zr_change.specs.declared.plans.Planned.{Planned}
use Rattle.zr_lines.specs.Counts.{pieces_in}
use Rattle.zr_rules.specs.Equation.{devices_in}
use Rattle.zr_lines.proofs.Needs.{few_planned, olds_lawful, olds_short, owed_is}
use Rattle.zr_lines.proofs.room.owed_then.Goals as goal

pub pieces_of-requires-clause-lawful : goal.pieces_of-requires-clause-lawful
pieces_of-requires-clause-lawful c =
    let olds = c.as_slice.ensures.value ∙ (c.in_ok-old.ensures ∙ ap olds_of c.as_slice-plan.ensures.value) in
    subst (All IsPointer) (sym olds) (olds_lawful c.args.intent.now.plan.items c.requires.intent.olds)

pub pieces_of-requires-clause-count : goal.pieces_of-requires-clause-count
pieces_of-requires-clause-count c =
    let g = c.args.pool.now.group in
    let i = c.args.intent.now in
    let planned = few_planned g c.args.id i c.requires.intent in
    let old = olds_short i.plan.items in
    let olds = ap (λ (bs : List Bptr). length bs) (c.as_slice.ensures.value ∙ (c.in_ok-old.ensures ∙ ap olds_of c.as_slice-plan.ensures.value)) in
    omega (arith, planned, old, olds)

pub overflow_add-pieces : goal.overflow_add-pieces
overflow_add-pieces c =
    let g = c.args.pool.now.group in
    let i = c.args.intent.now in
    let planned = few_planned g c.args.id i c.requires.intent in
    let old = olds_short i.plan.items in
    let puts = c.puts.ensures.most in
    let pieces = c.pieces_of.ensures.few in
    let olds = ap (λ (bs : List Bptr). length bs) (c.as_slice.ensures.value ∙ (c.in_ok-old.ensures ∙ ap olds_of c.as_slice-plan.ensures.value)) in
    let plan = ap (λ (ps : List Planned). length ps) c.as_slice-plan.ensures.value in
    omega (arith, planned, old, puts, pieces, olds, plan)

pub owed_with-requires-clause-pieces : goal.owed_with-requires-clause-pieces
owed_with-requires-clause-pieces c =
    let g = c.args.pool.now.group in
    let i = c.args.intent.now in
    let planned = few_planned g c.args.id i c.requires.intent in
    let old = olds_short i.plan.items in
    let puts = c.puts.ensures.most in
    let pieces = c.pieces_of.ensures.few in
    let olds = ap (λ (bs : List Bptr). length bs) (c.as_slice.ensures.value ∙ (c.in_ok-old.ensures ∙ ap olds_of c.as_slice-plan.ensures.value)) in
    let plan = ap (λ (ps : List Planned). length ps) c.as_slice-plan.ensures.value in
    omega (arith, planned, old, puts, pieces, olds, plan)

pub returns-clause-owed : goal.returns-clause-owed
returns-clause-owed c =
    let s = c.args.pool.now.space in
    let g = c.args.pool.now.group in
    let i = c.args.intent.now in
    let plan = i.plan.items in
    let new = c.new_blocks.ensures.new ∙ ap (new_in g c.args.id) (sym c.requires.intent.row) in
    let olds = ap (pieces_in (devices_in s)) (c.as_slice.ensures.value ∙ (c.in_ok-old.ensures ∙ ap olds_of c.as_slice-plan.ensures.value)) in
    c.owed_with.ensures.owed
    ∙ owed_is s g c.args.id plan c.blocks-2.result c.new_blocks.result c.objects.result c.new_objects.result c.puts.result c.pieces_of.result c.blocks-2.ensures new c.objects.ensures.count c.new_objects.ensures.new (c.puts.ensures.puts ∙ ap puts_of c.as_slice-plan.ensures.value) (c.pieces_of.ensures.pieces ∙ olds)
