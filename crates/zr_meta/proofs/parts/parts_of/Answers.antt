use Rattle.std.proofs.Common.{◌∙◌, ℕ, ◌≤◌, ◌^◌, List, length, sum_by, ap, sym, subst, arith}
use Rattle.std.specs.List.{AllByRecursion}
use Rattle.zr_base.specs.declared.space.DevRow.{DevRow}
use Rattle.zr_meta.specs.declared.Stream.{Stream}
use Rattle.zr_meta.specs.declared.part.DevWords.{DevWords}
use Rattle.zr_meta.specs.Heads.{stream_count}
use Rattle.zr_meta.specs.Parts.{pieces}
use Rattle.zr_meta.proofs.Whole.{enough_pieces, devices_long, devices_units}
use Rattle.zr_meta.proofs.parts.parts_of.Goals as goal

pub devices_words-requires : goal.devices_words-requires
devices_words-requires c =
    let same = c.as_slice-2.ensures ∙ (c.in_ok-pieces.ensures ∙ ap (λ (ss : List Stream). pieces ss c.args.words.now) c.as_slice.ensures) in
    subst (λ (ps : List (List ℕ)). sum_by {X = DevRow} (λ r. stream_count c.args.h.now.form r.state) c.args.table.now ≤ length ps) (sym same)
    (enough_pieces c.args.table.now c.args.h.now c.args.words.now c.requires.head)

pub device_parts-requires-clause-few : goal.device_parts-requires-clause-few
device_parts-requires-clause-few c =
    omega (arith, ap length (c.as_slice-5.ensures ∙ c.in_ok-devices.ensures), devices_long c.args.h.now.form c.args.table.now c.as_slice-2.result.now, c.requires.few)

pub device_parts-requires-clause-units : goal.device_parts-requires-clause-units
device_parts-requires-clause-units c =
    subst (AllByRecursion (λ (w : DevWords). w.row.units ≤ 2 ^ 36)) (sym (c.as_slice-5.ensures ∙ c.in_ok-devices.ensures))
    (devices_units c.args.h.now.form c.args.table.now c.as_slice-2.result.now c.requires.units)
