use Rattle.std.proofs.Common.{List, subst, sym, ◌^◌, ◌≤◌}
use Rattle.std.specs.List.{AllByRecursion}
use Rattle.zr_base.specs.declared.space.DevRow.{DevRow}
use Rattle.zr_image.specs.Roots.{rows_of}
use Rattle.zr_import.proofs.Rows.{rows_small}
use Rattle.zr_import.proofs.metadata.read_parts.Goals as goal

pub parts_of-requires-clause-units : goal.parts_of-requires-clause-units
parts_of-requires-clause-units c =
    let u = c.args.uber.now in
    subst (λ (rs : List DevRow). AllByRecursion (λ (r : DevRow). r.units ≤ 2 ^ 36) rs) (sym c.rows_of.ensures) (rows_small u.version u.txg (rows_of u) c.requires.uber.table.devices)
