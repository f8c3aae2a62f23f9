use Rattle.std.proofs.Common.{◌≡◌, rules, sym, subst}
use Rattle.std.specs.Prelude.{slice_index_or}
use Rattle.zr_base.specs.declared.space.DevRow.{DevRow}
use Rattle.zr_base.specs.declared.space.DevState.TheVariants.{Leaving}
use Rattle.zr_label.specs.Blocks.{no_row}
use Rattle.zr_sync.specs.Pools.{IsOpen}
use Rattle.zr_sync.specs.declared.open.Table.{Table}
use Rattle.zr_removal.specs.Rows.{with_row}
use Rattle.zr_removal.proofs.Turned.{leaves_turn, turned_open}
use Rattle.zr_removal.proofs.leaving.leave.Goals as goal

pub returns-clause-pool : goal.returns-clause-pool
returns-clause-pool c = λ sizes o.
    let x = c.args.pool.now in
    let d = c.args.dev in
    let s = c.begin_removal.new.self in
    let row : DevRow = record (slice_index_or x.table.rows d no_row) { state = Leaving } in
    let table : c.set_row.new.table ≡ with_row x.table d row = search rules in
    subst (λ (t : Table). IsOpen sizes (record x { space = s; table = t })) (sym table)
    (turned_open sizes x s d row o (leaves_turn sizes x s d o c.requires.known c.in_ok-begin_removal.ensures.ok c.requires.on c.requires.other))
