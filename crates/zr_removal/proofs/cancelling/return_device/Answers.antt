use Rattle.std.proofs.Common.{◌≡◌, ◌<◌, rules, sym, subst, arith}
use Rattle.std.specs.Prelude.{slice_index_or}
use Rattle.zr_base.specs.declared.space.DevRow.{DevRow}
use Rattle.zr_base.specs.declared.space.DevState.TheVariants.{On}
use Rattle.zr_label.specs.Blocks.{no_row}
use Rattle.zr_rules.specs.Places.{state_of_dev}
use Rattle.zr_sync.specs.Pools.{IsOpen}
use Rattle.zr_sync.specs.declared.open.Table.{Table}
use Rattle.zr_removal.specs.Rows.{with_row}
use Rattle.zr_removal.proofs.Turned.{cancels_turn, leaving_is, leaving_there, turned_open}
use Rattle.zr_removal.proofs.cancelling.return_device.Goals as goal

pub returns-clause-pool : goal.returns-clause-pool
returns-clause-pool c = λ sizes o.
    let x = c.args.pool.now in
    let d = c.in_ok-dev.dev in
    let s = c.cancel.new.self in
    let row : DevRow = record (slice_index_or x.table.rows d no_row) { state = On } in
    let table : c.set_row.new.table ≡ with_row x.table d row = search rules in
    let there = leaving_there x.space.parts.devs d c.in_ok-dev.ensures.index in
    let known : d < x.table.count = let n = o.devices in omega (arith, there, n) in
    subst (λ (t : Table). IsOpen sizes (record x { space = s; table = t })) (sym table)
    (turned_open sizes x s d row o (cancels_turn sizes x s d o known c.in_ok-dev.ensures.ok (leaving_is (state_of_dev x.space.parts.devs d) c.in_ok-dev.ensures.index)))

-- what the last root has
pub returns-clause-root : goal.returns-clause-root
returns-clause-root c = record { held = c.in_ok-dev.ensures.held; kept = c.in_ok-dev.ensures.kept; others = c.in_ok-dev.ensures.marks; none = c.in_ok-dev.ensures.unmarked }
