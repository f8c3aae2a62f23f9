use Rattle.std.proofs.Common.{◌<◌, ◌∙◌, ℕ, length, arith}
use Rattle.zr_bptr.specs.declared.Ptr.{Ptr}
use Rattle.zr_bptr.specs.declared.Ptr.TheVariants.{Hole}
use Rattle.zr_change.proofs.Grouping.{none_recorded, next_recorded}
use Rattle.zr_change.proofs.records.record_blocks.Goals as goal

pub loop-change-init : goal.loop-change-init
loop-change-init c = none_recorded c.args.id c.args.group.now

pub change-requires : goal.change-requires
change-requires c = (c.requires.recorded.0, c.loop-change.invariant.object c.args.id ∙ c.requires.recorded.1)

pub loop-change-preserved : goal.loop-change-preserved
loop-change-preserved c =
    let changes = c.args.changes.now in
    let i = c.loop-change.change-index in
    let lt : i < length changes = omega arith in
    let d : ℕ × Ptr = (0, Hole) in
    let e = c.in_ok-change.ensures in
    next_recorded c.args.id changes i d c.args.group.now c.loop-change.group c.change.new.self lt c.requires.rises c.loop-change.invariant e.objects e.blocks e.block_count e.object_count e.txg
