use Rattle.zr_change.proofs.Grouping.{recorded_then, finds_of, lawful_from, lawful_changes, still_lawful}
use Rattle.zr_change.proofs.records.record_change.Goals as goal

pub returns-clause-records : goal.returns-clause-records
returns-clause-records c = recorded_then c.args.id c.args.rec.now c.args.changes.now c.args.group.now c.record_known.new.group c.record_blocks.new.group c.in_ok-record_known.ensures.records c.in_ok-record_blocks.ensures.records

pub returns-clause-lawful : goal.returns-clause-lawful
returns-clause-lawful c =
    let changes = c.args.changes.now in
    let records = recorded_then c.args.id c.args.rec.now changes c.args.group.now c.record_known.new.group c.record_blocks.new.group c.in_ok-record_known.ensures.records c.in_ok-record_blocks.ensures.records in
    let finds = still_lawful c.args.id c.args.rec.now changes c.args.group.now c.record_blocks.new.group c.requires.id c.requires.object (lawful_changes changes c.requires.low c.requires.leaves) records (finds_of c.args.group.now c.requires.lawful) in
    lawful_from c.record_blocks.new.group c.look_over.ensures.objects c.look_over.ensures.blocks finds
