use Rattle.zr_sync.specs.Trees.{HoldsStreams, first_stage, giving, one_stage, settling}
use Rattle.zr_sync.specs.Trees.Stage.{Written}
use Rattle.zr_sync.specs.declared.open.Table.{Table}
use Rattle.zr_sync.proofs.Anew.{renewed_still, streams_counts}
use Rattle.std.proofs.Common.{◌≡◌, ◌∙◌, ℕ, [], sym, ap, subst}
use Rattle.zr_sync.proofs.Holding.{on_ok_of}
use Rattle.zr_sync.proofs.Moving.{space_open, space_wrote}
use Rattle.zr_sync.proofs.Pools.{metadata_then, metadata_table}
use Rattle.zr_sync.proofs.Standing.{seen_metadata}
use Rattle.zr_sync.specs.declared.open.OpenPool.{OpenPool}
use Rattle.zr_sync.proofs.commits.write_metadata.Goals as goal

pub leave_devices-requires : goal.leave_devices-requires
leave_devices-requires g c = record { pool = (g.S.Shelf.sizes c.turn_metadata.new.shelf, c.in_ok-turn_metadata.ensures.pool) }

pub write_late_sets-requires : goal.write_late_sets-requires
write_late_sets-requires g c =
    let mid = c.turn_metadata.new.shelf in
    record { pool = space_open (g.S.Shelf.sizes mid) (g.S.Shelf.counts mid) (g.S.Shelf.tells mid) (g.S.Shelf.world mid) c.turn_metadata.new.pool c.leave_devices.new.pool c.in_ok-turn_metadata.ensures.pool c.leave_devices.ensures.others c.leave_devices.ensures.rest }

pub returns-in_err-leave_devices-clause-wrote : goal.returns-in_err-leave_devices-clause-wrote
returns-in_err-leave_devices-clause-wrote g c =
    let mid = c.turn_metadata.new.shelf in
    metadata_then c.turn_metadata.ensures.wrote (space_wrote (g.S.Shelf.sizes mid) (g.S.Shelf.counts mid) (g.S.Shelf.tells mid) (g.S.Shelf.world mid) c.turn_metadata.new.pool c.leave_devices.new.pool c.leave_devices.ensures.others c.leave_devices.ensures.rest)

pub returns-in_err-write_late_sets-clause-wrote : goal.returns-in_err-write_late_sets-clause-wrote
returns-in_err-write_late_sets-clause-wrote g c =
    let mid = c.turn_metadata.new.shelf in
    let left = space_wrote (g.S.Shelf.sizes mid) (g.S.Shelf.counts mid) (g.S.Shelf.tells mid) (g.S.Shelf.world mid) c.turn_metadata.new.pool c.leave_devices.new.pool c.leave_devices.ensures.others c.leave_devices.ensures.rest in
    metadata_then c.turn_metadata.ensures.wrote (metadata_then left c.write_late_sets.ensures.wrote)

pub returns-clause-wrote : goal.returns-clause-wrote
returns-clause-wrote g c =
    let mid = c.turn_metadata.new.shelf in
    let left = space_wrote (g.S.Shelf.sizes mid) (g.S.Shelf.counts mid) (g.S.Shelf.tells mid) (g.S.Shelf.world mid) c.turn_metadata.new.pool c.leave_devices.new.pool c.leave_devices.ensures.others c.leave_devices.ensures.rest in
    metadata_then c.turn_metadata.ensures.wrote (metadata_then left (metadata_then c.write_late_sets.ensures.wrote c.write_head.ensures.wrote))

pub returns-clause-stands : goal.returns-clause-stands
returns-clause-stands g c = λ seen.
    let first = c.args.shelf.now in
    let mid = c.turn_metadata.new.shelf in
    let last = c.write_late_sets.new.shelf in
    let left = space_wrote (g.S.Shelf.sizes mid) (g.S.Shelf.counts mid) (g.S.Shelf.tells mid) (g.S.Shelf.world mid) c.turn_metadata.new.pool c.leave_devices.new.pool c.leave_devices.ensures.others c.leave_devices.ensures.rest in
    let whole = metadata_then c.turn_metadata.ensures.wrote (metadata_then left c.write_late_sets.ensures.wrote) in
    c.write_head.ensures.stands
    (seen_metadata (g.S.Shelf.sizes first) (g.S.Shelf.sizes last) (g.S.Shelf.counts first) (g.S.Shelf.counts last) (g.S.Shelf.tells first) (g.S.Shelf.tells last) (g.S.Shelf.world first) (g.S.Shelf.world last) c.args.pool.now c.write_late_sets.new.pool whole seen)

pub returns-clause-safe : goal.returns-clause-safe
returns-clause-safe g c = λ seen.
    let first = c.args.shelf.now in
    let mid = c.turn_metadata.new.shelf in
    let last = c.write_late_sets.new.shelf in
    let left = space_wrote (g.S.Shelf.sizes mid) (g.S.Shelf.counts mid) (g.S.Shelf.tells mid) (g.S.Shelf.world mid) c.turn_metadata.new.pool c.leave_devices.new.pool c.leave_devices.ensures.others c.leave_devices.ensures.rest in
    let whole = metadata_then c.turn_metadata.ensures.wrote (metadata_then left c.write_late_sets.ensures.wrote) in
    c.write_head.ensures.safe
    (seen_metadata (g.S.Shelf.sizes first) (g.S.Shelf.sizes last) (g.S.Shelf.counts first) (g.S.Shelf.counts last) (g.S.Shelf.tells first) (g.S.Shelf.tells last) (g.S.Shelf.world first) (g.S.Shelf.world last) c.args.pool.now c.write_late_sets.new.pool whole seen)

pub returns-clause-anew : goal.returns-clause-anew
returns-clause-anew g c = λ reset is.
    let was = c.args.pool.now in
    let turned = c.turn_metadata.new.pool in
    let left = c.leave_devices.new.pool in
    let late = c.write_late_sets.new.pool in
    let wrote = c.in_ok-turn_metadata.ensures.anew is in
    let moved = renewed_still was.version was.space turned left was.table.count (streams_counts turned left (ap (λ (o : OpenPool). o.streams) c.leave_devices.ensures.rest)) wrote in
    let same = renewed_still was.version was.space left late was.table.count (streams_counts left late (c.write_late_sets.ensures.none reset)) moved in
    on_ok_of c.write_head.result (renewed_still was.version was.space late c.write_head.new.pool was.table.count (streams_counts late c.write_head.new.pool c.write_head.ensures.streams) same)

pub returns-clause-trees : goal.returns-clause-trees
returns-clause-trees g c = λ still bytes h.
    let n = c.args.pool.now.table.count in
    let s = first_stage c.args.logs in
    let turned = c.turn_metadata.new in
    let left = c.leave_devices.new.pool in
    let late = c.write_late_sets.new in
    let one = c.in_ok-turn_metadata.ensures.trees bytes h in
    let same : left ≡ turned.pool = c.leave_devices.ensures.stays still in
    let two = subst (λ (o : OpenPool). HoldsStreams (giving s n) (one_stage Written) [] (g.S.Shelf.tells turned.shelf) (g.S.Shelf.world turned.shelf).now.seen o) (sym same) one in
    let count : left.table.count ≡ n = ap (λ (o : OpenPool). o.table.count) same ∙ ap (λ (t : Table). t.count) (metadata_table c.turn_metadata.ensures.wrote) in
    let three =
    c.in_ok-write_late_sets.ensures.trees s (one_stage Written) []
    (subst (λ (k : ℕ). HoldsStreams (giving s k) (one_stage Written) [] (g.S.Shelf.tells turned.shelf) (g.S.Shelf.world turned.shelf).now.seen left) (sym count) two) in
    c.write_head.ensures.trees (settling s c.args.reset n) (one_stage Written) []
    (subst (λ (k : ℕ). HoldsStreams (settling s c.args.reset k) (one_stage Written) [] (g.S.Shelf.tells late.shelf) (g.S.Shelf.world late.shelf).now.seen late.pool) count three)
