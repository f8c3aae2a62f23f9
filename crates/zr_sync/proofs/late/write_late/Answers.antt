use Rattle.std.proofs.Common.{◌≡◌, ◌∙◌, List, ℕ, length, ap, refl, subst, arith}
use Rattle.std.proofs.lemmas.List.{get_or_default}
use Rattle.std.proofs.Math.ListN.{length-set}
use Rattle.std.specs.Prelude.{slice_index_or, slice_set}
use Rattle.zr_root.specs.Streams.{StoresWords}
use Rattle.zr_sync.specs.Empty.{no_streams}
use Rattle.zr_sync.specs.Streams.{streams_at as device_streams}
use Rattle.zr_sync.specs.declared.open.DeviceStreams.{DeviceStreams}
use Rattle.zr_sync.specs.declared.open.OpenPool.{OpenPool}
use Rattle.zr_sync.specs.declared.open.Table.{Table}
use Rattle.zr_sync.proofs.LateTrees.{lates_written}
use Rattle.zr_sync.proofs.Pools.{small_device, metadata_then, metadata_table, streams_step, streams_open, streams_at, streams_set}
use Rattle.zr_sync.proofs.late.write_late.Goals as goal

pub first_late_words-requires-clause-small : goal.first_late_words-requires-clause-small
first_late_words-requires-clause-small g c = small_device (g.S.Shelf.sizes c.args.shelf.now) c.args.pool.now c.args.dev c.requires.pool c.requires.dev

pub second_late_words-requires-clause-small : goal.second_late_words-requires-clause-small
second_late_words-requires-clause-small g c = small_device (g.S.Shelf.sizes c.args.shelf.now) c.args.pool.now c.args.dev c.requires.pool c.requires.dev

pub returns-in_err-late2-clause-wrote : goal.returns-in_err-late2-clause-wrote
returns-in_err-late2-clause-wrote g c = metadata_then c.write_words.ensures.wrote c.write_words-2.ensures.wrote

pub returns-clause-wrote : goal.returns-clause-wrote
returns-clause-wrote g c =
    let shelf = c.write_words-2.new.shelf in
    let pool = c.write_words-2.new.pool in
    metadata_then (metadata_then c.write_words.ensures.wrote c.write_words-2.ensures.wrote)
    (streams_step (g.S.Shelf.sizes shelf) (g.S.Shelf.counts shelf) (g.S.Shelf.tells shelf) (g.S.Shelf.world shelf) pool _ refl (length-set pool.streams.items c.args.dev _))

pub returns-clause-pool : goal.returns-clause-pool
returns-clause-pool g c =
    let shelf = c.write_words-2.new.shelf in
    let pool = c.write_words-2.new.pool in
    let o = c.in_ok-late2.ensures.pool in
    let was = c.index_mut-device.result.now in
    let count = o.count in
    let same = ap (λ (t : Table). t.count) (metadata_table (metadata_then c.write_words.ensures.wrote c.write_words-2.ensures.wrote)) in
    let are = streams_at pool.streams.items c.args.dev was (omega (arith, count, same, c.requires.dev)) c.index_mut-device.ensures.value o.streams in
    let now = record was { late1 = c.in_ok-late1.late1; late2 = c.in_ok-late2.late2 } in
    streams_open (g.S.Shelf.sizes shelf) (g.S.Shelf.counts shelf) (g.S.Shelf.tells shelf) (g.S.Shelf.world shelf) pool _ o refl (length-set pool.streams.items c.args.dev now)
    (streams_set pool.streams.items c.args.dev now (record { held = are.held; kept = are.kept; entries = are.entries; counts = are.counts; fresh = are.fresh; late1 = c.in_ok-late1.ensures.stream; late2 = c.in_ok-late2.ensures.stream }) o.streams)

pub returns-clause-writes : goal.returns-clause-writes
returns-clause-writes g c = λ s held.
    let pool = c.args.pool.now in
    let dev = c.args.dev in
    let late1 = c.in_ok-late1.late1 in
    let late2 = c.in_ok-late2.late2 in
    let one = c.in_ok-late1.ensures.stores s held in
    let two = c.in_ok-late2.ensures.stores one.stored one.held in
    let xs = c.write_words-2.new.pool.streams.items in
    let same : xs ≡ pool.streams.items = ap (λ v. v.items) (c.write_words-2.ensures.same ∙ c.write_words.ensures.same) in
    let count = c.requires.pool.count in
    let long = ap (λ (ts : List DeviceStreams). length ts) same in
    let was = c.index_mut-device.result.now in
    let is : was ≡ device_streams pool dev =
    c.index_mut-device.ensures.value ∙ get_or_default xs dev was no_streams (omega (arith, count, long, c.requires.dev)) ∙ ap (λ (ts : List DeviceStreams). slice_index_or ts dev no_streams) same in
    record {
      stored = two.stored;
      held = two.held;
      is = record {
        words1 = c.in_ok-first.first.items;
        first_is = c.in_ok-first.ensures.late;
        late1 = late1;
        mid = one.stored;
        first = subst (λ (ns : List ℕ). StoresWords s one.stored late1 ns) c.as_slice.ensures.value one.is;
        words2 = c.in_ok-second.second.items;
        second_is = c.in_ok-second.ensures.late;
        late2 = late2;
        second = subst (λ (ns : List ℕ). StoresWords one.stored two.stored late2 ns) c.as_slice-2.ensures.value two.is;
        streams = ap (λ (ts : List DeviceStreams). slice_set ts dev (record was { late1 = late1; late2 = late2 })) same ∙ ap (λ (x : DeviceStreams). slice_set pool.streams.items dev (record x { late1 = late1; late2 = late2 })) is;
      };
    }

pub returns-clause-trees : goal.returns-clause-trees
returns-clause-trees g c = λ cond others h.
    let x = c.args.pool.now in
    let dev = c.args.dev in
    let count = c.requires.pool.count in
    let goes = metadata_then c.write_words.ensures.wrote c.write_words-2.ensures.wrote in
    let o = returns-clause-pool g c in
    lates_written cond others (g.S.Shelf.tells c.args.shelf.now) _ (g.S.Shelf.world c.args.shelf.now).now.seen _ x _
    (record { version = ap (λ (p : OpenPool). p.version) goes.rest; turned = ap (λ (p : OpenPool). p.turned) goes.rest; lawful_old = c.requires.pool.lawful; lawful = o.lawful }) goes.goes.space
    (λ d u waits. c.in_ok-late1.ensures.waits d u (c.in_ok-late2.ensures.waits d u waits)) (c.write_words-2.ensures.cond ∙ c.write_words.ensures.cond) (ap (λ (p : OpenPool). p.table.count) goes.rest) dev c.requires.dev (omega (arith, count, c.requires.dev)) c.requires.pool.streams h
    (returns-clause-writes g c h.stored h.held)
