use Rattle.std.proofs.Common.{◌≡◌, ◌∙◌, refl, sym, ap, subst, arith}
use Rattle.std.proofs.lemmas.List.{get_or_default}
use Rattle.std.proofs.Math.ListN.{length-set}
use Rattle.std.specs.Prelude.{slice_set}
use Rattle.zr_meta.specs.declared.Stream.{Stream}
use Rattle.zr_root.specs.Streams.{HasWords}
use Rattle.zr_store.specs.Store.{AreStored}
use Rattle.zr_tree.specs.Trees.{tree_reach}
use Rattle.zr_commit.specs.Logs.{Rewrites}
use Rattle.zr_sync.specs.Empty.{no_streams}
use Rattle.zr_sync.specs.Streams.{log_stream, streams_at as device_streams, with_log}
use Rattle.zr_sync.specs.Words.{words_then}
use Rattle.zr_sync.specs.declared.open.DeviceStreams.{DeviceStreams}
use Rattle.zr_sync.specs.Trees.{IsAt, Stage, first_stage}
use Rattle.zr_sync.specs.Trees.Place.{OfLog}
use Rattle.zr_sync.proofs.Anew.{counted}
use Rattle.zr_sync.proofs.Stages.{told_at}
use Rattle.zr_sync.proofs.Steps.{log_written}
use Rattle.zr_sync.proofs.TreeRows.{place_stands}
use Rattle.zr_sync.proofs.Pools.{step_open, streams_at, streams_set}
use Rattle.zr_sync.proofs.logs.write_log.Goals as goal

pub stream_of-old-requires : goal.stream_of-old-requires
stream_of-old-requires g c =
    let count = c.requires.pool.count in
    streams_at c.args.pool.now.streams.items c.args.dev c.index.result.now (omega (arith, count, c.requires.dev)) c.index.ensures c.requires.pool.streams

pub returns-clause-pool : goal.returns-clause-pool
returns-clause-pool g c =
    let old = c.args.pool.now.streams.items in
    let now = c.with_stream.result in
    step_open c.args.pool.now _ c.requires.pool c.put_log.ensures.continues refl (length-set old c.args.dev now)
    (streams_set old c.args.dev now c.with_stream.ensures.lawful c.requires.pool.streams) c.requires.pool.cond

pub returns-clause-writes : goal.returns-clause-writes
returns-clause-writes g c = λ s had held stored has last.
    let pool = c.args.pool.now in
    let log = c.args.log in
    let dev = c.args.dev in
    let count = c.requires.pool.count in
    let t = c.index.result.now in
    let is : t ≡ device_streams pool dev = c.index.ensures ∙ get_or_default pool.streams.items dev t no_streams (omega (arith, count, c.requires.dev)) in
    let old_is : c.stream_of-old.result ≡ log_stream log (device_streams pool dev) = c.stream_of-old.ensures.value ∙ ap (λ (x : DeviceStreams). log_stream log x) is in
    let now_is : c.with_stream.result ≡ with_log log (device_streams pool dev) c.in_ok-stream.stream = c.with_stream.ensures.value ∙ ap (λ (x : DeviceStreams). with_log log x c.in_ok-stream.stream) is in
    let here = subst (λ (x : Stream). HasWords s x had) (sym old_is) has in
    let wrote = c.in_ok-stream.ensures.writes s had held (subst (λ (x : Stream). AreStored (tree_reach s x.tree) s) (sym old_is) stored) here in
    record {
      stored = wrote.stored;
      held = wrote.held;
      is = record {
        words = words_then had c.in_ok-words.words;
        log_is = c.in_ok-words.ensures.log had here.count last;
        stream = c.in_ok-stream.stream;
        rewrites = subst (λ (x : Stream). Rewrites s wrote.stored x c.in_ok-stream.stream (words_then had c.in_ok-words.words)) old_is wrote.is;
        streams = ap (λ (x : DeviceStreams). slice_set pool.streams.items dev x) now_is;
      };
    }

pub returns-clause-trees : goal.returns-clause-trees
returns-clause-trees g c = λ stage next cond others turn none h.
    let x = c.args.pool.now in
    let dev = c.args.dev in
    let place = OfLog c.args.log in
    let count = c.requires.pool.count in
    let stands = place_stands stage cond others (g.S.Shelf.tells c.args.shelf.now) (g.S.Shelf.world c.args.shelf.now).now.seen x h dev place c.requires.dev in
    let had = subst (λ (s : Stage). IsAt s x dev place (h.words dev place)) turn.was (h.are dev place c.requires.dev) in
    let wrote = returns-clause-writes g c h.stored (h.words dev place) h.held stands.0 stands.1 (told_at c.args.logs x dev place (h.words dev place) had) in
    let o = returns-clause-pool g c in
    log_written (first_stage c.args.logs) stage next cond others (g.S.Shelf.tells c.args.shelf.now) _ (g.S.Shelf.world c.args.shelf.now).now.seen _ x _ (record { version = refl; turned = refl; lawful_old = c.requires.pool.lawful; lawful = o.lawful }) c.put_log.ensures.continues.space refl refl dev c.requires.dev (omega (arith, count, c.requires.dev)) none h c.args.log turn wrote

pub returns-clause-anew : goal.returns-clause-anew
returns-clause-anew g c = λ is.
    let pool = c.args.pool.now in
    let log = c.args.log in
    let dev = c.args.dev in
    let count = c.requires.pool.count in
    let t = c.index.result.now in
    let at : t ≡ device_streams pool dev = c.index.ensures ∙ get_or_default pool.streams.items dev t no_streams (omega (arith, count, c.requires.dev)) in
    let now_is : c.with_stream.result ≡ with_log log (device_streams pool dev) c.in_ok-stream.stream = c.with_stream.ensures.value ∙ ap (λ (x : DeviceStreams). with_log log x c.in_ok-stream.stream) at in
    record {
      stream = c.in_ok-stream.stream;
      words = counted pool.version pool.space dev log c.in_ok-words.words c.in_ok-stream.stream (c.in_ok-words.ensures.anew is) c.in_ok-stream.ensures.count;
      streams = ap (λ (x : DeviceStreams). slice_set pool.streams.items dev x) now_is;
    }
