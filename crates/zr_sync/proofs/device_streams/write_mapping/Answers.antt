use Rattle.std.proofs.Common.{◌≡◌, ◌∙◌, List, ℕ, refl, sym, ap, subst, arith}
use Rattle.std.proofs.lemmas.List.{get_or_default}
use Rattle.std.proofs.Math.ListN.{length-set}
use Rattle.std.specs.Prelude.{slice_set}
use Rattle.zr_base.specs.declared.space.Entry.{Entry}
use Rattle.zr_meta.specs.declared.Stream.{Stream}
use Rattle.zr_rules.specs.Places.{part_of}
use Rattle.zr_root.specs.Streams.{HasWords}
use Rattle.zr_store.specs.Store.{AreStored}
use Rattle.zr_tree.specs.Trees.{tree_reach}
use Rattle.zr_commit.specs.Logs.{Rewrites}
use Rattle.zr_sync.specs.Empty.{no_streams}
use Rattle.zr_sync.specs.Mappings.{HasFirst, IsSpelled, mapping_stream, mapping_words, with_mapping, words_at}
use Rattle.zr_sync.specs.Streams.{streams_at as device_streams}
use Rattle.zr_sync.specs.Trees.{IsAt, Stage, first_stage}
use Rattle.zr_sync.specs.Trees.Place.{OfMapping}
use Rattle.zr_sync.specs.Words.{words_then}
use Rattle.zr_sync.specs.declared.open.DeviceStreams.{DeviceStreams}
use Rattle.zr_sync.proofs.Pools.{step_open, streams_at, streams_set}
use Rattle.zr_sync.proofs.Stages.{appends, told_at, told_spelled}
use Rattle.zr_sync.proofs.Steps.{mapping_written}
use Rattle.zr_sync.proofs.TreeRows.{place_stands}
use Rattle.zr_sync.proofs.device_streams.write_mapping.Goals as goal

pub stream_of-old-requires : goal.stream_of-old-requires
stream_of-old-requires g c =
    let count = c.requires.pool.count in
    streams_at c.args.pool.now.streams.items c.args.dev c.index.result.now (omega (arith, count, c.requires.dev)) c.index.ensures c.requires.pool.streams

pub returns-clause-pool : goal.returns-clause-pool
returns-clause-pool g c =
    let old = c.args.pool.now.streams.items in
    let now = c.with_stream.result in
    step_open c.args.pool.now _ c.requires.pool c.put_log.ensures.continues refl (length-set old c.args.dev now)
    (streams_set old c.args.dev now c.with_stream.ensures.lawful c.requires.pool.streams) c.requires.pool.cond

pub returns-clause-streams : goal.returns-clause-streams
returns-clause-streams g c =
    let pool = c.args.pool.now in
    let dev = c.args.dev in
    let count = c.requires.pool.count in
    let t = c.index.result.now in
    let is : t ≡ device_streams pool dev = c.index.ensures ∙ get_or_default pool.streams.items dev t no_streams (omega (arith, count, c.requires.dev)) in
    record {
      stream = c.in_ok-stream.stream;
      streams = ap (λ (x : DeviceStreams). slice_set pool.streams.items dev x) (c.with_stream.ensures.value ∙ ap (λ (x : DeviceStreams). with_mapping c.args.which x c.in_ok-stream.stream) is);
    }

pub returns-clause-writes : goal.returns-clause-writes
returns-clause-writes g c = λ spelled s had held stored has first.
    let pool = c.args.pool.now in
    let which = c.args.which in
    let dev = c.args.dev in
    let count = c.requires.pool.count in
    let t = c.index.result.now in
    let is : t ≡ device_streams pool dev = c.index.ensures ∙ get_or_default pool.streams.items dev t no_streams (omega (arith, count, c.requires.dev)) in
    let old_is : c.stream_of-old.result ≡ mapping_stream which (device_streams pool dev) = c.stream_of-old.ensures.value ∙ ap (λ (x : DeviceStreams). mapping_stream which x) is in
    let now_is : c.with_stream.result ≡ with_mapping which (device_streams pool dev) c.in_ok-stream.stream = c.with_stream.ensures.value ∙ ap (λ (x : DeviceStreams). with_mapping which x c.in_ok-stream.stream) is in
    let here = subst (λ (x : Stream). HasWords s x had) (sym old_is) has in
    let wrote = c.in_ok-stream.ensures.writes s had held (subst (λ (x : Stream). AreStored (tree_reach s x.tree) s) (sym old_is) stored) here in
    let p = part_of pool.space.parts.devs dev in
    let m = c.moves.result.now in
    let entries : m.entries ≡ p.entries = c.moves.ensures.entries in
    let counts : m.counts ≡ p.counts = c.moves.ensures.counts in
    let words : words_then had c.in_ok-words.words ≡ words_at pool dev which =
    c.in_ok-words.ensures.words (subst (λ (es : List Entry). IsSpelled es m.counts) (sym entries) (subst (λ (cs : List ℕ). IsSpelled p.entries cs) (sym counts) spelled)) had here.count
    (λ same. subst (λ (es : List Entry). HasFirst which es m.counts had) (sym entries) (subst (λ (cs : List ℕ). HasFirst which p.entries cs had) (sym counts) (first (appends c.args.logs c.is_anew-anew.result c.is_anew-anew.ensures.anew same) (c.is_anew-anew.ensures.turned same))))
    ∙ (ap (λ (es : List Entry). mapping_words which es m.counts) entries ∙ ap (λ (cs : List ℕ). mapping_words which p.entries cs) counts) in
    record {
      stored = wrote.stored;
      held = wrote.held;
      is = record {
        stream = c.in_ok-stream.stream;
        rewrites = subst (λ (ns : List ℕ). Rewrites s wrote.stored (mapping_stream which (device_streams pool dev)) c.in_ok-stream.stream ns) words
            (subst (λ (x : Stream). Rewrites s wrote.stored x c.in_ok-stream.stream (words_then had c.in_ok-words.words)) old_is wrote.is);
        streams = ap (λ (x : DeviceStreams). slice_set pool.streams.items dev x) now_is;
      };
    }

pub returns-clause-trees : goal.returns-clause-trees
returns-clause-trees g c = λ stage next cond others turn none h.
    let x = c.args.pool.now in
    let dev = c.args.dev in
    let which = c.args.which in
    let place = OfMapping which in
    let count = c.requires.pool.count in
    let stands = place_stands stage cond others (g.S.Shelf.tells c.args.shelf.now) (g.S.Shelf.world c.args.shelf.now).now.seen x h dev place c.requires.dev in
    let had = subst (λ (s : Stage). IsAt s x dev place (h.words dev place)) turn.was (h.are dev place c.requires.dev) in
    let spelled = told_spelled c.args.logs x dev which (h.words dev place) had in
    let wrote = returns-clause-writes g c spelled h.stored (h.words dev place) h.held stands.0 stands.1 (λ grows. (told_at c.args.logs x dev place (h.words dev place) had grows).0) in
    let o = returns-clause-pool g c in
    mapping_written (first_stage c.args.logs) stage next cond others (g.S.Shelf.tells c.args.shelf.now) _ (g.S.Shelf.world c.args.shelf.now).now.seen _ x _ (record { version = refl; turned = refl; lawful_old = c.requires.pool.lawful; lawful = o.lawful }) c.put_log.ensures.continues.space refl refl dev c.requires.dev (omega (arith, count, c.requires.dev)) none h which turn spelled wrote
