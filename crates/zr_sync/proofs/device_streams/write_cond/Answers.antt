use Rattle.std.proofs.Common.{◌≡◌, ◌∙◌, List, ℕ, refl, sym, ap, subst}
use Rattle.zr_meta.specs.declared.Stream.{Stream}
use Rattle.zr_root.specs.Streams.{HasWords}
use Rattle.zr_store.specs.Store.{AreStored}
use Rattle.zr_tree.specs.Trees.{tree_reach}
use Rattle.zr_commit.specs.Logs.{Rewrites}
use Rattle.zr_sync.specs.Mappings.{cond_stream, mapping_words}
use Rattle.zr_sync.specs.Trees.{IsCondAt, Stage}
use Rattle.zr_sync.specs.Words.{words_then}
use Rattle.zr_sync.specs.declared.open.CondStreams.{CondStreams}
use Rattle.zr_sync.proofs.CondTrees.{cond_stands, cond_written, still_done}
use Rattle.zr_sync.proofs.Pools.{step_open}
use Rattle.zr_sync.proofs.Stages.{cond_spelled, told_of_cond}
use Rattle.zr_sync.proofs.device_streams.write_cond.Goals as goal

pub returns-clause-pool : goal.returns-clause-pool
returns-clause-pool g c = step_open c.args.pool.now _ c.requires.pool c.put_log.ensures.continues refl refl c.requires.pool.streams c.with_cond-pool.ensures.lawful

pub returns-clause-writes : goal.returns-clause-writes
returns-clause-writes g c = λ k is spelled s had held stored has first.
    let pool = c.args.pool.now in
    let which = c.args.which in
    let old_is : c.cond_of-old.result ≡ cond_stream which pool.cond = c.cond_of-old.ensures.value in
    let here = subst (λ (x : Stream). HasWords s x had) (sym old_is) has in
    let wrote = c.in_ok-stream.ensures.writes s had held (subst (λ (x : Stream). AreStored (tree_reach s x.tree) s) (sym old_is) stored) here in
    let words : words_then had c.in_ok-words.words ≡ mapping_words which k.entries k.counts = c.in_ok-words.ensures.words k is spelled had here.count first in
    record {
      stored = wrote.stored;
      held = wrote.held;
      is = record {
        stream = c.in_ok-stream.stream;
        rewrites = subst (λ (ns : List ℕ). Rewrites s wrote.stored (cond_stream which pool.cond) c.in_ok-stream.stream ns) words
            (subst (λ (x : Stream). Rewrites s wrote.stored x c.in_ok-stream.stream (words_then had c.in_ok-words.words)) old_is wrote.is);
        cond = c.with_cond-pool.ensures.value;
      };
    }

pub returns-clause-done : goal.returns-clause-done
returns-clause-done g c = ap (λ (t : CondStreams). t.done) c.with_cond-pool.ensures.value ∙ still_done c.args.which c.args.pool.now.cond c.in_ok-stream.stream

pub returns-clause-trees : goal.returns-clause-trees
returns-clause-trees g c = λ stage cond next others was turned rest goes_on none h.
    let x = c.args.pool.now in
    let which = c.args.which in
    let stands = cond_stands stage cond others (g.S.Shelf.tells c.args.shelf.now) (g.S.Shelf.world c.args.shelf.now).now.seen x h which in
    let had = subst (λ (s : Stage). IsCondAt s x which (h.cond which)) was (h.are_cond which) in
    let old_is : c.cond_of-old.result ≡ cond_stream which x.cond = c.cond_of-old.ensures.value in
    let here = subst (λ (t : Stream). HasWords h.stored t (h.cond which)) (sym old_is) stands.1 in
    let words = words_then (h.cond which) c.in_ok-words.words in
    let wrote = c.in_ok-stream.ensures.writes h.stored (h.cond which) h.held (subst (λ (t : Stream). AreStored (tree_reach h.stored t.tree) h.stored) (sym old_is) stands.0) here in
    let o = returns-clause-pool g c in
    cond_written stage cond next others (g.S.Shelf.tells c.args.shelf.now) _ (g.S.Shelf.world c.args.shelf.now).now.seen _ x _ (record { version = refl; turned = refl; lawful_old = c.requires.pool.lawful; lawful = o.lawful }) c.put_log.ensures.continues.space refl refl none h which c.in_ok-stream.stream words c.with_cond-pool.ensures.value
    (record { stored = wrote.stored; held = wrote.held; is = subst (λ (t : Stream). Rewrites h.stored wrote.stored t c.in_ok-stream.stream words) old_is wrote.is })
    (λ k at.
    let spelled = cond_spelled c.args.logs x which (h.cond which) had k at in
    (c.in_ok-words.ensures.words k at spelled (h.cond which) here.count (λ grows. (told_of_cond c.args.logs x which (h.cond which) had grows k at).0 goes_on), spelled)) turned rest
