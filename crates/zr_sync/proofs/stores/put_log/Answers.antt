use Rattle.std.proofs.Common.{◌∙◌, refl, rules}
use Rattle.zr_vdev.proofs.Follows.{continues_itself}
use Rattle.zr_vdev.proofs.Moves.{begins_held}
use Rattle.zr_sync.specs.Words.{words_then}
use Rattle.zr_sync.proofs.Objects.{now_held}
use Rattle.zr_sync.proofs.Streams.{now_rewritten}
use Rattle.zr_sync.proofs.stores.put_log.Goals as goal

pub returns-clause-writes : goal.returns-clause-writes
returns-clause-writes g c = λ s had h stored has.
    let v = c.new-store.ensures in
    let f = c.put_log_words.ensures.follows c.new-store.result (refl, refl, refl, refl, continues_itself _ _ _ _ _ _ _ _) in
    let mount = f.3 ∙ v.mount in
    let store = c.put_log_words.new.store in
    now_held (λ m held. search (rules, held, f, mount))
    (now_rewritten _ _ s c.args.old.now c.in_ok-put_log_words.field-0 (words_then had c.args.words.now) stored
    (λ m held. begins_held store.mount.kind store.mount.slots.now (g.S.Shelf.tells store.shelf.now) (g.S.Shelf.world store.shelf.now).now.seen store.space.now store.lost store.cache.now m held)
    (c.in_ok-put_log_words.ensures.writes s had (rw (v.space, v.shelf, v.cache, v.lost, v.mount) h) stored has))

pub returns-in_err-put_log_words-clause-continues : goal.returns-in_err-put_log_words-clause-continues
returns-in_err-put_log_words-clause-continues g c =
    let v = c.new-store.ensures in
    let f = c.put_log_words.ensures.follows c.new-store.result (refl, refl, refl, refl, continues_itself _ _ _ _ _ _ _ _) in
    let mount = f.3 ∙ v.mount in
    let goes = f.4 in
    search (rules, goes, v, mount)
