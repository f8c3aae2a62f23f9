use Rattle.std.proofs.Common.{◌∙◌, refl, rules}
use Rattle.std.proofs.lemmas.Result.{on_ok_weaker}
use Rattle.zr_vdev.proofs.Follows.{continues_itself}
use Rattle.zr_vdev.proofs.Moves.{begins_held}
use Rattle.zr_sync.proofs.Objects.{now_held}
use Rattle.zr_lines.proofs.Holding.{changed_still, now_behind}
use Rattle.zr_lines.proofs.stores.change_at.Goals as goal

pub returns-clause-changed : goal.returns-clause-changed
returns-clause-changed g c = λ s h stored.
    let v = c.new-store.ensures in
    let k = c.fulfil.ensures.changed s (rw (v.space, v.shelf, v.cache, v.lost, v.mount) h) stored in
    let f = c.fulfil.ensures.follows c.new-store.result (refl, refl, refl, refl, continues_itself _ _ _ _ _ _ _ _) in
    let mount = f.3 ∙ v.mount in
    let store = c.fulfil.new.store in
    let old = c.args.group.now in
    let new = c.fulfil.new.group in
    let i = c.args.intent.now in
    on_ok_weaker c.fulfil.result
    (λ m.
    let ends = begins_held store.mount.kind store.mount.slots.now (g.S.Shelf.tells store.shelf.now) (g.S.Shelf.world store.shelf.now).now.seen store.space.now store.lost store.cache.now m.stored m.held in
    let held = ends.held in
    record { stored = ends.stored; held = search (rules, held, f, mount); is = changed_still c.args.id i.rec i.plan.items s old m.stored new ends.stored stored m.is ends.is })
    k

pub returns-clause-held_no : goal.returns-clause-held_no
returns-clause-held_no g c = λ s h r is.
    let v = c.new-store.ensures in
    let k = c.fulfil.ensures.stays_no s (rw (v.space, v.shelf, v.cache, v.lost, v.mount) h) r is in
    let f = c.fulfil.ensures.follows c.new-store.result (refl, refl, refl, refl, continues_itself _ _ _ _ _ _ _ _) in
    let mount = f.3 ∙ v.mount in
    let store = c.fulfil.new.store in
    now_held (λ n held. search (rules, held, f, mount))
    (now_behind s k (λ m held. begins_held store.mount.kind store.mount.slots.now (g.S.Shelf.tells store.shelf.now) (g.S.Shelf.world store.shelf.now).now.seen store.space.now store.lost store.cache.now m held))

pub returns-clause-continues : goal.returns-clause-continues
returns-clause-continues g c =
    let v = c.new-store.ensures in
    let f = c.fulfil.ensures.follows c.new-store.result (refl, refl, refl, refl, continues_itself _ _ _ _ _ _ _ _) in
    let mount = f.3 ∙ v.mount in
    let goes = f.4 in
    search (rules, goes, v, mount)
