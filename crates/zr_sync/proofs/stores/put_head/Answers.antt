use Rattle.std.proofs.Common.{◌≡◌, ◌∙◌, true, None, refl, rules}
use Rattle.zr_vdev.proofs.Follows.{continues_itself}
use Rattle.zr_rules.specs.Roles.{is_deferred_role}
use Rattle.zr_rules.specs.Space.{role_at}
use Rattle.zr_vdev.specs.declared.kind.Kind.TheVariants.{Meta}
use Rattle.zr_sync.proofs.HeadTrees.{now_lost}
use Rattle.zr_sync.proofs.Objects.{now_held}
use Rattle.zr_sync.proofs.Safe.{stored_safe}
use Rattle.zr_sync.proofs.Standing.{head_stands}
use Rattle.zr_sync.proofs.stores.put_head.Goals as goal

pub returns-clause-stands : goal.returns-clause-stands
returns-clause-stands g c = λ s h.
    let v = c.new-store.ensures in
    let f = c.write_head.ensures.follows c.new-store.result (refl, refl, refl, refl, continues_itself _ _ _ _ _ _ _ _) in
    let mount = f.3 ∙ v.mount in
    let store = c.write_head.new.store in
    let put = c.in_ok-write_head.ensures.stores s (rw (v.space, v.shelf, v.cache, v.lost, v.mount) h) in
    let stands = head_stands store.mount.kind store.mount.slots.now (g.S.Shelf.tells store.shelf.now) (g.S.Shelf.world store.shelf.now).now.seen store.space.now store.lost store.cache.now c.args.rows.now s put.stored c.args.head.now _ _ put.held put.is in
    search (rules, stands, f, mount)

pub returns-clause-safe : goal.returns-clause-safe
returns-clause-safe g c = λ meta s h.
    let v = c.new-store.ensures in
    let f = c.write_head.ensures.follows c.new-store.result (refl, refl, refl, refl, continues_itself _ _ _ _ _ _ _ _) in
    let mount = f.3 ∙ v.mount in
    let store = c.write_head.new.store in
    let put = c.in_ok-write_head.ensures.stores s (rw (v.space, v.shelf, v.cache, v.lost, v.mount) h) in
    let kind : store.mount.kind ≡ Meta = cc in
    let safe = stored_safe store.mount.kind store.mount.slots.now (g.S.Shelf.tells store.shelf.now) (g.S.Shelf.world store.shelf.now).now.seen store.space.now store.lost store.cache.now c.args.rows.now s put.stored c.args.head.now _ _ kind put.held put.is in
    search (rules, safe, f, mount)

pub returns-clause-continues : goal.returns-clause-continues
returns-clause-continues g c =
    let v = c.new-store.ensures in
    let f = c.write_head.ensures.follows c.new-store.result (refl, refl, refl, refl, continues_itself _ _ _ _ _ _ _ _) in
    let mount = f.3 ∙ v.mount in
    let goes = f.4 in
    search (rules, goes, v, mount)

pub returns-in_err-write_head-clause-continues : goal.returns-in_err-write_head-clause-continues
returns-in_err-write_head-clause-continues g c =
    let v = c.new-store.ensures in
    let f = c.write_head.ensures.follows c.new-store.result (refl, refl, refl, refl, continues_itself _ _ _ _ _ _ _ _) in
    let mount = f.3 ∙ v.mount in
    let goes = f.4 in
    search (rules, goes, v, mount)

pub returns-clause-waits : goal.returns-clause-waits
returns-clause-waits g c = λ d u is.
    let v = c.new-store.ensures in
    let f = c.write_head.ensures.follows c.new-store.result (refl, refl, refl, refl, continues_itself _ _ _ _ _ _ _ _) in
    let store = c.write_head.new.store in
    let still = (c.in_ok-write_head.ensures.adds c.new-store.result (λ none. (none, λ e w waits. waits)) v.lost).1 in
    let now : is_deferred_role (role_at store.space.now d u) ≡ true = search (rules, is, f) in
    let was = still d u now in
    search (rules, was, v)

pub returns-clause-stores : goal.returns-clause-stores
returns-clause-stores g c = λ s h.
    let v = c.new-store.ensures in
    let f = c.write_head.ensures.follows c.new-store.result (refl, refl, refl, refl, continues_itself _ _ _ _ _ _ _ _) in
    let mount = f.3 ∙ v.mount in
    let store = c.write_head.new.store in
    let put = c.in_ok-write_head.ensures.stores s (rw (v.space, v.shelf, v.cache, v.lost, v.mount) h) in
    let none : store.lost ≡ None = (c.in_ok-write_head.ensures.adds c.new-store.result (λ is. (is, λ d u waits. waits)) v.lost).0 in
    now_held (λ m held. search (rules, held, f, mount))
    (now_lost none put)
