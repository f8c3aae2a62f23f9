use Rattle.std.proofs.Common.{◌∙◌, [], ◌∷◌, Option, sym, subst, arith}
use Rattle.zr_base.specs.declared.space.Dva.{Dva}
use Rattle.zr_store.specs.Causes.{Spends}
use Rattle.zr_store.specs.Store.{Now, Stored, Swaps}
use Rattle.zr_vdev.specs.declared.kind.Mount.{Mount}
use Rattle.zr_vdev.specs.Runs.{account_of}
use Rattle.zr_vdev.specs.Stores.{HoldsBlocks, Continues}
use Rattle.zr_vdev.proofs.Giving.{given_devices, given_room, given_read, given_step}
use Rattle.zr_vdev.proofs.Moves.{is_there, free_held}
use Rattle.zr_vdev.proofs.Follows.{continues_on, spends, no_fall}
use Rattle.zr_vdev.proofs.vdev.VdevBlocks.free.Goals as goal

pub returns-clause-follows : goal.returns-clause-follows
returns-clause-follows g c = λ start h.
    let v = c.args.self.now in
    let n = c.give.new.self in
    let e = c.in_ok-_given.ensures in
    let sizes = g.S.Shelf.sizes in
    let counts = g.S.Shelf.counts in
    let tells = g.S.Shelf.tells in
    let world = g.S.Shelf.world in
    let step = given_step v.mount.kind v.space.now n.space.now v.cache.now n.cache.now c.args.b.now c.in_ok-_given._given e.none e.gives (λ is. (e.stored.0 is).used) v.mount.slots.now (sizes v.shelf.now) (counts v.shelf.now) (tells v.shelf.now) (world v.shelf.now) e.entries e.room in
    let same_shelf = subst (λ (x : g.row.S.Denot). Continues v.mount.kind v.mount.slots.now (sizes v.shelf.now) (sizes x) (counts v.shelf.now) (counts x) (tells v.shelf.now) (tells x) (world v.shelf.now) (world x) v.space.now n.space.now v.cache.now n.cache.now) (sym e.shelf) step in (
      e.names.0 ∙ h.0,
      e.names.1 ∙ h.1,
      e.names.2 ∙ h.2,
      e.rest.0 ∙ h.3,
      continues_on (λ (m : Mount g.row.P.Denot). m.kind) (λ (m : Mount g.row.P.Denot). m.slots.now) start.mount v.mount h.3 h.4 same_shelf,
    )

pub returns-clause-costs : goal.returns-clause-costs
returns-clause-costs g c =
    let v = c.args.self.now in
    let n = c.give.new.self in
    let e = c.in_ok-_given.ensures in
    let counts = g.S.Shelf.counts in
    let room = given_room v.mount.kind v.space.now n.space.now v.cache.now n.cache.now c.args.b.now c.in_ok-_given._given e.none e.gives (λ is. (e.stored.0 is).used) in
    let devices = given_devices v.mount.kind v.space.now n.space.now v.cache.now n.cache.now c.args.b.now c.in_ok-_given._given e.none e.gives (λ is. (e.stored.0 is).used) in
    subst (λ (x : g.row.S.Denot). Spends 0 0 1 (account_of (counts v.shelf.now).disk v.space.now) (account_of (counts x).disk n.space.now)) (sym e.shelf)
    (spends 0 0 1 (counts v.shelf.now) (counts v.shelf.now) v.space.now n.space.now (no_fall (counts v.shelf.now)) (omega (arith, room)) devices)

pub returns-clause-ok : goal.returns-clause-ok
returns-clause-ok g c = λ s held are.
    let v = c.args.self.now in
    let n = c.give.new.self in
    let e = c.in_ok-_given.ensures in
    let tells = g.S.Shelf.tells in
    let world = g.S.Shelf.world in
    let disks = (world v.shelf.now).now.seen in
    let stored = is_there v.mount.kind v.mount.slots.now (tells v.shelf.now) disks v.space.now v.lost v.cache.now c.args.b.now s held are in
    let gives = e.gives (e.stored.1 stored) in
    let devices = given_devices v.mount.kind v.space.now n.space.now v.cache.now n.cache.now c.args.b.now c.in_ok-_given._given e.none e.gives (λ is. (e.stored.0 is).used) in
    let read = given_read v.mount.kind v.space.now n.space.now v.cache.now n.cache.now c.args.b.now c.in_ok-_given._given e.none e.gives (λ is. (e.stored.0 is).used) disks v.mount.slots.now e.entries held.read in
    let freed = free_held v.mount.kind v.mount.slots.now (tells v.shelf.now) disks v.space.now n.space.now v.lost v.cache.now n.cache.now c.args.b.now c.args.b.now.birth s devices gives read held are in
    let at_shelf = subst (λ (x : g.row.S.Denot). Now (HoldsBlocks v.mount.kind v.mount.slots.now (tells x) (world x).now.seen n.space.now v.lost n.cache.now) (λ (m : Stored). Swaps s m (c.args.b.now ∷ []) [])) (sym e.shelf) freed in
    let at_lost = subst (λ (x : Option Dva). Now (HoldsBlocks v.mount.kind v.mount.slots.now (tells n.shelf.now) (world n.shelf.now).now.seen n.space.now x n.cache.now) (λ (m : Stored). Swaps s m (c.args.b.now ∷ []) [])) (sym e.rest.1) at_shelf in
    subst (λ (x : Mount g.row.P.Denot). Now (HoldsBlocks x.kind x.slots.now (tells n.shelf.now) (world n.shelf.now).now.seen n.space.now n.lost n.cache.now) (λ (m : Stored). Swaps s m (c.args.b.now ∷ []) [])) (sym e.rest.0) at_lost
