use Rattle.std.proofs.Common.{rules, ◌≡◌, ◌∙◌, None, [], refl, sym}
use Rattle.zr_tree.proofs.Raise.{joined}
use Rattle.zr_vdev.proofs.Follows.{continues_itself}
use Rattle.zr_vdev.proofs.Moves.{begins_held}
use Rattle.zr_lines.proofs.Giving.{held_after}
use Rattle.zr_lines.proofs.drops.free_blocks.Goals as goal

pub returns-clause-swaps : goal.returns-clause-swaps
returns-clause-swaps g c = λ s has stored.
    let start = c.new-store.result in
    let end = c.drop_object.new.store in
    let made = c.new-store.ensures in
    let kind : start.mount.kind ≡ c.args.mount.kind = rw made.mount refl in
    let slots : start.mount.slots.now ≡ c.args.mount.slots.now = rw made.mount refl in
    let first = held_after g.S.Shelf.tells (λ h. (g.S.Shelf.world h).now.seen) c.args.mount.kind start.mount.kind c.args.mount.slots.now start.mount.slots.now c.args.shelf.now start.shelf.now c.args.space.now start.space.now _ start.lost c.args.cache.now start.cache.now s
    (sym kind) (sym slots) (sym made.shelf) (sym made.space) (sym made.lost) (sym made.cache) has in
    let n = c.in_ok-drop_object.ensures.swaps s first stored in
    let went = c.drop_object.ensures.follows start (refl, refl, refl, refl, continues_itself start.mount.kind start.mount.slots.now (g.S.Shelf.sizes start.shelf.now) (g.S.Shelf.counts start.shelf.now) (g.S.Shelf.tells start.shelf.now) (g.S.Shelf.world start.shelf.now) start.space.now start.cache.now) in
    let last_kind : end.mount.kind ≡ c.args.mount.kind = rw went.3 kind in
    let last_slots : end.mount.slots.now ≡ c.args.mount.slots.now = rw went.3 slots in
    let anew = begins_held end.mount.kind end.mount.slots.now (g.S.Shelf.tells end.shelf.now) (g.S.Shelf.world end.shelf.now).now.seen end.space.now end.lost end.cache.now n.stored n.held in
    record {
      stored = anew.stored;
      held = held_after g.S.Shelf.tells (λ h. (g.S.Shelf.world h).now.seen) end.mount.kind c.args.mount.kind end.mount.slots.now c.args.mount.slots.now end.shelf.now _ end.space.now _ None None end.cache.now _ anew.stored
          last_kind last_slots (search rules) (search rules) refl (search rules) anew.held;
      is = joined s n.stored anew.stored c.args.blocks.now [] [] n.is anew.is n.held.alone;
    }

pub returns-in_err-drop_object-clause-continues : goal.returns-in_err-drop_object-clause-continues
returns-in_err-drop_object-clause-continues g c =
    let v = c.new-store.ensures in
    let f = c.drop_object.ensures.follows c.new-store.result (refl, refl, refl, refl, continues_itself _ _ _ _ _ _ _ _) in
    let mount = f.3 ∙ v.mount in
    let goes = f.4 in
    search (rules, goes, v, mount)

pub returns-clause-continues : goal.returns-clause-continues
returns-clause-continues g c =
    let v = c.new-store.ensures in
    let f = c.drop_object.ensures.follows c.new-store.result (refl, refl, refl, refl, continues_itself _ _ _ _ _ _ _ _) in
    let mount = f.3 ∙ v.mount in
    let goes = f.4 in
    search (rules, goes, v, mount)
