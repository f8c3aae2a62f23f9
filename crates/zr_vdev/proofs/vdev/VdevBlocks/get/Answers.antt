use Rattle.std.proofs.Common.{ap}
use Rattle.zr_shelf.specs.Disks.{Stand}
use Rattle.zr_view.specs.Views.{address_bytes}
use Rattle.zr_vdev.specs.declared.kind.Mount.{Mount}
use Rattle.zr_vdev.specs.Runs.{view_of}
use Rattle.zr_vdev.proofs.Moves.{read_held}
use Rattle.zr_vdev.proofs.Follows.{continues_on, read_step}
use Rattle.zr_vdev.proofs.vdev.VdevBlocks.get.Goals as goal

pub returns-then-stored-clause-follows : goal.returns-then-stored-clause-follows
returns-then-stored-clause-follows g c = λ start h.
    let v = c.args.self.now in
    let e = c.get_block.ensures in
    let step = read_step v.mount.kind v.mount.slots.now (g.S.Shelf.sizes v.shelf.now) (g.S.Shelf.sizes c.get_block.new.shelf) (g.S.Shelf.counts v.shelf.now) (g.S.Shelf.counts c.get_block.new.shelf)
    (g.S.Shelf.tells v.shelf.now) (g.S.Shelf.tells c.get_block.new.shelf) (g.S.Shelf.world v.shelf.now) (g.S.Shelf.world c.get_block.new.shelf) v.space.now v.cache.now c.get_block.new.cache
    e.sizes e.none_fell e.told e.still e.cache e.room in
    (h.0, h.1, h.2, h.3, continues_on (λ (m : Mount g.row.P.Denot). m.kind) (λ (m : Mount g.row.P.Denot). m.slots.now) start.mount v.mount h.3 h.4 step)

pub returns-then-stored-clause-same : goal.returns-then-stored-clause-same
returns-then-stored-clause-same g c = λ s held.
    let v = c.args.self.now in
    let e = c.get_block.ensures in
    let old = g.S.Shelf.world v.shelf.now in
    let new = g.S.Shelf.world c.get_block.new.shelf in
    read_held v.mount.kind v.mount.slots.now (g.S.Shelf.tells v.shelf.now) (g.S.Shelf.tells c.get_block.new.shelf) old.now.seen new.now.seen v.space.now v.lost v.cache.now c.get_block.new.cache s
    (e.told held.told) (e.cache held.told held.read) (λ x h. ap (λ (stand : Stand). address_bytes (view_of stand.seen v.mount.slots.now v.space.now) x) (e.still held.told).now) held
