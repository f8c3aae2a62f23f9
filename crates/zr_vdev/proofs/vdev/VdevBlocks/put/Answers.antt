use Rattle.std.proofs.Common.{◌≡◌, ◌/◌, length, Some, None, inr, ◌∙◌, rules, arith}
use Rattle.zr_store.specs.declared.StoreErr.TheVariants.{NoRun}
use Rattle.zr_rules.specs.Equation.{devices_in}
use Rattle.zr_vdev.specs.declared.kind.Mount.{Mount}
use Rattle.zr_vdev.proofs.Mounting.{have_disks}
use Rattle.zr_vdev.proofs.Moves.{put_held, given_up_held}
use Rattle.zr_vdev.proofs.Partly.{settled_held}
use Rattle.zr_vdev.proofs.Follows.{put_gives_nothing, continues_on, lost_step, put_step, put_room, lost_room, may_devices, spends, missing, some_units, taken_within}
use Rattle.zr_vdev.proofs.vdev.VdevBlocks.put.Goals as goal

pub returns-in-Ok-clause-follows : goal.returns-in-Ok-clause-follows
returns-in-Ok-clause-follows g c = λ start h.
    let v = c.args.self.now in
    let kind = v.mount.kind in
    let slots = v.mount.slots.now in
    let policy = g.P.Place.policy v.mount.pick.now in
    let want = length c.args.bytes.now / 4096 in
    let mid = c.give_back_lost.new.space in
    let new = c.put_block.new.space in
    let world = g.S.Shelf.world v.shelf.now in
    let after = g.S.Shelf.world c.put_block.new.shelf in
    let tells = g.S.Shelf.tells v.shelf.now in
    let tells_after = g.S.Shelf.tells c.put_block.new.shelf in
    let sizes = g.S.Shelf.sizes v.shelf.now in
    let counts = g.S.Shelf.counts v.shelf.now in
    let counts_after = g.S.Shelf.counts c.put_block.new.shelf in
    let gives = c.in_ok-give_back_lost.ensures.ok in
    let devices = c.give_back_lost.ensures.devices in
    let e = c.put_block.ensures in
    let lost = lost_step kind slots sizes counts tells world v.space.now mid v.cache.now v.lost v.mount.txg gives in
    let step = put_step kind policy want slots sizes (g.S.Shelf.sizes c.put_block.new.shelf) counts counts_after tells tells_after world after mid new v.cache.now c.put_block.new.cache (Some c.in-Ok.b.at) v.mounted.apart (some_units (length c.args.bytes.now) c.requires.size)
    e.sizes e.none_fell e.told c.in-Ok.ensures.taken (λ told. (c.in-Ok.ensures.taken, c.in-Ok.ensures.written told)) e.cache e.room in
    let kind_of = λ (m : Mount g.row.P.Denot). m.kind in
    let slots_of = λ (m : Mount g.row.P.Denot). m.slots.now in
    (h.0, h.1, h.2, h.3, continues_on kind_of slots_of start.mount v.mount h.3 (continues_on kind_of slots_of start.mount v.mount h.3 h.4 lost) step)

pub returns-in-Ok-clause-adds : goal.returns-in-Ok-clause-adds
returns-in-Ok-clause-adds g c = λ start h.
    let v = c.args.self.now in
    put_gives_nothing v.mount.kind (g.P.Place.policy v.mount.pick.now) (length c.args.bytes.now / 4096) start.space.now v.space.now c.give_back_lost.new.space c.put_block.new.space start.lost v.lost v.mount.txg c.in-Ok.b.at h
    c.in_ok-give_back_lost.ensures.ok c.in-Ok.ensures.taken

pub returns-in-Ok-clause-costs : goal.returns-in-Ok-clause-costs
returns-in-Ok-clause-costs g c =
    let v = c.args.self.now in
    let kind = v.mount.kind in
    let slots = v.mount.slots.now in
    let policy = g.P.Place.policy v.mount.pick.now in
    let want = length c.args.bytes.now / 4096 in
    let mid = c.give_back_lost.new.space in
    let new = c.put_block.new.space in
    let world = g.S.Shelf.world v.shelf.now in
    let after = g.S.Shelf.world c.put_block.new.shelf in
    let tells = g.S.Shelf.tells v.shelf.now in
    let tells_after = g.S.Shelf.tells c.put_block.new.shelf in
    let sizes = g.S.Shelf.sizes v.shelf.now in
    let counts = g.S.Shelf.counts v.shelf.now in
    let counts_after = g.S.Shelf.counts c.put_block.new.shelf in
    let gives = c.in_ok-give_back_lost.ensures.ok in
    let devices = c.give_back_lost.ensures.devices in
    let e = c.put_block.ensures in
    spends want 1 0 counts counts_after v.space.now new e.none_fell (put_room kind policy want v.space.now mid new v.lost (Some c.in-Ok.b.at) v.mount.txg gives c.in-Ok.ensures.taken)
    (may_devices kind policy want mid new (Some c.in-Ok.b.at) c.in-Ok.ensures.taken ∙ devices)

pub returns-in-Ok-clause-ok : goal.returns-in-Ok-clause-ok
returns-in-Ok-clause-ok g c = λ s held.
    let v = c.args.self.now in
    let kind = v.mount.kind in
    let slots = v.mount.slots.now in
    let policy = g.P.Place.policy v.mount.pick.now in
    let want = length c.args.bytes.now / 4096 in
    let mid = c.give_back_lost.new.space in
    let new = c.put_block.new.space in
    let world = g.S.Shelf.world v.shelf.now in
    let after = g.S.Shelf.world c.put_block.new.shelf in
    let tells = g.S.Shelf.tells v.shelf.now in
    let tells_after = g.S.Shelf.tells c.put_block.new.shelf in
    let sizes = g.S.Shelf.sizes v.shelf.now in
    let counts = g.S.Shelf.counts v.shelf.now in
    let counts_after = g.S.Shelf.counts c.put_block.new.shelf in
    let gives = c.in_ok-give_back_lost.ensures.ok in
    let devices = c.give_back_lost.ensures.devices in
    let e = c.put_block.ensures in
    let settled = settled_held kind slots tells world.now.seen v.space.now mid v.lost v.mount.txg v.cache.now s gives held in
    put_held kind policy want slots v.mounted.apart tells tells_after mid new world after v.cache.now c.put_block.new.cache c.in-Ok.b c.args.bytes.now s (some_units (length c.args.bytes.now) c.requires.size) c.in-Ok.ensures.within
    c.in-Ok.ensures.taken (c.in-Ok.ensures.written held.told) (c.in-Ok.ensures.there held.told) (e.told held.told) (e.cache held.told settled.read) settled

pub returns-in_err-give_back_lost-in-Err-clause-follows : goal.returns-in_err-give_back_lost-in-Err-clause-follows
returns-in_err-give_back_lost-in-Err-clause-follows g c = λ start h.
    let v = c.args.self.now in
    let kind = v.mount.kind in
    let slots = v.mount.slots.now in
    let policy = g.P.Place.policy v.mount.pick.now in
    let want = length c.args.bytes.now / 4096 in
    let mid = c.give_back_lost.new.space in
    let new = c.put_block.new.space in
    let world = g.S.Shelf.world v.shelf.now in
    let after = g.S.Shelf.world c.put_block.new.shelf in
    let tells = g.S.Shelf.tells v.shelf.now in
    let tells_after = g.S.Shelf.tells c.put_block.new.shelf in
    let sizes = g.S.Shelf.sizes v.shelf.now in
    let counts = g.S.Shelf.counts v.shelf.now in
    let counts_after = g.S.Shelf.counts c.put_block.new.shelf in
    let gives = c.in_ok-give_back_lost.ensures.ok in
    let devices = c.give_back_lost.ensures.devices in
    let e = c.put_block.ensures in
    let lost = lost_step kind slots sizes counts tells world v.space.now mid v.cache.now v.lost v.mount.txg gives in
    let step = put_step kind policy want slots sizes (g.S.Shelf.sizes c.put_block.new.shelf) counts counts_after tells tells_after world after mid new v.cache.now c.put_block.new.cache c.in-Err.failure.taken v.mounted.apart (some_units (length c.args.bytes.now) c.requires.size)
    e.sizes e.none_fell e.told c.in-Err.ensures.kept c.in-Err.ensures.err e.cache e.room in
    let kind_of = λ (m : Mount g.row.P.Denot). m.kind in
    let slots_of = λ (m : Mount g.row.P.Denot). m.slots.now in
    let undone = lost_step kind slots (g.S.Shelf.sizes c.put_block.new.shelf) counts_after tells_after after new c.give_back_lost-in-Err.new.space c.put_block.new.cache None v.mount.txg c.in_err-give_back_lost-in-Err.ensures.err in
    (h.0, h.1, h.2, h.3, continues_on kind_of slots_of start.mount v.mount h.3 (continues_on kind_of slots_of start.mount v.mount h.3 (continues_on kind_of slots_of start.mount v.mount h.3 h.4 lost) step) undone)

pub returns-in_err-give_back_lost-in-Err-clause-costs : goal.returns-in_err-give_back_lost-in-Err-clause-costs
returns-in_err-give_back_lost-in-Err-clause-costs g c =
    let v = c.args.self.now in
    let kind = v.mount.kind in
    let slots = v.mount.slots.now in
    let policy = g.P.Place.policy v.mount.pick.now in
    let want = length c.args.bytes.now / 4096 in
    let mid = c.give_back_lost.new.space in
    let new = c.put_block.new.space in
    let world = g.S.Shelf.world v.shelf.now in
    let after = g.S.Shelf.world c.put_block.new.shelf in
    let tells = g.S.Shelf.tells v.shelf.now in
    let tells_after = g.S.Shelf.tells c.put_block.new.shelf in
    let sizes = g.S.Shelf.sizes v.shelf.now in
    let counts = g.S.Shelf.counts v.shelf.now in
    let counts_after = g.S.Shelf.counts c.put_block.new.shelf in
    let gives = c.in_ok-give_back_lost.ensures.ok in
    let devices = c.give_back_lost.ensures.devices in
    let e = c.put_block.ensures in
    let room = put_room kind policy want v.space.now mid new v.lost c.in-Err.failure.taken v.mount.txg gives c.in-Err.ensures.kept in
    let more = lost_room kind new c.give_back_lost-in-Err.new.space None v.mount.txg c.in_err-give_back_lost-in-Err.ensures.err in
    spends want 1 0 counts counts_after v.space.now c.give_back_lost-in-Err.new.space e.none_fell (omega (arith, room, more)) (c.give_back_lost-in-Err.ensures.devices ∙ may_devices kind policy want mid new c.in-Err.failure.taken c.in-Err.ensures.kept ∙ devices)

pub returns-in_ok-give_back_lost-in-Err-clause-follows : goal.returns-in_ok-give_back_lost-in-Err-clause-follows
returns-in_ok-give_back_lost-in-Err-clause-follows g c = λ start h.
    let v = c.args.self.now in
    let kind = v.mount.kind in
    let slots = v.mount.slots.now in
    let policy = g.P.Place.policy v.mount.pick.now in
    let want = length c.args.bytes.now / 4096 in
    let mid = c.give_back_lost.new.space in
    let new = c.put_block.new.space in
    let world = g.S.Shelf.world v.shelf.now in
    let after = g.S.Shelf.world c.put_block.new.shelf in
    let tells = g.S.Shelf.tells v.shelf.now in
    let tells_after = g.S.Shelf.tells c.put_block.new.shelf in
    let sizes = g.S.Shelf.sizes v.shelf.now in
    let counts = g.S.Shelf.counts v.shelf.now in
    let counts_after = g.S.Shelf.counts c.put_block.new.shelf in
    let gives = c.in_ok-give_back_lost.ensures.ok in
    let devices = c.give_back_lost.ensures.devices in
    let e = c.put_block.ensures in
    let lost = lost_step kind slots sizes counts tells world v.space.now mid v.cache.now v.lost v.mount.txg gives in
    let step = put_step kind policy want slots sizes (g.S.Shelf.sizes c.put_block.new.shelf) counts counts_after tells tells_after world after mid new v.cache.now c.put_block.new.cache c.in-Err.failure.taken v.mounted.apart (some_units (length c.args.bytes.now) c.requires.size)
    e.sizes e.none_fell e.told c.in-Err.ensures.kept c.in-Err.ensures.err e.cache e.room in
    let kind_of = λ (m : Mount g.row.P.Denot). m.kind in
    let slots_of = λ (m : Mount g.row.P.Denot). m.slots.now in
    let undone = lost_step kind slots (g.S.Shelf.sizes c.put_block.new.shelf) counts_after tells_after after new c.give_back_lost-in-Err.new.space c.put_block.new.cache c.in-Err.failure.taken v.mount.txg c.in_ok-give_back_lost-in-Err.ensures.ok in
    (h.0, h.1, h.2, h.3, continues_on kind_of slots_of start.mount v.mount h.3 (continues_on kind_of slots_of start.mount v.mount h.3 (continues_on kind_of slots_of start.mount v.mount h.3 h.4 lost) step) undone)

pub returns-in_ok-give_back_lost-in-Err-clause-costs : goal.returns-in_ok-give_back_lost-in-Err-clause-costs
returns-in_ok-give_back_lost-in-Err-clause-costs g c =
    let v = c.args.self.now in
    let kind = v.mount.kind in
    let slots = v.mount.slots.now in
    let policy = g.P.Place.policy v.mount.pick.now in
    let want = length c.args.bytes.now / 4096 in
    let mid = c.give_back_lost.new.space in
    let new = c.put_block.new.space in
    let world = g.S.Shelf.world v.shelf.now in
    let after = g.S.Shelf.world c.put_block.new.shelf in
    let tells = g.S.Shelf.tells v.shelf.now in
    let tells_after = g.S.Shelf.tells c.put_block.new.shelf in
    let sizes = g.S.Shelf.sizes v.shelf.now in
    let counts = g.S.Shelf.counts v.shelf.now in
    let counts_after = g.S.Shelf.counts c.put_block.new.shelf in
    let gives = c.in_ok-give_back_lost.ensures.ok in
    let devices = c.give_back_lost.ensures.devices in
    let e = c.put_block.ensures in
    let room = put_room kind policy want v.space.now mid new v.lost c.in-Err.failure.taken v.mount.txg gives c.in-Err.ensures.kept in
    let more = lost_room kind new c.give_back_lost-in-Err.new.space c.in-Err.failure.taken v.mount.txg c.in_ok-give_back_lost-in-Err.ensures.ok in
    spends want 1 0 counts counts_after v.space.now c.give_back_lost-in-Err.new.space e.none_fell (omega (arith, room, more)) (c.give_back_lost-in-Err.ensures.devices ∙ may_devices kind policy want mid new c.in-Err.failure.taken c.in-Err.ensures.kept ∙ devices)

pub returns-in_ok-give_back_lost-in-Err-clause-no_run : goal.returns-in_ok-give_back_lost-in-Err-clause-no_run
returns-in_ok-give_back_lost-in-Err-clause-no_run g c = λ needed longest is.
    let v = c.args.self.now in
    let kind = v.mount.kind in
    let slots = v.mount.slots.now in
    let policy = g.P.Place.policy v.mount.pick.now in
    let want = length c.args.bytes.now / 4096 in
    let mid = c.give_back_lost.new.space in
    let new = c.put_block.new.space in
    let world = g.S.Shelf.world v.shelf.now in
    let after = g.S.Shelf.world c.put_block.new.shelf in
    let tells = g.S.Shelf.tells v.shelf.now in
    let tells_after = g.S.Shelf.tells c.put_block.new.shelf in
    let sizes = g.S.Shelf.sizes v.shelf.now in
    let counts = g.S.Shelf.counts v.shelf.now in
    let counts_after = g.S.Shelf.counts c.put_block.new.shelf in
    let gives = c.in_ok-give_back_lost.ensures.ok in
    let devices = c.give_back_lost.ensures.devices in
    let e = c.put_block.ensures in
    let error : c.in-Err.failure.error ≡ NoRun needed longest = search (rules, is) in
    let none = c.in-Err.ensures.no_run needed longest error in
    missing kind v.space.now mid v.lost v.mount.txg gives counts.disk want needed longest (some_units (length c.args.bytes.now) c.requires.size) none.0 none.1

pub returns-in_ok-give_back_lost-in-Err-clause-err : goal.returns-in_ok-give_back_lost-in-Err-clause-err
returns-in_ok-give_back_lost-in-Err-clause-err g c = λ s held.
    let v = c.args.self.now in
    let kind = v.mount.kind in
    let slots = v.mount.slots.now in
    let policy = g.P.Place.policy v.mount.pick.now in
    let want = length c.args.bytes.now / 4096 in
    let mid = c.give_back_lost.new.space in
    let new = c.put_block.new.space in
    let world = g.S.Shelf.world v.shelf.now in
    let after = g.S.Shelf.world c.put_block.new.shelf in
    let tells = g.S.Shelf.tells v.shelf.now in
    let tells_after = g.S.Shelf.tells c.put_block.new.shelf in
    let sizes = g.S.Shelf.sizes v.shelf.now in
    let counts = g.S.Shelf.counts v.shelf.now in
    let counts_after = g.S.Shelf.counts c.put_block.new.shelf in
    let gives = c.in_ok-give_back_lost.ensures.ok in
    let devices = c.give_back_lost.ensures.devices in
    let e = c.put_block.ensures in
    let settled = settled_held kind slots tells world.now.seen v.space.now mid v.lost v.mount.txg v.cache.now s gives held in
    inr (given_up_held kind policy want slots v.mounted.apart tells tells_after mid new c.give_back_lost-in-Err.new.space world after v.cache.now c.put_block.new.cache c.in-Err.failure.taken v.mount.txg s (some_units (length c.args.bytes.now) c.requires.size)
    (taken_within new c.in-Err.failure.taken c.in-Err.ensures.within_taken) (c.in-Err.ensures.err held.told) c.give_back_lost-in-Err.ensures.devices c.in_ok-give_back_lost-in-Err.ensures.ok (e.told held.told) (e.cache held.told settled.read) settled)

pub invariant_of-self-in-Ok-1 : goal.invariant_of-self-in-Ok-1
invariant_of-self-in-Ok-1 g c =
    let v = c.args.self.now in
    record {
      mounted = have_disks (g.S.Shelf.sizes c.put_block.new.shelf) v.mount.slots.now (devices_in c.put_block.new.space) c.put_block.ensures.mounted;
      group = v.group;
    }
