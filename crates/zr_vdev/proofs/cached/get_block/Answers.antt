use Rattle.std.proofs.Common.{option_map, sym, ◌∙◌, ap, subst}
use Rattle.zr_cache.specs.declared.table.Cache.{Cache}
use Rattle.zr_vdev.specs.Caches.{AreRead}
use Rattle.zr_vdev.proofs.Caching.{read_promoted, read_put, read_found, read_still}
use Rattle.zr_vdev.proofs.cached.get_block.Goals as goal

pub returns-in_err-bytes-clause-cache : goal.returns-in_err-bytes-clause-cache
returns-in_err-bytes-clause-cache g c = λ told read.
    read_promoted (g.S.Shelf.world c.args.shelf.now).now.seen c.args.slots.now c.args.space.now c.args.cache.now c.get.new.self c.args.b.now c.get.ensures.order read

pub returns-in-Some-clause-bytes : goal.returns-in-Some-clause-bytes
returns-in-Some-clause-bytes g c = λ told read.
    read_found (g.S.Shelf.world c.args.shelf.now).now.seen c.args.slots.now c.args.space.now c.args.cache.now c.args.b.now c.in-Some.bytes.items
    (sym c.in_ok-bytes.ensures.bytes ∙ ap (option_map (λ v. v.items)) c.in-Some.is) read

pub returns-in-Some-clause-cache : goal.returns-in-Some-clause-cache
returns-in-Some-clause-cache g c = λ told read.
    read_promoted (g.S.Shelf.world c.args.shelf.now).now.seen c.args.slots.now c.args.space.now c.args.cache.now c.get.new.self c.args.b.now c.get.ensures.order read

pub returns-in_err-bytes-2-clause-cache : goal.returns-in_err-bytes-2-clause-cache
returns-in_err-bytes-2-clause-cache g c = λ told read.
    read_still c.args.slots.now c.args.space.now c.get.new.self (g.S.Shelf.world c.args.shelf.now) (g.S.Shelf.world c.read_block.new.shelf) (c.read_block.ensures.still told)
    (read_promoted (g.S.Shelf.world c.args.shelf.now).now.seen c.args.slots.now c.args.space.now c.args.cache.now c.get.new.self c.args.b.now c.get.ensures.order read)

pub returns-in_err-copy-clause-cache : goal.returns-in_err-copy-clause-cache
returns-in_err-copy-clause-cache g c = λ told read.
    read_still c.args.slots.now c.args.space.now c.get.new.self (g.S.Shelf.world c.args.shelf.now) (g.S.Shelf.world c.read_block.new.shelf) (c.read_block.ensures.still told)
    (read_promoted (g.S.Shelf.world c.args.shelf.now).now.seen c.args.slots.now c.args.space.now c.args.cache.now c.get.new.self c.args.b.now c.get.ensures.order read)

pub returns-in_err-put-clause-cache : goal.returns-in_err-put-clause-cache
returns-in_err-put-clause-cache g c = λ told read.
    read_still c.args.slots.now c.args.space.now c.put.new.self (g.S.Shelf.world c.args.shelf.now) (g.S.Shelf.world c.read_block.new.shelf) (c.read_block.ensures.still told)
    (subst (λ (x : Cache). AreRead (g.S.Shelf.world c.args.shelf.now).now.seen c.args.slots.now c.args.space.now x) (sym c.in_err-put.ensures.err)
    (read_promoted (g.S.Shelf.world c.args.shelf.now).now.seen c.args.slots.now c.args.space.now c.args.cache.now c.get.new.self c.args.b.now c.get.ensures.order read))

pub returns-clause-cache : goal.returns-clause-cache
returns-clause-cache g c = λ told read.
    let seen = (g.S.Shelf.world c.args.shelf.now).now.seen in
    read_still c.args.slots.now c.args.space.now c.put.new.self (g.S.Shelf.world c.args.shelf.now) (g.S.Shelf.world c.read_block.new.shelf) (c.read_block.ensures.still told)
    (read_put seen c.args.slots.now c.args.space.now c.get.new.self c.put.new.self c.args.b.now (record { bytes = c.in_ok-copy.copy; runs = c.in_ok-bytes-2.field-0.runs }) c.in_ok-put.ensures.entries
    (record { runs_of = c.in_ok-bytes-2.ensures.runs; same = let copied = c.in_ok-copy.ensures.items in let sliced = c.as_slice.ensures.value in let is = c.in_ok-bytes-2.bytes-is in let read_is = c.in_ok-bytes-2.ensures.bytes told in cc })
    (read_promoted seen c.args.slots.now c.args.space.now c.args.cache.now c.get.new.self c.args.b.now c.get.ensures.order read))
