use Rattle.std.proofs.Common.{◌/◌, length, refl}
use Rattle.zr_vdev.proofs.Taking.{takes_frame}
use Rattle.zr_vdev.proofs.Overwriting.{same_devices, still_all_read}
use Rattle.zr_vdev.proofs.cached.put_block.Goals as goal

pub returns-in-Ok-keep_block-clause-cache : goal.returns-in-Ok-keep_block-clause-cache
returns-in-Ok-keep_block-clause-cache g c = λ told read.
    let s = c.args.space.now in
    let t = c.write_block.new.space in
    let frame = takes_frame c.args.mount.now.kind (g.P.Place.policy c.args.mount.now.pick.now) (length c.args.bytes.now / 4096) s t c.in-Ok.b.at c.in-Ok.ensures.taken in
    still_all_read c.args.mount.now.slots.now c.in-Ok.b.at c.requires.mounted.apart (g.S.Shelf.world c.args.shelf.now) (g.S.Shelf.world c.write_block.new.shelf) (c.in-Ok.ensures.written told)
    s t (same_devices s t frame) c.in-Ok.b c.args.bytes.now refl c.in-Ok.ensures.run (c.in-Ok.ensures.there told) c.args.cache.now c.keep_block.new.cache c.keep_block.ensures.kept read

pub returns-in-Err-keep_block-clause-cache : goal.returns-in-Err-keep_block-clause-cache
returns-in-Err-keep_block-clause-cache g c = λ told read.
    let s = c.args.space.now in
    let t = c.write_block.new.space in
    let frame = takes_frame c.args.mount.now.kind (g.P.Place.policy c.args.mount.now.pick.now) (length c.args.bytes.now / 4096) s t c.in-Ok.b.at c.in-Ok.ensures.taken in
    still_all_read c.args.mount.now.slots.now c.in-Ok.b.at c.requires.mounted.apart (g.S.Shelf.world c.args.shelf.now) (g.S.Shelf.world c.write_block.new.shelf) (c.in-Ok.ensures.written told)
    s t (same_devices s t frame) c.in-Ok.b c.args.bytes.now refl c.in-Ok.ensures.run (c.in-Ok.ensures.there told) c.args.cache.now c.keep_block.new.cache c.keep_block.ensures.kept read
