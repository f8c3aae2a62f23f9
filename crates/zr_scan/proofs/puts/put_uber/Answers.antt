use Rattle.std.specs.Prelude.{slice_index}
use Rattle.zr_shelf.specs.Disks.{disk}
use Rattle.zr_scan.proofs.Spacing.{root_read, root_read_too}
use Rattle.zr_scan.proofs.puts.put_uber.Goals as goal

pub returns-clause-there : goal.returns-clause-there
returns-clause-there g c = λ t.
    root_read (disk (g.S.Shelf.world c.put_each.new.shelf).now.seen c.args.slot) (slice_index (g.S.Shelf.sizes c.args.shelf.now) c.args.slot) c.size.result c.args.first c.root_places-places.result c.encode.result c.args.u.now
    c.size.ensures c.root_places-places.ensures c.encode.ensures.size c.encode.ensures.spelling (c.in_ok-put_each.ensures.there t)

pub returns-clause-there_too : goal.returns-clause-there_too
returns-clause-there_too g c = λ t.
    root_read_too (disk (g.S.Shelf.world c.put_each.new.shelf).now.seen c.args.slot) (slice_index (g.S.Shelf.sizes c.args.shelf.now) c.args.slot) c.size.result c.args.first c.root_places-places.result c.encode.result c.args.u.now
    c.size.ensures c.root_places-places.ensures c.encode.ensures.size c.encode.ensures.spelling (c.in_ok-put_each.ensures.there t)
