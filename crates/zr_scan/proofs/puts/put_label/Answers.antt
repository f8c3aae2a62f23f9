use Rattle.std.proofs.Common.{rules}
use Rattle.std.specs.Prelude.{slice_index}
use Rattle.zr_shelf.specs.Disks.{disk}
use Rattle.zr_scan.proofs.Spacing.{label_read}
use Rattle.zr_scan.proofs.puts.put_label.Goals as goal

pub returns-clause-there : goal.returns-clause-there
returns-clause-there g c = λ t.
    label_read (disk (g.S.Shelf.world c.put_each.new.shelf).now.seen c.args.slot) (slice_index (g.S.Shelf.sizes c.args.shelf.now) c.args.slot) c.size.result c.args.n c.label_place-places.result c.encode.result c.args.l.now
    c.size.ensures c.label_place-places.ensures (search rules) c.encode.ensures (c.in_ok-put_each.ensures.there t)
