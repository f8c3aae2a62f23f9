use Rattle.std.proofs.Common.{◌∙◌, ap, length, List, ℕ}
use Rattle.std.specs.Prelude.{slice_index}
use Rattle.zr_shelf.specs.Disks.{disk}
use Rattle.zr_scan.proofs.Spacing.{ring_cleared}
use Rattle.zr_scan.proofs.puts.clear_rings.Goals as goal

pub returns-clause-there : goal.returns-clause-there
returns-clause-there g c = λ t.
    ring_cleared (disk (g.S.Shelf.world c.put_each.new.shelf).now.seen c.args.slot) (slice_index (g.S.Shelf.sizes c.args.shelf.now) c.args.slot) c.size.result c.ring_places-places.result c.deref.result.now
    c.size.ensures c.ring_places-places.ensures (ap (λ (l : List ℕ). length l) c.deref.ensures.value ∙ c.in_ok-zeros.ensures.size) (c.deref.ensures.value ∙ c.in_ok-zeros.ensures.zeros) (c.in_ok-put_each.ensures.there t)
