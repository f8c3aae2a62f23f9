use Rattle.std.specs.Prelude.{slice_index}
use Rattle.zr_shelf.proofs.Runs.{still_trans}
use Rattle.zr_scan.proofs.Gathering.{shows_all, small_with}
use Rattle.zr_scan.proofs.slots.scan.Goals as goal

pub returns-clause-still : goal.returns-clause-still
returns-clause-still g c = λ t.
    still_trans (g.S.Shelf.world c.args.shelf.now) (g.S.Shelf.world c.first_label.new.shelf) (g.S.Shelf.world c.seen_in_rings.new.shelf) (c.first_label.ensures.still t) (c.seen_in_rings.ensures.still (c.first_label.ensures.told t))

pub returns-clause-shows : goal.returns-clause-shows
returns-clause-shows g c = λ t.
    let told = c.first_label.ensures.told t in
    shows_all (g.S.Shelf.world c.first_label.new.shelf).now (g.S.Shelf.world c.args.shelf.now).now c.args.slot (slice_index (g.S.Shelf.sizes c.args.shelf.now) c.args.slot) c.size-size.result c.in-Some-2.label c.in_ok-label.field-0 c.seen_in_rings.result
    (c.first_label.ensures.still t).now c.size-size.ensures c.in-Some-2.is (c.in_ok-label.ensures.label t)
    c.seen_in_rings.ensures.label (c.seen_in_rings.ensures.roots told) (c.seen_in_rings.ensures.newer told)

pub returns-clause-lawful : goal.returns-clause-lawful
returns-clause-lawful g c =
    small_with (slice_index (g.S.Shelf.sizes c.args.shelf.now) c.args.slot) c.size-size.result c.in-Some-2.label c.in_ok-label.field-0 c.seen_in_rings.result c.size-size.ensures c.in-Some-2.is c.in_ok-label.ensures.own
    c.seen_in_rings.ensures.label c.seen_in_rings.ensures.own c.seen_in_rings.ensures.few
