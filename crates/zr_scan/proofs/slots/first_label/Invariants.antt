use Rattle.std.proofs.Common.{◌≡◌}
use Rattle.zr_shelf.specs.Counts.{NoneFell}
use Rattle.zr_shelf.specs.Disks.{disk}
use Rattle.zr_shelf.specs.Moments.{IsStill}
use Rattle.zr_scan.specs.Scan.{HasNoLabel}
use Rattle.zr_scan.proofs.slots.first_label.Given as goal

abbrev pub invariant-loop-n : goal.invariant-loop-n
invariant-loop-n g l = record {
  sizes : g.S.Shelf.sizes l.shelf ≡ g.S.Shelf.sizes l.fn.shelf;
  none_fell : NoneFell (g.S.Shelf.counts l.fn.shelf) (g.S.Shelf.counts l.shelf);
  told : g.S.Shelf.tells l.fn.shelf → g.S.Shelf.tells l.shelf;
  still : g.S.Shelf.tells l.fn.shelf → IsStill (g.S.Shelf.world l.fn.shelf) (g.S.Shelf.world l.shelf);
  none : g.S.Shelf.tells l.fn.shelf → HasNoLabel l.fn.size (disk (g.S.Shelf.world l.fn.shelf).now.seen l.fn.slot) l.n;
}
