use Rattle.std.proofs.Common.{◌≡◌}
use Rattle.std.specs.Prelude.{Contains}
use Rattle.zr_shelf.specs.Counts.{NoneFell}
use Rattle.zr_shelf.specs.Doings.{WritesOnly}
use Rattle.zr_scan.specs.Puts.{puts}
use Rattle.zr_scan.proofs.Putting.{AreThere}
use Rattle.zr_scan.proofs.puts.put_each.Given as goal

abbrev pub invariant-loop-i : goal.invariant-loop-i
invariant-loop-i g l = record {
  sizes : g.S.Shelf.sizes l.shelf ≡ g.S.Shelf.sizes l.fn.shelf;
  none_fell : NoneFell (g.S.Shelf.counts l.fn.shelf) (g.S.Shelf.counts l.shelf);
  told : g.S.Shelf.tells l.fn.shelf → g.S.Shelf.tells l.shelf;
  wrote : g.S.Shelf.tells l.fn.shelf → WritesOnly (Contains (puts l.fn.slot l.fn.places l.fn.bytes)) (g.S.Shelf.world l.fn.shelf) (g.S.Shelf.world l.shelf);
  there : g.S.Shelf.tells l.fn.shelf → AreThere l.fn.slot l.fn.places l.fn.bytes l.i (g.S.Shelf.world l.shelf).now.seen;
}
