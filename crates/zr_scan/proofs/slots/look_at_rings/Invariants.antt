use Rattle.std.proofs.Common.{◌≡◌, ◌≤◌, ◌*◌, length}
use Rattle.std.specs.Prelude.{Contains}
use Rattle.zr_label.specs.declared.root.Uber.{Uber}
use Rattle.zr_shelf.specs.Counts.{NoneFell}
use Rattle.zr_shelf.specs.Disks.{disk}
use Rattle.zr_shelf.specs.Moments.{IsStill}
use Rattle.zr_scan.specs.Scan.{AreRoots, ShowsNewer, IsOwnRoot}
use Rattle.zr_scan.proofs.slots.look_at_rings.Given as goal

abbrev pub invariant-loop-n : goal.invariant-loop-n
invariant-loop-n g l = record {
  long : length l.ring ≡ 131072;
  sizes : g.S.Shelf.sizes l.shelf ≡ g.S.Shelf.sizes l.fn.shelf;
  none_fell : NoneFell (g.S.Shelf.counts l.fn.shelf) (g.S.Shelf.counts l.shelf);
  told : g.S.Shelf.tells l.fn.shelf → g.S.Shelf.tells l.shelf;
  still : g.S.Shelf.tells l.fn.shelf → IsStill (g.S.Shelf.world l.fn.shelf) (g.S.Shelf.world l.shelf);
  own : (u : Uber) → Contains l.roots u → IsOwnRoot l.fn.l u;
  few : length l.roots ≤ 32 * l.n;
  roots : g.S.Shelf.tells l.fn.shelf → AreRoots l.fn.size (disk (g.S.Shelf.world l.fn.shelf).now.seen l.fn.slot) l.n l.fn.l l.roots;
  newer : g.S.Shelf.tells l.fn.shelf → ShowsNewer l.fn.size (disk (g.S.Shelf.world l.fn.shelf).now.seen l.fn.slot) l.n l.fn.l.guid l.newer;
}
