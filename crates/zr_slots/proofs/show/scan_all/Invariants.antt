use Rattle.std.proofs.Common.{◌≡◌, ℕ, ◌<◌, length}
use Rattle.std.specs.Prelude.{slice_index}
use Rattle.zr_shelf.specs.Counts.{NoneFell}
use Rattle.zr_shelf.specs.Disks.{disk}
use Rattle.zr_shelf.specs.Moments.{IsStill}
use Rattle.zr_scan.specs.Scan.{Shows, IsSmallAndLawful}
use Rattle.zr_image.specs.Current.{seen_at}
use Rattle.zr_slots.proofs.show.scan_all.Given as goal

abbrev pub invariant-loop-slot : goal.invariant-loop-slot
invariant-loop-slot g l = record {
  sizes : g.S.Shelf.sizes l.shelf ≡ g.S.Shelf.sizes l.fn.shelf;
  none_fell : NoneFell (g.S.Shelf.counts l.fn.shelf) (g.S.Shelf.counts l.shelf);
  told : g.S.Shelf.tells l.fn.shelf → g.S.Shelf.tells l.shelf;
  still : g.S.Shelf.tells l.fn.shelf → IsStill (g.S.Shelf.world l.fn.shelf) (g.S.Shelf.world l.shelf);
  count : length l.seen ≡ l.slot;
  lawful : (k : ℕ) → k < l.slot → IsSmallAndLawful (slice_index (g.S.Shelf.sizes l.fn.shelf) k) (seen_at l.seen k);
  shows : g.S.Shelf.tells l.fn.shelf → (k : ℕ) → k < l.slot → Shows (slice_index (g.S.Shelf.sizes l.fn.shelf) k) (disk (g.S.Shelf.world l.fn.shelf).now.seen k) (seen_at l.seen k);
}
