use Rattle.std.proofs.Common.{◌≡◌, ℕ, ◌<◌}
use Rattle.std.specs.Prelude.{slice_index}
use Rattle.zr_shelf.specs.Counts.{NoneFell}
use Rattle.zr_shelf.specs.Doings.{WritesOnly}
use Rattle.zr_slots.specs.Phases.{IsRootPut}
use Rattle.zr_slots.proofs.Rooting.{HasTwo}
use Rattle.zr_slots.proofs.put.put_root.Given as goal

abbrev pub invariant-loop-i : goal.invariant-loop-i
invariant-loop-i g l = record {
  sizes : g.S.Shelf.sizes l.shelf ≡ g.S.Shelf.sizes l.fn.shelf;
  none_fell : NoneFell (g.S.Shelf.counts l.fn.shelf) (g.S.Shelf.counts l.shelf);
  told : g.S.Shelf.tells l.fn.shelf → g.S.Shelf.tells l.shelf;
  wrote : g.S.Shelf.tells l.fn.shelf → WritesOnly (IsRootPut (g.S.Shelf.sizes l.fn.shelf) l.fn.slots l.fn.first l.fn.u) (g.S.Shelf.world l.fn.shelf) (g.S.Shelf.world l.shelf);
  there : g.S.Shelf.tells l.fn.shelf → (k : ℕ) → k < l.i → HasTwo (g.S.Shelf.sizes l.fn.shelf) (slice_index l.fn.slots k) l.fn.first l.fn.u (g.S.Shelf.world l.shelf).now.seen;
}
