use Rattle.std.proofs.Common.{◌≡◌, ℕ, ◌+◌, ◌<◌, ◌≤◌}
use Rattle.std.specs.Prelude.{slice_index}
use Rattle.zr_shelf.specs.Counts.{NoneFell}
use Rattle.zr_shelf.specs.Disks.{IsAtRest, disk}
use Rattle.zr_label.specs.Blocks.{SpellsLabel}
use Rattle.zr_scan.specs.Scan.{block_of, ring_block}
use Rattle.zr_slots.specs.Phases.{PutsLast}
use Rattle.zr_slots.proofs.put.put_labels.Given as goal

abbrev pub invariant-loop-k : goal.invariant-loop-k
invariant-loop-k g l = record {
  end : l.k ≤ 4;
  sizes : g.S.Shelf.sizes l.shelf ≡ g.S.Shelf.sizes l.fn.shelf;
  none_fell : NoneFell (g.S.Shelf.counts l.fn.shelf) (g.S.Shelf.counts l.shelf);
  told : g.S.Shelf.tells l.fn.shelf → g.S.Shelf.tells l.shelf;
  last : g.S.Shelf.tells l.fn.shelf → PutsLast (slice_index (g.S.Shelf.sizes l.fn.shelf) l.fn.slot) l.fn.slot l.k l.fn.label (g.S.Shelf.world l.fn.shelf) (g.S.Shelf.world l.shelf);
  at_rest : g.S.Shelf.tells l.fn.shelf → 0 < l.k → IsAtRest (g.S.Shelf.world l.shelf).now;
  labels : g.S.Shelf.tells l.fn.shelf → (n : ℕ) → 4 ≤ n + l.k → n < 4 → SpellsLabel (block_of (slice_index (g.S.Shelf.sizes l.fn.shelf) l.fn.slot) (disk (g.S.Shelf.world l.shelf).now.seen l.fn.slot) n) l.fn.label;
  rings : g.S.Shelf.tells l.fn.shelf → (n k : ℕ) → n < 4 → k < 32 → ring_block (slice_index (g.S.Shelf.sizes l.fn.shelf) l.fn.slot) (disk (g.S.Shelf.world l.shelf).now.seen l.fn.slot) n k ≡ ring_block (slice_index (g.S.Shelf.sizes l.fn.shelf) l.fn.slot) (disk (g.S.Shelf.world l.fn.shelf).now.seen l.fn.slot) n k;
}
