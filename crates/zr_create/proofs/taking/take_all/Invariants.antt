use Rattle.std.proofs.Common.{◌≡◌, ℕ, ◌<◌, Some}
use Rattle.std.specs.Prelude.{slice_index}
use Rattle.zr_model.specs.Objects.{Objects}
use Rattle.zr_shelf.specs.Counts.{NoneFell}
use Rattle.zr_view.specs.Views.{slot_of}
use Rattle.zr_sync.specs.Objects.{HoldsObjects}
use Rattle.zr_sync.specs.Pools.{IsPool}
use Rattle.zr_sync.specs.Trees.{HasTrees}
use Rattle.zr_sync.specs.Trees.Stage.{Had}
use Rattle.zr_sync.specs.Writes.{WorksOnDisks}
use Rattle.zr_create.specs.Devices.{IsDeviceIn, KeepsRest}
use Rattle.zr_create.specs.Labelled.{LabelsSlots}
use Rattle.zr_create.specs.Making.{PreparesFirst}
use Rattle.zr_create.proofs.taking.take_all.Given as goal

abbrev pub invariant-loop-i : goal.invariant-loop-i
invariant-loop-i g l = record {
  sizes : g.S.Shelf.sizes l.shelf ≡ g.S.Shelf.sizes l.fn.shelf;
  none_fell : NoneFell (g.S.Shelf.counts l.fn.shelf) (g.S.Shelf.counts l.shelf);
  told : g.S.Shelf.tells l.fn.shelf → g.S.Shelf.tells l.shelf;
  disks : g.S.Shelf.tells l.fn.shelf → WorksOnDisks (g.S.Shelf.world l.fn.shelf) (g.S.Shelf.world l.shelf);
  pool : IsPool 0 (g.S.Shelf.sizes l.shelf) l.pool;
  same : KeepsRest l.fn.pool l.pool;
  count : l.pool.table.count ≡ l.i;
  each : (k : ℕ) → k < l.i → IsDeviceIn (g.S.Shelf.sizes l.fn.shelf) l.fn.pool.group.txg l.pool k (slice_index l.named k);
  only : (d slot : ℕ) → slot_of l.pool.table.slots d ≡ Some slot → (k : ℕ) × (k < l.i) × (slice_index l.named k ≡ slot);
  firsts : g.S.Shelf.tells l.fn.shelf → PreparesFirst (g.S.Shelf.sizes l.fn.shelf) l.named l.i (g.S.Shelf.world l.fn.shelf) (g.S.Shelf.world l.shelf);
  labelled : g.S.Shelf.tells l.fn.shelf → LabelsSlots (g.S.Shelf.world l.fn.shelf).now.seen (g.S.Shelf.world l.shelf).now.seen l.named l.i l.pool;
  stays : (objects : Objects) → HoldsObjects (g.S.Shelf.tells l.fn.shelf) (g.S.Shelf.world l.fn.shelf).now.seen l.fn.pool objects → HoldsObjects (g.S.Shelf.tells l.shelf) (g.S.Shelf.world l.shelf).now.seen l.pool objects;
  trees : HasTrees Had (g.S.Shelf.tells l.fn.shelf) (g.S.Shelf.world l.fn.shelf).now.seen l.fn.pool → HasTrees Had (g.S.Shelf.tells l.shelf) (g.S.Shelf.world l.shelf).now.seen l.pool;
}
