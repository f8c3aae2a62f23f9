-- Where nothing but units was written, labels and rings have their bytes.
use Rattle.std.proofs.Common.{◌≡◌, ℕ, List, length, map, sym, ◌∙◌, subst, arith}
use Rattle.std.specs.Prelude.{slice_index}
use Rattle.zr_label.specs.Geometry.{label_block_at, ring_slot_at}
use Rattle.zr_newest.specs.Newest.{KeepsRings}
use Rattle.zr_scan.specs.Scan.{block_of, ring_block}
use Rattle.zr_shelf.specs.Disks.{disk}
use Rattle.zr_shelf.specs.Moments.{World}
use Rattle.zr_sync.specs.Pools.{IsOpen}
use Rattle.zr_sync.specs.Writes.{WritesIntoFree}
use Rattle.zr_sync.specs.declared.open.OpenPool.{OpenPool}
use Rattle.zr_current.proofs.Committed.{count_of, label_aside, length_at, part_kept, ring_aside, sizes_kept}

module _ (sizes : List ℕ) (pool : OpenPool) (before now : World) (ready : IsOpen sizes pool) (sized : map length before.now.seen ≡ sizes) (wrote : WritesIntoFree pool before now) where
  same_sizes : map length now.now.seen ≡ map length before.now.seen
  same_sizes = sizes_kept sizes pool ready before now wrote

  pub sized_now : map length now.now.seen ≡ sizes
  sized_now = same_sizes ∙ sized

  old_size : (slot : ℕ) → length (disk before.now.seen slot) ≡ slice_index sizes slot
  old_size slot = length_at before.now.seen sizes slot sized

  pub rings_kept : KeepsRings before.now.seen now.now.seen
  rings_kept = record {
    labels = record {
      count = count_of before.now.seen now.now.seen same_sizes;
      sizes = λ slot. length_at now.now.seen sizes slot sized_now ∙ sym (old_size slot);
      labels = λ slot n few.
          subst (λ (size : ℕ). block_of size (disk now.now.seen slot) n ≡ block_of size (disk before.now.seen slot) n) (sym (old_size slot))
          (part_kept sizes pool ready slot (label_block_at (slice_index sizes slot) n) before now (label_aside (slice_index sizes slot) n 16384 few (omega arith)) wrote);
    };
    rings = λ slot n k few low.
        subst (λ (size : ℕ). ring_block size (disk now.now.seen slot) n k ≡ ring_block size (disk before.now.seen slot) n k) (sym (old_size slot))
        (part_kept sizes pool ready slot (ring_slot_at (slice_index sizes slot) n k) before now (ring_aside (slice_index sizes slot) n k few low) wrote);
  }
