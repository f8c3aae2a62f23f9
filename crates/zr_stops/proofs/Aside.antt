-- Writes that meet no label block and no ring slot: what a crash leaves has the labels and the rings of before.
use Rattle.std.proofs.Common.{◌≡◌, ℕ, ◌<◌, List, [], ◌∷◌, length, map, refl, sym, ◌∙◌, ap, subst, arith}
use Rattle.std.specs.Prelude.{slice_index}
use Rattle.std.specs.List.{AllByRecursion}
use Rattle.zr_current.proofs.Committed.{IsAside, count_of, label_aside, length_at, ring_aside}
use Rattle.zr_label.specs.Geometry.{label_block_at, ring_slot_at}
use Rattle.zr_newest.specs.Newest.{KeepsRings}
use Rattle.zr_scan.specs.Scan.{block_of, ring_block}
use Rattle.zr_shelf.specs.Disks.{IsAtRest, IsUntouched, MayLeave, Meets, PendingWrite, Stand, disk, part}
use Rattle.zr_shelf.specs.Doings.{Adds}
use Rattle.zr_shelf.specs.Doings.Adds.{added_none, added}

module _ (sizes : List ℕ) (start : Stand) (rest : IsAtRest start) (sized : map length start.seen ≡ sizes) (Allowed : PendingWrite → Type 0) (clear_of : (sl at : ℕ) → IsAside (slice_index sizes sl) at → (w : PendingWrite) → Allowed w → ¬ Meets w sl at 4096) where
  -- the disks are durable as they read at the start, and what is pending lies in units that were free
  abbrev pub IsPending : Stand → Type 0
  IsPending stand = (stand.durable ≡ start.seen) × AllByRecursion Allowed stand.writes

  pub pending_step : (a b : Stand) → Adds Allowed a b → IsPending a → IsPending b
  pending_step a b (added_none is) h = subst IsPending (sym is) h
  pending_step a b (added w may written) h = (written.durable ∙ h.0, subst (AllByRecursion Allowed) (sym written.writes) (may, h.1))

  pub pending_start : IsPending start
  pending_start = (sym rest.seen, subst (AllByRecursion Allowed) (sym rest.writes) tt)

  pub clear_of_all : (slot at n : ℕ) → ((w : PendingWrite) → Allowed w → ¬ Meets w slot at n) → (ws : List PendingWrite) → AllByRecursion Allowed ws → IsUntouched ws slot at n
  clear_of_all slot at n clear [] all = tt
  clear_of_all slot at n clear (w ∷ ws) all = (clear w all.0, clear_of_all slot at n clear ws all.1)

  -- ---- an image

  -- bytes that no such write meets are as they were
  pub record KeepsClear (image : List (List ℕ)) : Type 0 where
    pub same_sizes : map length image ≡ map length start.seen
    pub part_kept : (slot at n : ℕ) → ((w : PendingWrite) → Allowed w → ¬ Meets w slot at n) → part (disk image slot) at n ≡ part (disk start.seen slot) at n

  -- a crash leaves them
  pub crash_clear : (stand : Stand) → IsPending stand → (image : List (List ℕ)) → MayLeave stand image → KeepsClear image
  crash_clear stand pending image leaves = record {
    same_sizes = leaves.sizes ∙ ap (λ (d : List (List ℕ)). map length d) pending.0;
    part_kept = λ slot at n clear. leaves.bytes slot at n (clear_of_all slot at n clear stand.writes pending.1) ∙ ap (λ (d : List (List ℕ)). part (disk d slot) at n) pending.0;
  }

  -- and so the disks read
  pub seen_step : (a b : Stand) → Adds Allowed a b → KeepsClear a.seen → KeepsClear b.seen
  seen_step a b (added_none is) h = subst (λ (s : Stand). KeepsClear s.seen) (sym is) h
  seen_step a b (added w may written) h = record {
    same_sizes = written.seen.sizes ∙ h.same_sizes;
    part_kept = λ slot at n clear. written.seen.bytes slot at n (clear w may, tt) ∙ h.part_kept slot at n clear;
  }

  pub seen_start : KeepsClear start.seen
  seen_start = record { same_sizes = refl; part_kept = λ slot at n clear. refl }

  module _ (image : List (List ℕ)) (keeps : KeepsClear image) where
    module _ (sl : ℕ) where
      image_size : length (disk image sl) ≡ slice_index sizes sl
      image_size = length_at image sizes sl (keeps.same_sizes ∙ sized)

      old_size : length (disk start.seen sl) ≡ length (disk image sl)
      old_size = length_at start.seen sizes sl sized ∙ sym image_size

      aside_kept : (at : ℕ) → IsAside (slice_index sizes sl) at → part (disk start.seen sl) at 4096 ≡ part (disk image sl) at 4096
      aside_kept at aside = sym (keeps.part_kept sl at 4096 (clear_of sl at aside))

      label_kept : (n : ℕ) → n < 4 → block_of (length (disk image sl)) (disk start.seen sl) n ≡ block_of (length (disk image sl)) (disk image sl) n
      label_kept n few =
          subst (λ (size : ℕ). block_of size (disk start.seen sl) n ≡ block_of size (disk image sl) n) (sym image_size)
          (aside_kept (label_block_at (slice_index sizes sl) n) (label_aside (slice_index sizes sl) n 16384 few (omega arith)))

      ring_kept : (n k : ℕ) → n < 4 → k < 32 → ring_block (length (disk image sl)) (disk start.seen sl) n k ≡ ring_block (length (disk image sl)) (disk image sl) n k
      ring_kept n k few low =
          subst (λ (size : ℕ). ring_block size (disk start.seen sl) n k ≡ ring_block size (disk image sl) n k) (sym image_size)
          (aside_kept (ring_slot_at (slice_index sizes sl) n k) (ring_aside (slice_index sizes sl) n k few low))

    -- the labels and the rings are as they were
    pub rings_still : KeepsRings start.seen image
    rings_still = record {
      labels = record {
        count = count_of start.seen image keeps.same_sizes;
        sizes = λ sl. sym (old_size sl);
        labels = λ sl n few. subst (λ (size : ℕ). block_of size (disk image sl) n ≡ block_of size (disk start.seen sl) n) (sym (old_size sl)) (sym (label_kept sl n few));
      };
      rings = λ sl n k few low. subst (λ (size : ℕ). ring_block size (disk image sl) n k ≡ ring_block size (disk start.seen sl) n k) (sym (old_size sl)) (sym (ring_kept sl n k few low));
    }
