-- While a slot is prepared for a device, a crash shows the last root.
use Rattle.std.proofs.Common.{◌≡◌, ◌≢◌, ◌⊎◌, inl, inr, ℕ, ◌*◌, ◌<◌, IsTrue, false, List, [], length, Option, Some, None, Ok, Result, refl, sym, ◌∙◌, ap, subst, arith, ⊎_elim}
use Rattle.std.specs.Prelude.{All, slice_index}
use Rattle.std.proofs.lemmas.Bool.{cases_eq, cases_lt}
use Rattle.std.proofs.lemmas.List.{get_or-set_other, get_or-set_same, length-set}
use Rattle.zr_base.specs.declared.space.Dva.{Dva}
use Rattle.zr_bptr.specs.declared.Bptr.{Bptr}
use Rattle.zr_current.proofs.Committed.{length_at}
use Rattle.zr_current.specs.Current.{GoesOnFrom}
use Rattle.zr_image.specs.Current.{ShowsAll, is_device, seen_at}
use Rattle.zr_label.specs.Blocks.{IsLabel}
use Rattle.zr_label.specs.Geometry.{is_disk_size, label_block_at, ring_slot_at, slot_of as ring_of, unit_at}
use Rattle.zr_label.specs.declared.root.Label.{Label}
use Rattle.zr_label.specs.declared.root.Seen.{Seen}
use Rattle.zr_label.specs.declared.root.Uber.{Uber}
use Rattle.zr_model.specs.Objects.{Objects}
use Rattle.zr_model.specs.State.{PoolState}
use Rattle.zr_newest.proofs.Kept.{device_on, label_on}
use Rattle.zr_newest.proofs.Prepared.{devices_beside, newest_beside, with_shown}
use Rattle.zr_newest.proofs.Seen.{past_seen, seen_labels, slots_same}
use Rattle.zr_newest.specs.Newest.{AreAt, HaveLabels, IsNewestOn, PreparesSlot}
use Rattle.zr_open.proofs.Left.{objects_meant}
use Rattle.zr_open.specs.Shown.{Shows}
use Rattle.zr_rules.specs.Equation.{devices_in}
use Rattle.zr_scan.proofs.Fresh.{same_label}
use Rattle.zr_scan.specs.Scan.{ShowsLabel}
use Rattle.zr_scan.specs.declared.error.ScanErr.{ScanErr}
use Rattle.zr_shelf.proofs.Runs.{weaker}
use Rattle.zr_shelf.specs.Disks.{Stand, disk}
use Rattle.zr_shelf.specs.Moments.{Throughout, World}
use Rattle.zr_slots.specs.Phases.{Prepares}
use Rattle.zr_store.specs.Store.{Stored}
use Rattle.zr_sync.specs.Heads.{HasDirectory, HasSafeHead, IsInMetadata}
use Rattle.zr_sync.specs.declared.open.OpenPool.{OpenPool}
use Rattle.zr_tree.specs.Trees.{tree_reach}
use Rattle.zr_vdev.proofs.Held.{address_same}
use Rattle.zr_vdev.specs.Runs.{view_of}
use Rattle.zr_view.specs.Runs.{bytes_from}
use Rattle.zr_view.specs.Views.{address_bytes, slot_of}
use Rattle.zr_stops.proofs.Committing.{head_kept, last_only, objects_kept, store_kept}
use Rattle.zr_stops.proofs.Kept.{StandsLast}
use Rattle.zr_stops.proofs.Readable.{readable_stays}
use Rattle.zr_stops.specs.Behind.{ShowsOnly}
use Rattle.zr_stops.specs.Last.{HasLast, IsCommitted}
use Rattle.zr_stops.proofs.Preparing as preparing

-- ---- beside a slot

module _ (sizes : List ℕ) (u : Uber) (pool : OpenPool) (objects : Objects) (start : Stand) (was : IsCommitted sizes start u pool objects) (from : GoesOnFrom u pool) (sl : ℕ) (known : sl < length start.seen) (l : Label) (lawful : IsLabel l)
    (used : IsTrue (is_disk_size 2 (slice_index sizes sl))) (free : (d : ℕ) → slot_of pool.table.slots d ≢ Some sl) (apart : (d : ℕ) → d < u.count → is_device u d (Some l) ≡ false) where
  abbrev size : ℕ
  size = slice_index sizes sl

  old_size : length (disk start.seen sl) ≡ size
  old_size = length_at start.seen sizes sl was.sized

  -- the first label that stood there
  abbrev old : Option Label
  old = (seen_at was.newest.seen sl).label

  old_shown : ShowsLabel size (disk start.seen sl) old
  old_shown = subst (λ (n : ℕ). ShowsLabel n (disk start.seen sl) old) old_size (was.newest.labels.each sl known)

  -- what stays beside the slot
  abbrev IsBeside : List (List ℕ) → Type 0
  IsBeside = preparing.IsBeside sizes start was.rest was.sized sl l lawful used

  abbrev Beside : List (List ℕ) → Type 0
  Beside = preparing.IsKeptBeside sizes start was.rest was.sized sl l lawful used

  -- so each address of the pool reads as it did
  module _ (d : List (List ℕ)) (beside : IsBeside d) where
    run_same : (o : Option ℕ) (dev v : ℕ) → slot_of pool.table.slots dev ≡ o → bytes_from d o v (4096 * 1) ≡ bytes_from start.seen o v (4096 * 1)
    run_same None dev v is = refl
    run_same (Some slot) dev v is = beside.others slot (unit_at v) 4096 (λ e. free dev (is ∙ ap Some e))

    read_same : (x : Dva) → address_bytes (view_of d pool.table.slots pool.space) x ≡ address_bytes (view_of start.seen pool.table.slots pool.space) x
    read_same x = address_same pool.table.slots (devices_in pool.space) start.seen d x (λ dev v led. run_same (slot_of pool.table.slots dev) dev v refl)

    head_same : HasDirectory d pool u.root u.len
    head_same = head_kept pool start.seen d read_same u.root u.len was.head

    safe_same : HasSafeHead d pool u.root u.len
    safe_same t is = subst (λ (s : Stored). All (λ (b : Bptr). IsInMetadata pool.space b.at) (tree_reach s t)) (sym (store_kept pool start.seen d read_same)) (was.safe t is)

  module _ (image : List (List ℕ)) (kept : Beside image) where
    size_same : (k : ℕ) → length (disk image k) ≡ length (disk start.seen k)
    size_same k = preparing.same_size sizes start was.rest was.sized sl l lawful used image kept k

    count_same : length image ≡ length start.seen
    count_same = preparing.count sizes start was.rest was.sized sl l lawful used image kept

    differs : was.newest.stands.slot ≢ sl
    differs e = free was.newest.stands.device (was.newest.stands.here ∙ ap Some e)

    module _ (seen : List Seen) (shown : ShowsAll image seen) where
      have : HaveLabels image seen
      have = seen_labels image seen shown

      long : length seen ≡ length was.newest.seen
      long = have.count ∙ (count_same ∙ sym was.newest.labels.count)

      abbrev now_label : Option Label
      now_label = (seen_at seen sl).label

      other_label : (k : ℕ) → k ≢ sl → (seen_at was.newest.seen k).label ≡ (seen_at seen k).label
      other_label k differ = elim (cases_lt k (length image)) [
        | inl lt ↦
            same_label (length (disk image k)) (disk image k) (seen_at was.newest.seen k).label (seen_at seen k).label
            (label_on start.seen image k (size_same k) (λ n few. kept.beside.others k (label_block_at (length (disk start.seen k)) n) 4096 differ) (seen_at was.newest.seen k).label (was.newest.labels.each k (let n = count_same in omega (arith, lt, n))))
            (have.each k lt)
        | inr ge ↦
            let m = was.newest.labels.count in let n = have.count in let c = count_same in
            ap (λ (x : Seen). x.label) (past_seen was.newest.seen k (omega (arith, ge, m, c))) ∙ sym (ap (λ (x : Seen). x.label) (past_seen seen k (omega (arith, ge, n))))
      ]

      inside : sl < length was.newest.seen
      inside = let n = was.newest.labels.count in let lt = known in omega (arith, lt, n)

      abbrev bare : Seen
      bare = record { label = None; ubers = []; newer = None }

      abbrev own : Seen
      own = record { label = now_label; ubers = []; newer = None }

      no_device : (o : Option Label) → (o ≡ None) ⊎ (o ≡ Some l) → (d : ℕ) → d < u.count → is_device u d o ≡ false
      no_device o (inl none) d low = ap (is_device u d) none
      no_device o (inr own) d low = ap (is_device u d) own ∙ apart d low

      by_old : now_label ≡ old → AreAt pool.table.slots u seen
      by_old same d = was.newest.devices d ∙ ap (λ (these : List (Option ℕ)). slot_of these d) (slots_same was.newest.seen seen (sym long) labels u)
        where
          labels : (k : ℕ) → (seen_at was.newest.seen k).label ≡ (seen_at seen k).label
          labels k = elim (cases_eq k sl) [ inl here ↦ subst (λ (j : ℕ). (seen_at was.newest.seen j).label ≡ (seen_at seen j).label) (sym here) (sym same) | inr differ ↦ other_label k differ ]

      by_other : ((d : ℕ) → d < u.count → is_device u d now_label ≡ false) → AreAt pool.table.slots u seen
      by_other none d =
          devices_beside was.newest.seen sl now_label inside u pool.table.slots was.newest.devices free none d
          ∙ ap (λ (these : List (Option ℕ)). slot_of these d) (slots_same (with_shown was.newest.seen sl now_label) seen (length-set was.newest.seen sl own ∙ sym long) labels u)
        where
          labels : (k : ℕ) → (seen_at (with_shown was.newest.seen sl now_label) k).label ≡ (seen_at seen k).label
          labels k = elim (cases_eq k sl) [
            | inl here ↦
                subst (λ (j : ℕ). (seen_at (with_shown was.newest.seen sl now_label) j).label ≡ (seen_at seen j).label) (sym here) (ap (λ (x : Seen). x.label) (get_or-set_same was.newest.seen sl own bare inside))
            | inr differ ↦ ap (λ (x : Seen). x.label) (get_or-set_other was.newest.seen sl k own bare differ) ∙ other_label k differ
          ]

      devices : AreAt pool.table.slots u seen
      devices =
          let lt : sl < length image = (let n = count_same in let low = known in omega (arith, low, n)) in
          ⊎_elim (λ shown_there. by_old (same_label size (disk start.seen sl) now_label old shown_there old_shown)) (λ other. by_other (no_device now_label other)) (kept.label now_label (subst (λ (n : ℕ). ShowsLabel n (disk image sl) now_label) (size_same sl ∙ old_size) (have.each sl lt)))

      newest : IsNewestOn image u pool.table.slots
      newest = record {
        stands =
            device_on start.seen image u pool.table.slots was.newest.stands (size_same was.newest.stands.slot)
            (kept.beside.others was.newest.stands.slot (ring_slot_at (length (disk start.seen was.newest.stands.slot)) was.newest.stands.ring (ring_of u.txg)) 4096 differs);
        newest = λ k v is same. was.newest.newest k v (preparing.root_back sizes start was.rest was.sized sl l lawful used image kept k v is) same;
        seen = seen;
        labels = have;
        devices = devices;
      }

      has_last : HasLast image u pool objects
      has_last = record {
        newest = newest;
        head = head_same image kept.beside;
        objects = objects_kept pool start.seen image (read_same image kept.beside) objects (objects_meant (Unit {0}) start.seen pool objects was.empty was.objects);
        reads = readable_stays start.seen image pool u (λ a meta. read_same image kept.beside a) was.reads;
      }

    pub kept_only : (paths : List (List ℕ)) (p : PoolState) → Shows paths image p → p.objects ≡ objects
    kept_only paths p shows = last_only sizes u pool objects was.ready from image (has_last shows.seen shows.shown) paths p shows

  keeps_only : (stand : Stand) → preparing.KeepsBeside sizes start was.rest was.sized sl l lawful used stand → ShowsOnly objects stand
  keeps_only stand keeps image left paths p shows = kept_only image (keeps image left) paths p shows

  -- at each moment while the slot is prepared, done or not
  pub prepares_only : (r : Result (Unit {0}) ScanErr) (w0 now : World) → w0.now ≡ start → Prepares size sl l r w0 now → Throughout (ShowsOnly objects) w0 now
  prepares_only r w0 now at_start p =
      weaker (preparing.KeepsBeside sizes start was.rest was.sized sl l lawful used) (ShowsOnly objects) w0 now keeps_only (preparing.prepares_keeps sizes start was.rest was.sized sl l lawful used r w0 now at_start p)

  -- where it is done, the pool stands as before
  pub prepares_stands : (w0 now : World) → w0.now ≡ start → Prepares size sl l (Ok tt) w0 now → PreparesSlot start.seen now.now.seen sl l → StandsLast sizes now.now u pool objects
  prepares_stands w0 now at_start p labels =
      let done = preparing.prepared sizes start was.rest was.sized sl l lawful used w0 now at_start p in
      let beside = subst IsBeside done.seen done.has.beside in
      record {
        ready = was.ready;
        empty = was.empty;
        settled = was.settled;
        rest = record { writes = done.writes; seen = sym done.seen };
        sized = beside.lengths ∙ was.sized;
        newest = newest_beside start.seen now.now.seen sl l u pool.table.slots labels free apart was.newest;
        head = head_same now.now.seen beside;
        safe = safe_same now.now.seen beside;
        stored = was.objects.stored;
        used = was.objects.held.stored;
        there = λ b stored. was.objects.held.there b stored ∙ sym (read_same now.now.seen beside b.at);
        has = was.objects.has;
        reads = readable_stays start.seen now.now.seen pool u (λ a meta. read_same now.now.seen beside a) was.reads;
      }
