-- What a crash leaves at each moment while a root is put into rings.
use Rattle.std.proofs.Common.{◌≡◌, ◌≢◌, ◌⊎◌, inl, inr, ℕ, zero, suc, ◌+◌, ◌<◌, ◌≤◌, List, [], ◌∷◌, length, map, Option, Some, refl, sym, ◌∙◌, ap, subst, arith, ⊎_elim}
use Rattle.std.specs.Prelude.{Contains, slice_index}
use Rattle.std.specs.List.{AllByRecursion}
use Rattle.std.proofs.lemmas.Bool.{cases_eq}
use Rattle.zr_current.proofs.Committed.{count_of, length_at}
use Rattle.zr_current.proofs.Published.{clear, even_or_odd, flush_seen, has_or, label_clear, not_odd, puts_root, ring_first, rings_apart, stands_first}
use Rattle.zr_current.specs.Next.{IsNoMark, IsRingOf}
use Rattle.zr_image.specs.Honest.{IsLeft, IsMark, Mark}
use Rattle.zr_label.specs.Blocks.{IsUber, uber_block}
use Rattle.zr_label.specs.Geometry.{label_block_at, ring_slot_at, slot_of, unit_at, whole}
use Rattle.zr_label.specs.declared.root.Uber.{Uber}
use Rattle.zr_rules.specs.Devices.{Devices}
use Rattle.zr_scan.specs.Puts.{puts, root_places}
use Rattle.zr_scan.specs.Scan.{block_of, ring_block}
use Rattle.zr_shelf.proofs.Doings.{added_throughout, writes_nothing}
use Rattle.zr_shelf.proofs.Runs.{goes_on, joined, started}
use Rattle.zr_shelf.specs.Disks.{IsUntouched, Meets, PendingWrite, Stand, disk, flushed, part}
use Rattle.zr_shelf.specs.Doings.{Adds, WritesOnly}
use Rattle.zr_shelf.specs.Doings.Adds.{added_none, added}
use Rattle.zr_shelf.specs.Moments.{Throughout, World}
use Rattle.zr_shelf.specs.Publish.{WasAsked}
use Rattle.zr_slots.specs.Phases.{HaveRoot, IsFlushed, IsPublished, IsRootPut}
use Rattle.zr_sync.proofs.Rings.{EndBelowLabels, KeepsUnits, put_clear}
use Rattle.zr_view.specs.Views as views
use Rattle.zr_stops.specs.Torn.{MayHaveRoot}

-- a write that puts the same bytes at each of some places has these bytes
put_bytes : (slot : ℕ) (places : List ℕ) (bytes : List ℕ) (w : PendingWrite) → Contains (puts slot places bytes) w → w.bytes ≡ bytes
put_bytes slot [] bytes w has = absurd (let lt = has.1 in omega (arith, lt))
put_bytes slot (at ∷ places) bytes w (zero, lt, is) = sym (ap (λ (x : PendingWrite). x.bytes) is)
put_bytes slot (at ∷ places) bytes w (suc i, lt, is) = put_bytes slot places bytes w (i, omega (arith, lt), is)

module _ (sizes both all : List ℕ) (u : Uber) (lawful : IsUber u) (long : length (uber_block u) ≡ 4096) (a : World) (whole_disks : map length a.now.seen ≡ sizes)
    (big_both : (sl : ℕ) → Contains both sl → 8388608 ≤ whole (slice_index sizes sl)) (big_all : (sl : ℕ) → Contains all sl → 8388608 ≤ whole (slice_index sizes sl)) where
  abbrev pub size_at : ℕ → ℕ
  size_at sl = slice_index sizes sl

  abbrev pub place : ℕ
  place = slot_of u.txg

  -- the write puts the root into a ring
  abbrev pub IsPut : PendingWrite → Type 0
  IsPut w = IsRootPut sizes both 0 u w ⊎ IsRootPut sizes all 1 u w

  asked_bytes : (w : PendingWrite) → IsPut w → w.bytes ≡ uber_block u
  asked_bytes w (inl put) = put_bytes put.slot (root_places (slice_index sizes put.slot) 0 u.txg) (uber_block u) w put.put
  asked_bytes w (inr put) = put_bytes put.slot (root_places (slice_index sizes put.slot) 1 u.txg) (uber_block u) w put.put

  -- it meets no label block, and no ring slot but those of its place
  label_free : (sl n : ℕ) → n < 4 → (w : PendingWrite) → IsPut w → ¬ Meets w sl (label_block_at (size_at sl) n) 4096
  label_free sl n few w (inl put) =
      clear sizes u long both 0 sl (label_block_at (size_at sl) n) (λ has m is. label_clear (size_at sl) (big_both sl has) n m 0 place few (low_label m is) (omega arith) (omega arith)) w put
    where
      low_label : (m : ℕ) → (m ≡ 0) ⊎ (m ≡ 0 + 2) → m < 4
      low_label m (inl is) = omega (arith, is)
      low_label m (inr is) = omega (arith, is)
  label_free sl n few w (inr put) =
      clear sizes u long all 1 sl (label_block_at (size_at sl) n) (λ has m is. label_clear (size_at sl) (big_all sl has) n m 0 place few (low_label m is) (omega arith) (omega arith)) w put
    where
      low_label : (m : ℕ) → (m ≡ 1) ⊎ (m ≡ 1 + 2) → m < 4
      low_label m (inl is) = omega (arith, is)
      low_label m (inr is) = omega (arith, is)

  ring_free : (sl n k : ℕ) → n < 4 → k < 32 → k ≢ place → (w : PendingWrite) → IsPut w → ¬ Meets w sl (ring_slot_at (size_at sl) n k) 4096
  ring_free sl n k few low away w (inl put) =
      clear sizes u long both 0 sl (ring_slot_at (size_at sl) n k) (λ has m is. rings_apart (size_at sl) (big_both sl has) n m k place few (low_label m is) low (omega arith) (inr away)) w put
    where
      low_label : (m : ℕ) → (m ≡ 0) ⊎ (m ≡ 0 + 2) → m < 4
      low_label m (inl is) = omega (arith, is)
      low_label m (inr is) = omega (arith, is)
  ring_free sl n k few low away w (inr put) =
      clear sizes u long all 1 sl (ring_slot_at (size_at sl) n k) (λ has m is. rings_apart (size_at sl) (big_all sl has) n m k place few (low_label m is) low (omega arith) (inr away)) w put
    where
      low_label : (m : ℕ) → (m ≡ 1) ⊎ (m ≡ 1 + 2) → m < 4
      low_label m (inl is) = omega (arith, is)
      low_label m (inr is) = omega (arith, is)

  free_of_all : (slot at n : ℕ) → ((w : PendingWrite) → IsPut w → ¬ Meets w slot at n) → (ws : List PendingWrite) → AllByRecursion IsPut ws → IsUntouched ws slot at n
  free_of_all slot at n free [] each = tt
  free_of_all slot at n free (w ∷ ws) each = (free w each.0, free_of_all slot at n free ws each.1)

  -- ---- how the disks stand

  -- The disks have all bytes that no such write meets. Each ring slot has its block, or in its place the root.
  pub record IsBase (disks : List (List ℕ)) : Type 0 where
    pub lengths : map length disks ≡ map length a.now.seen
    pub free : (sl at : ℕ) → ((w : PendingWrite) → IsPut w → ¬ Meets w sl at 4096) → part (disk disks sl) at 4096 ≡ part (disk a.now.seen sl) at 4096
    pub rings : (sl n k : ℕ) → n < 4 → k < 32 → (ring_block (size_at sl) (disk disks sl) n k ≡ ring_block (size_at sl) (disk a.now.seen sl) n k) ⊎ ((k ≡ place) × (ring_block (size_at sl) (disk disks sl) n k ≡ uber_block u))

  -- so they are durable, and what is pending puts the root
  pub record IsPutting (stand : Stand) : Type 0 where
    pub durable : IsBase stand.durable
    pub writes : AllByRecursion IsPut stand.writes

  base_start : IsBase a.now.seen
  base_start = record { lengths = refl; free = λ sl at free. refl; rings = λ sl n k few low. inl refl }

  at_rest : (stand : Stand) → IsBase stand.seen → IsPutting (flushed stand)
  at_rest stand base = record { durable = base; writes = tt }

  putting_step : (Put : PendingWrite → Type 0) → ((w : PendingWrite) → Put w → IsPut w) → (b c : Stand) → Adds Put b c → IsPutting b → IsPutting c
  putting_step Put is_put b c (added_none is) h = subst IsPutting (sym is) h
  putting_step Put is_put b c (added w may written) h = record {
    durable = subst IsBase (sym written.durable) h.durable;
    writes = subst (AllByRecursion IsPut) (sym written.writes) (is_put w may, h.writes);
  }

  -- ---- an image

  module _ (stand : Stand) (putting : IsPutting stand) (image : List (List ℕ)) (left : IsLeft stand image) where
    base : IsBase stand.durable
    base = putting.durable

    durable_kept : (slot at : ℕ) → ((w : PendingWrite) → IsPut w → ¬ Meets w slot at 4096) → part (disk image slot) at 4096 ≡ part (disk stand.durable slot) at 4096
    durable_kept slot at free = left.leaves.bytes slot at 4096 (free_of_all slot at 4096 free stand.writes putting.writes)

    pub kept : (slot at : ℕ) → ((w : PendingWrite) → IsPut w → ¬ Meets w slot at 4096) → part (disk image slot) at 4096 ≡ part (disk a.now.seen slot) at 4096
    kept slot at free = durable_kept slot at free ∙ base.free slot at free

    image_sizes : map length image ≡ map length a.now.seen
    image_sizes = left.leaves.sizes ∙ base.lengths

    module _ (sl : ℕ) where
      old_size : length (disk a.now.seen sl) ≡ size_at sl
      old_size = length_at a.now.seen sizes sl whole_disks

      durable_size : length (disk stand.durable sl) ≡ size_at sl
      durable_size = length_at stand.durable sizes sl (base.lengths ∙ whole_disks)

      asked : (ws : List PendingWrite) (at : ℕ) (bytes : List ℕ) → AllByRecursion IsPut ws → WasAsked ws sl at bytes → bytes ≡ uber_block u
      asked [] at bytes each was = absurd was
      asked (w ∷ ws) at bytes each (inl this) = sym this.2 ∙ asked_bytes w each.0
      asked (w ∷ ws) at bytes each (inr rest) = asked ws at bytes each.1 rest

      -- the block in the root's place
      in_place : (n : ℕ) → n < 4 → IsRingOf u place (ring_block (size_at sl) (disk a.now.seen sl) n place) (ring_block (size_at sl) (disk image sl) n place)
      in_place n few =
          let at = ring_slot_at (size_at sl) n place in
          let honest = subst (λ (size : ℕ). (part (disk image sl) (ring_slot_at size n place) 4096 ≡ part (disk stand.durable sl) (ring_slot_at size n place) 4096)
          ⊎ (WasAsked stand.writes sl (ring_slot_at size n place) (part (disk image sl) (ring_slot_at size n place) 4096) ⊎ ((m : Mark) → ¬ IsMark (part (disk image sl) (ring_slot_at size n place) 4096) m))) durable_size (left.honest.rings sl n place few (omega arith)) in
          by_kind at honest (base.rings sl n place few (omega arith))
        where
          by_kind : (at : ℕ) → (part (disk image sl) at 4096 ≡ part (disk stand.durable sl) at 4096) ⊎ (WasAsked stand.writes sl at (part (disk image sl) at 4096) ⊎ IsNoMark (part (disk image sl) at 4096))
              → (part (disk stand.durable sl) at 4096 ≡ part (disk a.now.seen sl) at 4096) ⊎ ((place ≡ place) × (part (disk stand.durable sl) at 4096 ≡ uber_block u))
              → IsRingOf u place (part (disk a.now.seen sl) at 4096) (part (disk image sl) at 4096)
          by_kind at (inl old) (inl same) = inl (old ∙ same)
          by_kind at (inl old) (inr put) = inr (refl, inl (old ∙ put.1))
          by_kind at (inr (inl was)) had = inr (refl, inl (asked stand.writes at (part (disk image sl) at 4096) putting.writes was))
          by_kind at (inr (inr none)) had = inr (refl, inr none)

      ring_of : (n k : ℕ) → n < 4 → k < 32 → IsRingOf u k (ring_block (size_at sl) (disk a.now.seen sl) n k) (ring_block (size_at sl) (disk image sl) n k)
      ring_of n k few low = elim (cases_eq k place) [
        | inl here ↦ subst (λ (j : ℕ). IsRingOf u j (ring_block (size_at sl) (disk a.now.seen sl) n j) (ring_block (size_at sl) (disk image sl) n j)) (sym here) (in_place n few)
        | inr away ↦ inl (kept sl (ring_slot_at (size_at sl) n k) (ring_free sl n k few low away))
      ]

      label_kept : (n : ℕ) → n < 4 → block_of (size_at sl) (disk image sl) n ≡ block_of (size_at sl) (disk a.now.seen sl) n
      label_kept n few = kept sl (label_block_at (size_at sl) n) (label_free sl n few)

    pub torn : MayHaveRoot a.now.seen image u
    torn = record {
      count = count_of a.now.seen image image_sizes;
      sizes = λ sl. length_at image sizes sl (image_sizes ∙ whole_disks) ∙ sym (old_size sl);
      labels = λ sl n few. subst (λ (size : ℕ). block_of size (disk image sl) n ≡ block_of size (disk a.now.seen sl) n) (sym (old_size sl)) (label_kept sl n few);
      rings = λ sl n k few low. subst (λ (size : ℕ). IsRingOf u k (ring_block size (disk a.now.seen sl) n k) (ring_block size (disk image sl) n k)) (sym (old_size sl)) (ring_of sl n k few low);
    }

  -- ---- the moments

  seen_lengths : (old new : World) (Put : PendingWrite → Type 0) → WritesOnly Put old new → map length new.now.seen ≡ map length old.now.seen
  seen_lengths old new Put writes = (added_throughout (λ (s : Stand). map length s.seen ≡ map length old.now.seen) Put step old new writes refl).1
    where
      step : (x y : Stand) → Adds Put x y → map length x.seen ≡ map length old.now.seen → map length y.seen ≡ map length old.now.seen
      step x y (added_none is) same = ap (λ (s : Stand). map length s.seen) is ∙ same
      step x y (added w may written) same = written.seen.sizes ∙ same

  seen_free : (old new : World) (Put : PendingWrite → Type 0) → ((w : PendingWrite) → Put w → IsPut w) → WritesOnly Put old new → (sl at : ℕ) → ((w : PendingWrite) → IsPut w → ¬ Meets w sl at 4096)
      → part (disk new.now.seen sl) at 4096 ≡ part (disk old.now.seen sl) at 4096
  seen_free old new Put is_put writes sl at free = (added_throughout (λ (s : Stand). part (disk s.seen sl) at 4096 ≡ part (disk old.now.seen sl) at 4096) Put step old new writes refl).1
    where
      step : (x y : Stand) → Adds Put x y → part (disk x.seen sl) at 4096 ≡ part (disk old.now.seen sl) at 4096 → part (disk y.seen sl) at 4096 ≡ part (disk old.now.seen sl) at 4096
      step x y (added_none is) same = ap (λ (s : Stand). part (disk s.seen sl) at 4096) is ∙ same
      step x y (added w may written) same = written.seen.bytes sl at 4096 (free w (is_put w may), tt) ∙ same

  -- from the first flush on, while the root is put into the first labels
  pub begun_throughout : (first b : World) → IsFlushed a first → WritesOnly (IsRootPut sizes both 0 u) first b → Throughout IsPutting a b
  begun_throughout first b before wrote =
      let rest_first : IsPutting first.now = subst IsPutting (sym before.step) (at_rest a.now base_start) in
      joined IsPutting a first b (goes_on IsPutting _ a a first (started IsPutting a) before rest_first) (added_throughout IsPutting (IsRootPut sizes both 0 u) (putting_step (IsRootPut sizes both 0 u) (λ w put. inl put)) first b wrote rest_first).0

  -- and from the second one on, while it is put into the others
  module _ (first half second : World) (before : IsFlushed a first) (wrote : WritesOnly (IsRootPut sizes both 0 u) first half) (between : IsFlushed half second) (durable : HaveRoot sizes both 0 u second.now.durable) where
    none_in : (sl : ℕ) → Contains [] sl → ⊥
    none_in sl has = let lt = has.1 in omega (arith, lt)

    big_none : (sl : ℕ) → Contains [] sl → 8388608 ≤ whole (slice_index sizes sl)
    big_none sl has = absurd (none_in sl has)

    abbrev behind : World
    behind = record { now = flushed second.now; past = second.now ∷ second.past }

    -- as a root that is published there alone
    halfway : IsPublished sizes both [] u a behind
    halfway = record {
      first = first;
      half = half;
      second = second;
      whole = second;
      before = before;
      wrote = wrote;
      between = between;
      rest = writes_nothing (IsRootPut sizes [] 1 u) second;
      behind = record { past = refl; step = refl };
      durable = durable;
      all_durable = record { one = λ sl has. absurd (none_in sl has); other = λ sl has. absurd (none_in sl has) };
    }

    half_ring : (sl n k : ℕ) → n < 4 → k < 32 → (ring_block (size_at sl) (disk half.now.seen sl) n k ≡ ring_block (size_at sl) (disk a.now.seen sl) n k) ⊎ ((k ≡ place) × (ring_block (size_at sl) (disk half.now.seen sl) n k ≡ uber_block u))
    unfolding halfway
    half_ring sl n k few low = ⊎_elim even odd (even_or_odd sizes both [] u long a behind whole_disks big_both big_none halfway n few)
      where
        first_is : (Contains both sl → (m : ℕ) → (m ≡ 0) ⊎ (m ≡ 2) → (n ≢ m) ⊎ (k ≢ place)) → ring_block (size_at sl) (disk half.now.seen sl) n k ≡ ring_block (size_at sl) (disk a.now.seen sl) n k
        first_is differ = ring_first sizes both [] u long a behind whole_disks big_both big_none halfway sl n k few low differ

        even : (n ≡ 0) ⊎ (n ≡ 2) → (ring_block (size_at sl) (disk half.now.seen sl) n k ≡ ring_block (size_at sl) (disk a.now.seen sl) n k) ⊎ ((k ≡ place) × (ring_block (size_at sl) (disk half.now.seen sl) n k ≡ uber_block u))
        even is = elim (cases_eq k place) [
          | inl here ↦ (elim (has_or both sl) [
            | inl has ↦ inr (here, ap (λ (j : ℕ). ring_block (size_at sl) (disk half.now.seen sl) n j) here ∙ stands_first sizes both [] u long a behind whole_disks big_both big_none halfway sl n is has)
            | inr none ↦ inl (first_is (λ has m at. absurd (none has)))
          ])
          | inr away ↦ inl (first_is (λ has m at. inr away))
        ]

        odd : (n ≡ 1) ⊎ (n ≡ 3) → (ring_block (size_at sl) (disk half.now.seen sl) n k ≡ ring_block (size_at sl) (disk a.now.seen sl) n k) ⊎ ((k ≡ place) × (ring_block (size_at sl) (disk half.now.seen sl) n k ≡ uber_block u))
        odd is = inl (first_is (λ has m at. inl (λ same. not_odd sizes both [] u long a behind whole_disks big_both big_none halfway m n at is (sym same))))

    pub base_half : IsBase half.now.seen
    base_half = record {
      lengths = seen_lengths first half (IsRootPut sizes both 0 u) wrote ∙ ap (λ (ds : List (List ℕ)). map length ds) (flush_seen a first before);
      free = λ sl at free. seen_free first half (IsRootPut sizes both 0 u) (λ w put. inl put) wrote sl at free ∙ ap (λ (ds : List (List ℕ)). part (disk ds sl) at 4096) (flush_seen a first before);
      rings = half_ring;
    }

    pub rest_second : IsPutting second.now
    rest_second = subst IsPutting (sym between.step) (at_rest half.now base_half)

    half_throughout : Throughout IsPutting a second
    half_throughout = goes_on IsPutting _ a half second (begun_throughout first half before wrote) between rest_second

    pub almost_throughout : (b : World) → WritesOnly (IsRootPut sizes all 1 u) second b → Throughout IsPutting a b
    almost_throughout b rest = joined IsPutting a second b half_throughout (added_throughout IsPutting (IsRootPut sizes all 1 u) (putting_step (IsRootPut sizes all 1 u) (λ w put. inr put)) second b rest rest_second).0

  module _ (b : World) (p : IsPublished sizes both all u a b) where
    pub base_end : IsBase b.now.seen
    base_end = record {
      lengths =
          ap (λ (ds : List (List ℕ)). map length ds) (flush_seen p.whole b p.behind)
          ∙ (seen_lengths p.second p.whole (IsRootPut sizes all 1 u) p.rest
          ∙ (ap (λ (ds : List (List ℕ)). map length ds) (flush_seen p.half p.second p.between) ∙ (base_half p.first p.half p.second p.before p.wrote p.between p.durable).lengths));
      free = λ sl at free.
          ap (λ (ds : List (List ℕ)). part (disk ds sl) at 4096) (flush_seen p.whole b p.behind)
          ∙ (seen_free p.second p.whole (IsRootPut sizes all 1 u) (λ w put. inr put) p.rest sl at free
          ∙ (ap (λ (ds : List (List ℕ)). part (disk ds sl) at 4096) (flush_seen p.half p.second p.between) ∙ (base_half p.first p.half p.second p.before p.wrote p.between p.durable).free sl at free));
      rings = λ sl n k few low.
          subst (λ (size : ℕ). (ring_block size (disk b.now.seen sl) n k ≡ ring_block size (disk a.now.seen sl) n k) ⊎ ((k ≡ place) × (ring_block size (disk b.now.seen sl) n k ≡ uber_block u))) (length_at a.now.seen sizes sl whole_disks)
          ((puts_root sizes both all u long a b whole_disks big_both big_all p).rings sl n k few low);
    }

    -- at each moment from the first flush to the last
    pub putting_throughout : Throughout IsPutting a b
    putting_throughout =
        let whole_seen : IsBase p.whole.now.seen = subst IsBase (flush_seen p.whole b p.behind) base_end in
        goes_on IsPutting _ a p.whole b (almost_throughout p.first p.half p.second p.before p.wrote p.between p.durable p.whole p.rest) p.behind (subst IsPutting (sym p.behind.step) (at_rest p.whole.now whole_seen))

  -- ---- units

  module _ (slots : List (Option ℕ)) (ds : Devices) (below : EndBelowLabels sizes slots ds) where
    -- no write of the root meets a unit of a device
    unit_free : (d unit sl : ℕ) → d < ds.count → unit < (ds.row d).units → views.slot_of slots d ≡ Some sl → (w : PendingWrite) → IsPut w → ¬ Meets w sl (unit_at unit) 4096
    unit_free d unit sl known inside there w (inl put) = put_clear sizes slots ds below u lawful both 0 (λ size. omega arith) (λ size. omega arith) d unit sl known inside there w put
    unit_free d unit sl known inside there w (inr put) = put_clear sizes slots ds below u lawful all 1 (λ size. omega arith) (λ size. omega arith) d unit sl known inside there w put

    -- so each unit has its bytes in what a crash leaves
    pub units_kept : (stand : Stand) → IsPutting stand → (image : List (List ℕ)) → IsLeft stand image → KeepsUnits sizes slots ds below u lawful a.now.seen image
    units_kept stand putting image left d unit sl known inside there = kept stand putting image left sl (unit_at unit) (unit_free d unit sl known inside there)
