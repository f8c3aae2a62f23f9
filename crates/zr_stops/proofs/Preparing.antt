-- What stays while a slot is prepared for a device, whatever stood in it: the other disks have their bytes, and no root comes to the slot.
use Rattle.std.proofs.Common.{◌≡◌, ◌≢◌, ◌⊎◌, inl, inr, ℕ, zero, suc, ◌+◌, ◌-◌, ◌<◌, ◌≤◌, IsTrue, List, [], ◌∷◌, map, length, Option, Some, None, Ok, Err, Result, refl, sym, ◌∙◌, ap, subst, arith}
use Rattle.std.specs.Prelude.{Contains, slice_index}
use Rattle.std.specs.List.{AllByRecursion}
use Rattle.std.proofs.lemmas.Bool.{cases_eq, cases_lt}
use Rattle.std.proofs.lemmas.List.{length-replicate}
use Rattle.zr_current.proofs.Committed.{count_of, length_at}
use Rattle.zr_image.specs.Honest.{IsLeft, IsMark, Mark}
use Rattle.zr_image.specs.Honest.Mark.{of_device, of_group}
use Rattle.zr_label.proofs.Labels.{one_label}
use Rattle.zr_label.specs.Blocks.{IsLabel, SpellsLabel, SpellsUber, label_block, padding}
use Rattle.zr_label.specs.Geometry.{is_disk_size, label_block_at, ring_slot_at, slot_of as ring_of}
use Rattle.zr_label.specs.declared.root.Label.{Label}
use Rattle.zr_label.specs.declared.root.Uber.{Uber}
use Rattle.zr_newest.proofs.Kept.{label_on, root_was}
use Rattle.zr_newest.specs.Newest.{ShowsRoot}
use Rattle.zr_scan.proofs.Apart.{clearing_keeps_label, label_keeps_label, label_keeps_ring}
use Rattle.zr_scan.proofs.Blocks.{zeros_no_root}
use Rattle.zr_scan.proofs.Gathering.{slot_small}
use Rattle.zr_scan.proofs.Putting.{rest_same}
use Rattle.zr_scan.specs.Puts.{label_place, puts, ring_places}
use Rattle.zr_scan.specs.Scan.{IsFirstLabel, IsLabelOf, ShowsLabel, Stands, block_of, ring_block}
use Rattle.zr_scan.specs.declared.error.ScanErr.{ScanErr}
use Rattle.zr_shelf.proofs.Doings.{added_throughout}
use Rattle.zr_shelf.proofs.Runs.{goes_on, joined, started, weaker}
use Rattle.zr_shelf.specs.Disks.{IsUntouched, Meets, PendingWrite, Stand, disk, flushed, part, IsAtRest}
use Rattle.zr_shelf.specs.Doings.{Adds, WritesOnly}
use Rattle.zr_shelf.specs.Doings.Adds.{added_none, added}
use Rattle.zr_shelf.specs.Moments.{Throughout, World}
use Rattle.zr_shelf.specs.Publish.{WasAsked}
use Rattle.zr_slots.specs.Phases.{AreCleared, IsFlushed, IsLabelPut, IsRingPut, Prepares, PutsLast, SettlesLabel}
use Rattle.zr_sync.proofs.Rings.{label_long, uber_long}

-- ---- writes

puts_slot : (slot : ℕ) (places bytes : List ℕ) (w : PendingWrite) → Contains (puts slot places bytes) w → w.slot ≡ slot
puts_slot slot [] bytes w has = absurd (let lt = has.1 in omega (arith, lt))
puts_slot slot (at ∷ places) bytes w (zero, lt, is) = sym (ap (λ (x : PendingWrite). x.slot) is)
puts_slot slot (at ∷ places) bytes w (suc i, lt, is) = puts_slot slot places bytes w (i, omega (arith, lt), is)

puts_bytes : (slot : ℕ) (places bytes : List ℕ) (w : PendingWrite) → Contains (puts slot places bytes) w → w.bytes ≡ bytes
puts_bytes slot [] bytes w has = absurd (let lt = has.1 in omega (arith, lt))
puts_bytes slot (at ∷ places) bytes w (zero, lt, is) = sym (ap (λ (x : PendingWrite). x.bytes) is)
puts_bytes slot (at ∷ places) bytes w (suc i, lt, is) = puts_bytes slot places bytes w (i, omega (arith, lt), is)

-- they leave the other slots alone
puts_elsewhere : (slot : ℕ) (places bytes : List ℕ) (other at n : ℕ) → other ≢ slot → IsUntouched (puts slot places bytes) other at n
puts_elsewhere slot [] bytes other at n differ = tt
puts_elsewhere slot (p ∷ places) bytes other at n differ = (λ met. differ (sym met.same), puts_elsewhere slot places bytes other at n differ)

-- one of the writes meets nothing that they all leave alone
clear_among : (slot at n : ℕ) (ws : List PendingWrite) (w : PendingWrite) → Contains ws w → IsUntouched ws slot at n → ¬ Meets w slot at n
clear_among slot at n [] w has clear = absurd (let lt = has.1 in omega (arith, lt))
clear_among slot at n (x ∷ ws) w (zero, lt, is) clear = subst (λ (y : PendingWrite). ¬ Meets y slot at n) is clear.0
clear_among slot at n (x ∷ ws) w (suc i, lt, is) clear = clear_among slot at n ws w (i, omega (arith, lt), is) clear.1

module _ (Put : PendingWrite → Type 0) where
  clear_of : (slot at n : ℕ) → ((w : PendingWrite) → Put w → ¬ Meets w slot at n) → (ws : List PendingWrite) → AllByRecursion Put ws → IsUntouched ws slot at n
  clear_of slot at n free [] each = tt
  clear_of slot at n free (w ∷ ws) each = (free w each.0, clear_of slot at n free ws each.1)

  asked_by : (slot at : ℕ) (bytes all : List ℕ) → ((w : PendingWrite) → Put w → w.bytes ≡ all) → (ws : List PendingWrite) → AllByRecursion Put ws → WasAsked ws slot at bytes → bytes ≡ all
  asked_by slot at bytes all same [] each was = absurd was
  asked_by slot at bytes all same (w ∷ ws) each (inl this) = sym this.2 ∙ same w each.0
  asked_by slot at bytes all same (w ∷ ws) each (inr rest) = asked_by slot at bytes all same ws each.1 rest

-- ---- how long things are

zeros_long : (n : ℕ) → length (padding n) ≡ n
unfolding padding
zeros_long n = length-replicate {A = ℕ} n 0

-- a root is no zeros
zeros_no_uber : (block : List ℕ) (v : Uber) → SpellsUber block v → block ≡ padding 131072 → ⊥
zeros_no_uber block v spells is =
    let a = uber_long v spells.lawful in
    let b = zeros_long 131072 in
    let c = ap (λ (bytes : List ℕ). length bytes) spells.spelling in
    let d = ap (λ (bytes : List ℕ). length bytes) is in
    omega (arith, a, b, c, d)

-- ---- disks that are durable as they read

pub settled_left : (stand : Stand) → stand.durable ≡ stand.seen → IsLeft stand stand.seen
settled_left stand same = record {
  leaves = record { sizes = ap (λ (d : List (List ℕ)). map length d) (sym same); bytes = λ slot at n clear. ap (λ (d : List (List ℕ)). part (disk d slot) at n) (sym same) };
  honest = record {
    labels = λ slot n few. inl (ap (λ (d : List (List ℕ)). part (disk d slot) (label_block_at (length (disk stand.durable slot)) n) 4096) (sym same));
    rings = λ slot n k few low. inl (ap (λ (d : List (List ℕ)). part (disk d slot) (ring_slot_at (length (disk stand.durable slot)) n k) 4096) (sym same));
  };
}

-- ---- beside a slot

module _ (sizes : List ℕ) (start : Stand) (rest : IsAtRest start) (sized : map length start.seen ≡ sizes) (sl : ℕ) (l : Label) (lawful : IsLabel l) (used : IsTrue (is_disk_size 2 (slice_index sizes sl))) where
  abbrev pub size : ℕ
  size = slice_index sizes sl

  pub old_size : length (disk start.seen sl) ≡ size
  old_size = length_at start.seen sizes sl sized

  -- the disks have their sizes, and all but this one their bytes
  pub record IsBeside (d : List (List ℕ)) : Type 0 where
    pub lengths : map length d ≡ map length start.seen
    pub others : (other at n : ℕ) → other ≢ sl → part (disk d other) at n ≡ part (disk start.seen other) at n

  beside_start : IsBeside start.seen
  beside_start = record { lengths = refl; others = λ other at n differ. refl }

  size_on : (d : List (List ℕ)) → IsBeside d → length (disk d sl) ≡ size
  size_on d beside = length_at d sizes sl (beside.lengths ∙ sized)

  -- The image has the other disks. No root has come to the slot, and it shows a label that it showed, none, or the new one.
  pub record IsKeptBeside (image : List (List ℕ)) : Type 0 where
    pub beside : IsBeside image
    pub roots : (v : Uber) → ShowsRoot image sl v → ShowsRoot start.seen sl v
    pub label : (o : Option Label) → ShowsLabel size (disk image sl) o → ShowsLabel size (disk start.seen sl) o ⊎ ((o ≡ None) ⊎ (o ≡ Some l))

  -- whatever an honest crash leaves has them
  abbrev pub KeepsBeside : Stand → Type 0
  KeepsBeside stand = (image : List (List ℕ)) → IsLeft stand image → IsKeptBeside image

  module _ (image : List (List ℕ)) (kept : IsKeptBeside image) where
    pub same_size : (k : ℕ) → length (disk image k) ≡ length (disk start.seen k)
    same_size k = length_at image sizes k (kept.beside.lengths ∙ sized) ∙ sym (length_at start.seen sizes k sized)

    pub count : length image ≡ length start.seen
    count = count_of start.seen image kept.beside.lengths

    -- a root that is shown there was shown before
    pub root_back : (k : ℕ) (v : Uber) → ShowsRoot image k v → ShowsRoot start.seen k v
    root_back k v is = elim (cases_eq k sl) [
      | inl here ↦ subst (λ (j : ℕ). ShowsRoot start.seen j v) (sym here) (kept.roots v (subst (λ (j : ℕ). ShowsRoot image j v) here is))
      | inr differ ↦
          root_was start.seen image k (same_size k) (λ n few. kept.beside.others k (label_block_at (length (disk start.seen k)) n) 4096 differ) count v is
          (kept.beside.others k (ring_slot_at (length (disk start.seen k)) is.ring (ring_of v.txg)) 4096 differ)
    ]

  -- ---- the rings are cleared

  abbrev IsRings : PendingWrite → Type 0
  IsRings = IsRingPut size sl

  -- nothing else is pending
  pub record IsClearing (stand : Stand) : Type 0 where
    pub durable : stand.durable ≡ start.seen
    pub writes : AllByRecursion IsRings stand.writes

  rings_elsewhere : (other at n : ℕ) → other ≢ sl → (w : PendingWrite) → IsRings w → ¬ Meets w other at n
  rings_elsewhere other at n differ w put met = differ (sym met.same ∙ puts_slot sl (ring_places size) (padding 131072) w put)

  rings_no_label : (n : ℕ) → n < 4 → (w : PendingWrite) → IsRings w → ¬ Meets w sl (label_block_at size n) 4096
  rings_no_label n few w put = clear_among sl (label_block_at size n) 4096 (puts sl (ring_places size) (padding 131072)) w put (clearing_keeps_label size used sl n (padding 131072) (zeros_long 131072) few)

  module _ (stand : Stand) (h : IsClearing stand) (image : List (List ℕ)) (left : IsLeft stand image) where
    clearing_beside : IsBeside image
    clearing_beside = record {
      lengths = left.leaves.sizes ∙ ap (λ (d : List (List ℕ)). map length d) h.durable;
      others = λ other at n differ. left.leaves.bytes other at n (clear_of IsRings other at n (rings_elsewhere other at n differ) stand.writes h.writes) ∙ ap (λ (d : List (List ℕ)). part (disk d other) at n) h.durable;
    }

    clearing_labels : (n : ℕ) → n < 4 → block_of size (disk image sl) n ≡ block_of size (disk start.seen sl) n
    clearing_labels n few =
        left.leaves.bytes sl (label_block_at size n) 4096 (clear_of IsRings sl (label_block_at size n) 4096 (rings_no_label n few) stand.writes h.writes) ∙ ap (λ (d : List (List ℕ)). part (disk d sl) (label_block_at size n) 4096) h.durable

    durable_size : length (disk stand.durable sl) ≡ size
    durable_size = ap (λ (d : List (List ℕ)). length (disk d sl)) h.durable ∙ old_size

    image_size : length (disk image sl) ≡ size
    image_size = size_on image clearing_beside

    -- a block is honest
    abbrev IsOneOf : ℕ → Type 0
    IsOneOf at = (part (disk image sl) at 4096 ≡ part (disk stand.durable sl) at 4096) ⊎ (WasAsked stand.writes sl at (part (disk image sl) at 4096) ⊎ ((m : Mark) → ¬ IsMark (part (disk image sl) at 4096) m))

    -- a root that stands there stood there
    clearing_roots : (v : Uber) → ShowsRoot image sl v → ShowsRoot start.seen sl v
    clearing_roots v is = by_block (subst (λ (n : ℕ). IsOneOf (ring_slot_at n is.ring (ring_of v.txg))) durable_size (left.honest.rings sl is.ring (ring_of v.txg) is.four (slot_small v.txg)))
      where
        at : ℕ
        at = ring_slot_at size is.ring (ring_of v.txg)

        spells : SpellsUber (part (disk image sl) at 4096) v
        spells = subst (λ (n : ℕ). Stands n (disk image sl) is.ring v) image_size is.stands

        by_block : IsOneOf at → ShowsRoot start.seen sl v
        by_block (inl same) =
            root_was start.seen image sl (image_size ∙ sym old_size) (λ n few. subst (λ (m : ℕ). block_of m (disk image sl) n ≡ block_of m (disk start.seen sl) n) (sym old_size) (clearing_labels n few)) (count_of start.seen image clearing_beside.lengths) v is
            (subst (λ (m : ℕ). ring_block m (disk image sl) is.ring (ring_of v.txg) ≡ ring_block m (disk start.seen sl) is.ring (ring_of v.txg)) (sym old_size) (same ∙ ap (λ (d : List (List ℕ)). part (disk d sl) at 4096) h.durable))
        by_block (inr (inl put)) = absurd (zeros_no_uber (part (disk image sl) at 4096) v spells (asked_by IsRings sl at (part (disk image sl) at 4096) (padding 131072) (λ w asked. puts_bytes sl (ring_places size) (padding 131072) w asked) stand.writes h.writes put))
        by_block (inr (inr none)) = absurd (none (of_group v) spells)

    clearing_kept : IsKeptBeside image
    clearing_kept = record {
      beside = clearing_beside;
      roots = clearing_roots;
      label = λ o is. inl (label_back o is);
    }
      where
        label_back : (o : Option Label) → ShowsLabel size (disk image sl) o → ShowsLabel size (disk start.seen sl) o
        label_back o is =
            subst (λ (n : ℕ). ShowsLabel n (disk start.seen sl) o) old_size
            (label_on image start.seen sl (old_size ∙ sym image_size) (λ n few. subst (λ (m : ℕ). block_of m (disk start.seen sl) n ≡ block_of m (disk image sl) n) (sym image_size) (sym (clearing_labels n few))) o
            (subst (λ (n : ℕ). ShowsLabel n (disk image sl) o) (sym image_size) is))

  clearing_keeps : (stand : Stand) → IsClearing stand → KeepsBeside stand
  clearing_keeps stand h image left = clearing_kept stand h image left

  clearing_step : (a b : Stand) → Adds IsRings a b → IsClearing a → IsClearing b
  clearing_step a b (added_none is) h = subst IsClearing (sym is) h
  clearing_step a b (added w may written) h = record { durable = written.durable ∙ h.durable; writes = subst (AllByRecursion IsRings) (sym written.writes) (may, h.writes) }

  -- ---- the labels are put

  abbrev IsPutAt : ℕ → PendingWrite → Type 0
  IsPutAt k = IsLabelPut size sl (3 - k) l

  -- the disks have the last k label blocks of the new label, the others of before, and blank rings
  pub record HasBack (k : ℕ) (d : List (List ℕ)) : Type 0 where
    pub beside : IsBeside d
    pub front : (n : ℕ) → n + k < 4 → block_of size (disk d sl) n ≡ block_of size (disk start.seen sl) n
    pub back : (n : ℕ) → n < 4 → 4 ≤ n + k → SpellsLabel (block_of size (disk d sl) n) l
    pub blank : AreCleared size sl d

  -- nothing is pending but the label block before them
  pub record IsLabelling (k : ℕ) (stand : Stand) : Type 0 where
    pub durable : HasBack k stand.durable
    pub writes : AllByRecursion (IsPutAt k) stand.writes

  module _ (k : ℕ) where
    label_elsewhere : (other at n : ℕ) → other ≢ sl → (w : PendingWrite) → IsPutAt k w → ¬ Meets w other at n
    label_elsewhere other at n differ w put met = differ (sym met.same ∙ puts_slot sl (label_place size (3 - k)) (label_block l) w put)

    label_no_ring : (n j : ℕ) → n < 4 → j < 32 → (w : PendingWrite) → IsPutAt k w → ¬ Meets w sl (ring_slot_at size n j) 4096
    label_no_ring n j few low w put =
        clear_among sl (ring_slot_at size n j) 4096 (puts sl (label_place size (3 - k)) (label_block l)) w put (label_keeps_ring size used sl (3 - k) (label_block l) (label_long l lawful) (omega arith) n j few low)

    label_no_other : (n : ℕ) → n < 4 → n ≢ 3 - k → (w : PendingWrite) → IsPutAt k w → ¬ Meets w sl (label_block_at size n) 4096
    label_no_other n few differ w put =
        clear_among sl (label_block_at size n) 4096 (puts sl (label_place size (3 - k)) (label_block l)) w put (label_keeps_label size used sl (3 - k) (label_block l) (label_long l lawful) (omega arith) n few differ)

    module _ (stand : Stand) (h : IsLabelling k stand) (image : List (List ℕ)) (left : IsLeft stand image) where
      labelling_beside : IsBeside image
      labelling_beside = record {
        lengths = left.leaves.sizes ∙ h.durable.beside.lengths;
        others = λ other at n differ. left.leaves.bytes other at n (clear_of (IsPutAt k) other at n (label_elsewhere other at n differ) stand.writes h.writes) ∙ h.durable.beside.others other at n differ;
      }

      ring_blank : AreCleared size sl image
      ring_blank n j few low = left.leaves.bytes sl (ring_slot_at size n j) 4096 (clear_of (IsPutAt k) sl (ring_slot_at size n j) 4096 (label_no_ring n j few low) stand.writes h.writes) ∙ h.durable.blank n j few low

      size_now : length (disk image sl) ≡ size
      size_now = size_on image labelling_beside

      labelling_roots : (v : Uber) → ShowsRoot image sl v → ShowsRoot start.seen sl v
      labelling_roots v is = absurd (zeros_no_root v (subst (λ (b : List ℕ). SpellsUber b v) (ring_blank is.ring (ring_of v.txg) is.four (slot_small v.txg)) (subst (λ (n : ℕ). Stands n (disk image sl) is.ring v) size_now is.stands)))

      -- a block that is not the one that is put
      still_there : (n : ℕ) → n < 4 → n ≢ 3 - k → block_of size (disk image sl) n ≡ block_of size (disk stand.durable sl) n
      still_there n few differ = left.leaves.bytes sl (label_block_at size n) 4096 (clear_of (IsPutAt k) sl (label_block_at size n) 4096 (label_no_other n few differ) stand.writes h.writes)

      -- each block is the old one, or the new label, or no label
      abbrev IsOldOrNew : ℕ → Type 0
      IsOldOrNew n = ((n + k < 4) × (block_of size (disk image sl) n ≡ block_of size (disk start.seen sl) n)) ⊎ (SpellsLabel (block_of size (disk image sl) n) l ⊎ ((m : Mark) → ¬ IsMark (block_of size (disk image sl) n) m))

      by_durable : (n : ℕ) → n < 4 → block_of size (disk image sl) n ≡ block_of size (disk stand.durable sl) n → IsOldOrNew n
      by_durable n few same = elim (cases_lt (n + k) 4) [
        | inl lt ↦ inl (lt, same ∙ h.durable.front n lt)
        | inr ge ↦ inr (inl (subst (λ (b : List ℕ). SpellsLabel b l) (sym same) (h.durable.back n few ge)))
      ]

      durable_is : length (disk stand.durable sl) ≡ size
      durable_is = size_on stand.durable h.durable.beside

      asked_label : (at : ℕ) → WasAsked stand.writes sl at (part (disk image sl) at 4096) → SpellsLabel (part (disk image sl) at 4096) l
      asked_label at was_asked = record { lawful = lawful; spelling = asked_by (IsPutAt k) sl at (part (disk image sl) at 4096) (label_block l) (λ w put. puts_bytes sl (label_place size (3 - k)) (label_block l) w put) stand.writes h.writes was_asked }

      kind : (n : ℕ) → n < 4 → IsOldOrNew n
      kind n few = elim (cases_eq n (3 - k)) [
        | inl here ↦
            by_honest
            (subst
            (λ (m : ℕ). (part (disk image sl) (label_block_at m n) 4096 ≡ part (disk stand.durable sl) (label_block_at m n) 4096) ⊎ (WasAsked stand.writes sl (label_block_at m n) (part (disk image sl) (label_block_at m n) 4096) ⊎ ((x : Mark) → ¬ IsMark (part (disk image sl) (label_block_at m n) 4096) x)))
            durable_is (left.honest.labels sl n few))
        | inr differ ↦ by_durable n few (still_there n few differ)
      ]
        where
          by_honest : (block_of size (disk image sl) n ≡ block_of size (disk stand.durable sl) n) ⊎ (WasAsked stand.writes sl (label_block_at size n) (block_of size (disk image sl) n) ⊎ ((x : Mark) → ¬ IsMark (block_of size (disk image sl) n) x)) → IsOldOrNew n
          by_honest (inl same) = by_durable n few same
          by_honest (inr (inl asked)) = inr (inl (asked_label (label_block_at size n) asked))
          by_honest (inr (inr none)) = inr (inr none)

      -- a label before the one that is put stood there
      below : (n : ℕ) → n + k < 3 → block_of size (disk image sl) n ≡ block_of size (disk start.seen sl) n
      below n low = still_there n (omega (arith, low)) (λ e. omega (arith, low, e)) ∙ h.durable.front n (omega (arith, low))

      first_label : (m : Label) → IsFirstLabel size (disk image sl) m → ShowsLabel size (disk start.seen sl) (Some m) ⊎ ((Some m ≡ None) ⊎ (Some m ≡ Some l))
      first_label m first = by_kind (kind first.label first.four)
        where
          by_kind : IsOldOrNew first.label → ShowsLabel size (disk start.seen sl) (Some m) ⊎ ((Some m ≡ None) ⊎ (Some m ≡ Some l))
          by_kind (inl (lt, same)) =
              inl (record {
                label = first.label;
                four = first.four;
                here = subst (λ (b : List ℕ). IsLabelOf size b m) same first.here;
                before = λ j less other is. first.before j less other (subst (λ (b : List ℕ). IsLabelOf size b other) (sym (below j (omega (arith, lt, less)))) is);
              })
          by_kind (inr (inl spells)) = inr (inr (ap Some (sym (one_label (block_of size (disk image sl) first.label) l m spells first.here.spelled))))
          by_kind (inr (inr none)) = absurd (none (of_device m) first.here.spelled)

      labelling_kept : IsKeptBeside image
      labelling_kept = record { beside = labelling_beside; roots = labelling_roots; label = by_label }
        where
          by_label : (o : Option Label) → ShowsLabel size (disk image sl) o → ShowsLabel size (disk start.seen sl) o ⊎ ((o ≡ None) ⊎ (o ≡ Some l))
          by_label None none = inr (inl refl)
          by_label (Some m) first = first_label m first

    labelling_keeps : (stand : Stand) → IsLabelling k stand → KeepsBeside stand
    labelling_keeps stand h image left = labelling_kept stand h image left

    labelling_step : (a b : Stand) → Adds (IsPutAt k) a b → IsLabelling k a → IsLabelling k b
    labelling_step a b (added_none is) h = subst (IsLabelling k) (sym is) h
    labelling_step a b (added w may written) h = record { durable = subst (HasBack k) (sym written.durable) h.durable; writes = subst (AllByRecursion (IsPutAt k)) (sym written.writes) (may, h.writes) }

  -- ---- the moments

  -- the last k label blocks are there, and nothing is pending
  pub record IsLabelled (k : ℕ) (stand : Stand) : Type 0 where
    pub has : HasBack k stand.durable
    pub seen : stand.durable ≡ stand.seen
    pub writes : stand.writes ≡ []

  at_rest : (k : ℕ) (stand : Stand) → HasBack k stand.seen → IsLabelled k (flushed stand)
  at_rest k stand has = record { has = has; seen = refl; writes = refl }

  begins_labelling : (k : ℕ) (stand : Stand) → IsLabelled k stand → IsLabelling k stand
  begins_labelling k stand h = record { durable = h.has; writes = subst (AllByRecursion (IsPutAt k)) (sym h.writes) tt }

  -- one label block more
  more_back : (k : ℕ) (a b : World) → k < 4 → HasBack k a.now.seen → WritesOnly (IsPutAt k) a b → SpellsLabel (block_of size (disk b.now.seen sl) (3 - k)) l → HasBack (suc k) b.now.seen
  more_back k a b low has wrote stands =
      let same = rest_same (puts sl (label_place size (3 - k)) (label_block l)) a b wrote in
      record {
        beside = record { lengths = same.sizes ∙ has.beside.lengths; others = λ other at n differ. same.bytes other at n (puts_elsewhere sl (label_place size (3 - k)) (label_block l) other at n differ) ∙ has.beside.others other at n differ };
        front = λ n lt. same.bytes sl (label_block_at size n) 4096 (label_keeps_label size used sl (3 - k) (label_block l) (label_long l lawful) (omega arith) n (omega (arith, lt)) (λ e. omega (arith, e, lt))) ∙ has.front n (omega (arith, lt));
        back = λ n few ge. elim (cases_eq n (3 - k)) [
          | inl here ↦ subst (λ (j : ℕ). SpellsLabel (block_of size (disk b.now.seen sl) j) l) (sym here) stands
          | inr differ ↦
              subst (λ (block : List ℕ). SpellsLabel block l) (sym (same.bytes sl (label_block_at size n) 4096 (label_keeps_label size used sl (3 - k) (label_block l) (label_long l lawful) (omega arith) n few differ))) (has.back n few (omega (arith, ge, differ, low, few)))
        ];
        blank = λ n j few small. same.bytes sl (ring_slot_at size n j) 4096 (label_keeps_ring size used sl (3 - k) (label_block l) (label_long l lawful) (omega arith) n j few small) ∙ has.blank n j few small;
      }

  -- while it is put and made durable
  label_through : (k : ℕ) → k < 4 → (mid b : World) → IsLabelled k mid.now → SettlesLabel size sl (3 - k) l (Ok tt) mid b → Throughout KeepsBeside mid b × IsLabelled (suc k) b.now
  label_through k low mid b labelled (put, wrote, flush, stands) =
      let writing = added_throughout (IsLabelling k) (IsPutAt k) (labelling_step k) mid put wrote (begins_labelling k mid.now labelled) in
      let step = flush.step in
      let here : SpellsLabel (block_of size (disk put.now.seen sl) (3 - k)) l = subst (λ (s : Stand). SpellsLabel (block_of size (disk s.seen sl) (3 - k)) l) step stands in
      let done : IsLabelled (suc k) b.now = subst (IsLabelled (suc k)) (sym step) (at_rest (suc k) put.now (more_back k mid put low (subst (HasBack k) labelled.seen labelled.has) wrote here)) in
      (goes_on KeepsBeside _ mid put b (weaker (IsLabelling k) KeepsBeside mid put (labelling_keeps k) writing.0) flush (labelling_keeps (suc k) b.now (begins_labelling (suc k) b.now done)), done)

  labels_through : (k : ℕ) → k ≤ 4 → (a b : World) → IsLabelled 0 a.now → PutsLast size sl k l a b → Throughout KeepsBeside a b × IsLabelled k b.now
  labels_through zero few a b begun is = (subst (Throughout KeepsBeside a) (sym is) (started KeepsBeside a), subst (λ (w : World). IsLabelled 0 w.now) (sym is) begun)
  labels_through (suc k) few a b begun (mid, last, step) =
      let before = labels_through k (omega (arith, few)) a mid begun last in
      let more = label_through k (omega (arith, few)) mid b before.1 step in
      (joined KeepsBeside a mid b before.0 more.0, more.1)

  module _ (w0 cleared first : World) (at_start : w0.now ≡ start) (rings : WritesOnly IsRings w0 cleared) where
    starts_clearing : IsClearing w0.now
    starts_clearing = subst IsClearing (sym at_start) (record { durable = sym rest.seen; writes = subst (AllByRecursion IsRings) (sym rest.writes) tt })

    clearing : Throughout IsClearing w0 cleared × IsClearing cleared.now
    clearing = added_throughout IsClearing IsRings clearing_step w0 cleared rings starts_clearing

    pub cleared_keeps : Throughout KeepsBeside w0 cleared
    cleared_keeps = weaker IsClearing KeepsBeside w0 cleared clearing_keeps clearing.0

    module _ (flush : IsFlushed cleared first) (blank : AreCleared size sl first.now.seen) where
      cleared_back : HasBack 0 cleared.now.seen
      cleared_back =
          let same = rest_same (puts sl (ring_places size) (padding 131072)) w0 cleared rings in
          let seen : w0.now.seen ≡ start.seen = ap (λ (s : Stand). s.seen) at_start in
          record {
            beside = record {
              lengths = same.sizes ∙ ap (λ (d : List (List ℕ)). map length d) seen;
              others = λ other at n differ. same.bytes other at n (puts_elsewhere sl (ring_places size) (padding 131072) other at n differ) ∙ ap (λ (d : List (List ℕ)). part (disk d other) at n) seen;
            };
            front = λ n lt. same.bytes sl (label_block_at size n) 4096 (clearing_keeps_label size used sl n (padding 131072) (zeros_long 131072) (omega (arith, lt))) ∙ ap (λ (d : List (List ℕ)). part (disk d sl) (label_block_at size n) 4096) seen;
            back = λ n few ge. absurd (omega (arith, few, ge));
            blank = λ n j few low. ap (λ (s : Stand). ring_block size (disk s.seen sl) n j) (sym flush.step) ∙ blank n j few low;
          }

      begun : IsLabelled 0 first.now
      begun = subst (IsLabelled 0) (sym flush.step) (at_rest 0 cleared.now cleared_back)

      pub first_keeps : Throughout KeepsBeside w0 first
      first_keeps = goes_on KeepsBeside _ w0 cleared first cleared_keeps flush (labelling_keeps 0 first.now (begins_labelling 0 first.now begun))

      pub last_labels : (k : ℕ) → k ≤ 4 → (b : World) → PutsLast size sl k l first b → Throughout KeepsBeside w0 b × IsLabelled k b.now
      last_labels k few b last = let through = labels_through k few first b begun last in (joined KeepsBeside w0 first b first_keeps through.0, through.1)

  -- at each moment while the slot is prepared, done or not
  pub prepares_keeps : (r : Result (Unit {0}) ScanErr) (w0 now : World) → w0.now ≡ start → Prepares size sl l r w0 now → Throughout KeepsBeside w0 now
  prepares_keeps (Ok done) w0 now at_start p = (last_labels w0 p.cleared p.first at_start p.rings p.between p.blank 4 (omega arith) now p.labels).0
  prepares_keeps (Err e) w0 now at_start (inl rings) = cleared_keeps w0 now now at_start rings
  prepares_keeps (Err e) w0 now at_start (inr p) =
      let before = last_labels w0 p.cleared p.first at_start p.rings p.between p.blank p.k (let few = p.few in omega (arith, few)) p.mid p.last in
      joined KeepsBeside w0 p.mid now before.0 (weaker (IsLabelling p.k) KeepsBeside p.mid now (labelling_keeps p.k) (added_throughout (IsLabelling p.k) (IsPutAt p.k) (labelling_step p.k) p.mid now p.labels (begins_labelling p.k p.mid.now before.1)).0)

  -- where it is done, nothing is pending
  pub prepared : (w0 now : World) → w0.now ≡ start → Prepares size sl l (Ok tt) w0 now → IsLabelled 4 now.now
  prepared w0 now at_start p = (last_labels w0 p.cleared p.first at_start p.rings p.between p.blank 4 (omega arith) now p.labels).1

  -- then a root that is shown was shown before
  pub prepared_roots : (w0 now : World) → w0.now ≡ start → Prepares size sl l (Ok tt) w0 now → (k : ℕ) (v : Uber) → ShowsRoot now.now.seen k v → ShowsRoot start.seen k v
  prepared_roots w0 now at_start p =
      let done = prepared w0 now at_start p in
      root_back now.now.seen (labelling_kept 4 now.now (begins_labelling 4 now.now done) now.now.seen (settled_left now.now done.seen))
