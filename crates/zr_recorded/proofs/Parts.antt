-- What the streams of a pool record, device by device, where all devices are in service.
use Rattle.std.proofs.Common.{inl, inr, ◌≡◌, ◌<◌, ◌+◌, ℕ, suc, List, [], ◌∷◌, length, get_or, refl, sym, ◌∙◌, ap, subst, arith}
use Rattle.std.specs.Prelude.{Option, None, slice_index_or}
use Rattle.std.proofs.lemmas.Bool.{cases_lt}
use Rattle.std.proofs.lemmas.List.{get_or-take}
use Rattle.std.proofs.Math.ListN.{get_or-eq_default}
use Rattle.zr_base.specs.declared.space.CkptPart.{CkptPart}
use Rattle.zr_base.specs.declared.space.DevPart.{DevPart}
use Rattle.zr_base.specs.declared.space.DevRow.{DevRow}
use Rattle.zr_beside.specs.Beside.{Standing}
use Rattle.zr_current.specs.Current.{GoesOnFrom, IsShownFor}
use Rattle.zr_image.specs.Current.{slots_of}
use Rattle.zr_image.specs.Roots.{rows_of}
use Rattle.zr_label.specs.Blocks.{IsUber, no_row}
use Rattle.zr_label.specs.declared.root.Uber.{Uber}
use Rattle.zr_model.specs.Objects.{Objects}
use Rattle.zr_model.specs.State.{PoolState}
use Rattle.zr_open.proofs.Left.{left_is_shown}
use Rattle.zr_open.proofs.Recorded.{streams_record}
use Rattle.zr_open.specs.Left.{LeavesRoot, RecordsDevice, RecordsDevices, RecordsParts, root_left}
use Rattle.zr_open.specs.Shown.{IsShownBeside, Shows}
use Rattle.zr_open.specs.There.{AreThere}
use Rattle.zr_recorded.proofs.Reading.{ReadsMetadata, stream_read}
use Rattle.zr_recorded.proofs.Spelled.{spelled}
use Rattle.zr_recorded.specs.Service.{AreInService}
use Rattle.zr_roots.proofs.Rows.{taken_is}
use Rattle.zr_roots.specs.Standing.{image_of}
use Rattle.zr_rules.specs.Equation.{devices_in}
use Rattle.zr_rules.specs.Logs.{IsLate, IsLog}
use Rattle.zr_rules.specs.Places.{is_gone, no_part, part_of}
use Rattle.zr_store.specs.Store.{Stored}
use Rattle.zr_sync.specs.Empty.{no_streams}
use Rattle.zr_sync.specs.Heads.{HasHead}
use Rattle.zr_sync.specs.Objects.{HoldsObjects}
use Rattle.zr_sync.specs.Pools.{IsAfter, IsOpen, saved_block}
use Rattle.zr_sync.specs.States.{HoldsState}
use Rattle.zr_sync.specs.Streams.{streams_at}
use Rattle.zr_sync.specs.Trees.{HoldsStreams, every, one_stage}
use Rattle.zr_sync.specs.Trees.Place.{OfLog, FirstLate, SecondLate}
use Rattle.zr_sync.specs.Trees.Stage.{Recorded}
use Rattle.zr_sync.specs.declared.open.Checkpoint.{Checkpoint}
use Rattle.zr_sync.specs.declared.open.DeviceStreams.{DeviceStreams}
use Rattle.zr_sync.specs.declared.open.OpenPool.{OpenPool}
use Rattle.zr_sync.specs.declared.words.Log.TheVariants.{Held, Kept}

-- the devices of a list, each by its index
each_records : (s : Stored) (version : ℕ) (ckpt : CkptPart) (dev : ℕ) (rows : List DevRow) (streams : List DeviceStreams) (devs : List DevPart) → length streams ≡ length rows → length devs ≡ length rows
    → ((i e : ℕ) → i < length rows → e ≡ dev + i → RecordsDevice s version e ckpt (get_or rows i no_row) (get_or streams i no_streams) (get_or devs i no_part)) → RecordsDevices s version ckpt dev rows streams devs
each_records s version ckpt dev [] [] [] one two each = tt
each_records s version ckpt dev [] [] (p ∷ devs) one two each = absurd (omega (arith, two))
each_records s version ckpt dev [] (t ∷ streams) devs one two each = absurd (omega (arith, one))
each_records s version ckpt dev (r ∷ rows) [] devs one two each = absurd (omega (arith, one))
each_records s version ckpt dev (r ∷ rows) (t ∷ streams) [] one two each = absurd (omega (arith, two))
each_records s version ckpt dev (r ∷ rows) (t ∷ streams) (p ∷ devs) one two each = (
  each 0 dev (omega (arith)) (omega (arith)),
  each_records s version ckpt (dev + 1) rows streams devs (omega (arith, one)) (omega (arith, two)) (λ i e lt is. each (suc i) e (omega (arith, lt)) (omega (arith, is))),
)

module _ (disks image : List (List ℕ)) (sizes : List ℕ) (u : Uber) (pool : OpenPool) (others : List Standing) (tells : Type 0) (ready : IsOpen sizes pool) (from : GoesOnFrom u pool) (serves : AreInService u pool) (same : ReadsMetadata disks image pool) (h : HoldsStreams (every Recorded) (one_stage Recorded) others tells disks pool) where
  -- a device in service is not gone
  pub there : AreThere (devices_in pool.space)
  there d = elim (cases_lt d pool.table.count) [
    | inl lt ↦ ap is_gone (serves.whole.serve d lt).on
    | inr ge ↦ let many = ready.devices in ap (λ (p : DevPart). is_gone p.row.state) (get_or-eq_default pool.space.parts.devs no_part {n = d} (omega (arith, many, ge)))
  ]

  is_uber : IsUber u
  is_uber = (subst (λ (o : Option Uber). IsAfter o pool.group.txg) from.last ready.after).0

  many : length (rows_of u) ≡ u.count
  many = taken_is u is_uber

  row_is : (d : ℕ) → d < u.count → (part_of pool.space.parts.devs d).row ≡ get_or (rows_of u) d no_row
  row_is d below =
      let n = from.count in
      ready.rows d (omega (arith, below, n)) ∙ (ap (λ (rs : List DevRow). slice_index_or rs d no_row) from.rows ∙ sym (get_or-take u.count u.rows d no_row below))

  device : (d : ℕ) → d < u.count → RecordsDevice (image_of image pool.table.slots u) u.version d pool.space.parts.ckpt (get_or (rows_of u) d no_row) (streams_at pool d) (part_of pool.space.parts.devs d)
  device d below =
      let n = from.count in
      let here : d < pool.table.count = omega (arith, below, n) in
      let whole = serves.whole.serve d here in
      let reads = stream_read disks image sizes u pool (every Recorded) (one_stage Recorded) others tells ready there from same h d in
      let part : DevPart = part_of pool.space.parts.devs d in
      record {
        on = sym (ap (λ (r : DevRow). r.state) (row_is d below)) ∙ whole.on;
        held = h.words d (OfLog Held);
        held_stand = reads (OfLog Held) here;
        kept = h.words d (OfLog Kept);
        kept_stand = reads (OfLog Kept) here;
        late1 = h.words d FirstLate;
        late1_stand = reads FirstLate here;
        late2 = h.words d SecondLate;
        late2_stand = reads SecondLate here;
        spelled = spelled pool.space ready.lawful d u.version pool.space.parts.ckpt (get_or (rows_of u) d no_row) (h.words d (OfLog Held)) (h.words d (OfLog Kept)) (h.words d FirstLate) (h.words d SecondLate) (row_is d below) whole (λ clear. serves.whole.unkept clear d here)
            (subst (λ (v : ℕ). IsLog v d (h.words d (OfLog Held)) part.held) serves.version (h.are d (OfLog Held) here))
            (subst (λ (v : ℕ). IsLog v d (h.words d (OfLog Kept)) part.kept) serves.version (h.are d (OfLog Kept) here))
            (subst (λ (v : ℕ). IsLate v d (h.words d FirstLate) part.late1) serves.version (h.are d FirstLate here))
            (subst (λ (v : ℕ). IsLate v d (h.words d SecondLate) part.late2) serves.version (h.are d SecondLate here));
      }

  devices : RecordsDevices (image_of image pool.table.slots u) u.version pool.space.parts.ckpt 0 (rows_of u) pool.streams.items pool.space.parts.devs
  devices =
      let n = from.count in let many_streams = ready.count in let many_parts = ready.devices in let rows = many in
      each_records (image_of image pool.table.slots u) u.version pool.space.parts.ckpt 0 (rows_of u) pool.streams.items pool.space.parts.devs (omega (arith, n, many_streams, rows)) (omega (arith, n, many_parts, rows))
      (λ i e below is.
      let one : i ≡ e = omega (arith, is) in
      subst (λ (k : ℕ). RecordsDevice (image_of image pool.table.slots u) u.version k pool.space.parts.ckpt (get_or (rows_of u) i no_row) (streams_at pool i) (part_of pool.space.parts.devs i)) one (device i (omega (arith, below, rows))))

  pub parts_recorded : (r : RecordsParts image u pool) × (r.parts ≡ pool.space.parts)
  parts_recorded = streams_record image u pool pool.space.parts from serves.whole.cond (ready.spelled ∙ serves.version) refl serves.whole.cond devices

-- ---- the pool that is shown

module _ (paths disks : List (List ℕ)) (sizes : List ℕ) (u : Uber) (pool : OpenPool) (objects : Objects) (others : List Standing) (tells : Type 0) (ready : IsOpen sizes pool) (from : GoesOnFrom u pool) (serves : AreInService u pool) (unsaved : pool.saved ≡ None) (empty : pool.group.objects ≡ []) (slots : IsShownFor disks u pool)
    (head : HasHead disks pool u.root u.len) (h : HoldsStreams (every Recorded) (one_stage Recorded) others tells disks pool) (held : HoldsObjects (Unit {0}) disks pool objects) where
  records : (r : RecordsParts disks u pool) × (r.parts ≡ pool.space.parts)
  records = parts_recorded disks disks sizes u pool others tells ready from serves (λ b is. refl) h

  left : LeavesRoot paths disks u pool
  left = record {
    from = from;
    empty = empty;
    slots = slots;
    head = head;
    records = records.0;
    saved = None;
    beside = subst (λ (c : Option Checkpoint). IsShownBeside disks (slots_of u slots.seen) (root_left u pool records.0.parts) (saved_block c) None) (sym unsaved) tt;
    state = None;
    means = refl;
  }

  pub pool_shown : (p : PoolState) × Shows paths disks p × HoldsState (Unit {0}) disks pool p × (p.objects ≡ objects)
  pool_shown = left_is_shown (Unit {0}) paths disks sizes u pool objects ready (there disks disks sizes u pool others tells ready from serves (λ b is. refl) h) left held
