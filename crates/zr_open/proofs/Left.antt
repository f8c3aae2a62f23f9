-- The root that an open pool leaves on its disks, as an import reads it.
use Rattle.std.proofs.Common.{◌≡◌, ◌==◌, inl, inr, ℕ, ◌+◌, Bool, true, false, if◌then◌else◌, List, [], ◌∷◌, map, length, get_or, drop, take, Option, None, refl, sym, ◌∙◌, ap, subst, arith}
use Rattle.std.specs.Prelude.{slice_index_or}
use Rattle.std.proofs.lemmas.Bool.{cases_lt}
use Rattle.std.proofs.lemmas.List.{get_or-take, length-map}
use Rattle.std.proofs.Math.ListN.{get_or-eq_default, get_or-map}
use Rattle.zr_base.specs.declared.space.CkptPart.{CkptPart}
use Rattle.zr_base.specs.declared.space.DevPart.{DevPart}
use Rattle.zr_base.specs.declared.space.DevRow.{DevRow}
use Rattle.zr_base.specs.declared.space.DevState.{DevState}
use Rattle.zr_base.specs.declared.space.DevState.TheVariants.{On, Leaving, Gone}
use Rattle.zr_base.specs.declared.space.SpaceParts.{SpaceParts}
use Rattle.zr_bptr.specs.declared.Ptr.{Ptr}
use Rattle.zr_bptr.specs.declared.Ptr.TheVariants.{Hole, At}
use Rattle.zr_bptr.specs.declared.Tree.{Tree}
use Rattle.zr_found.proofs.Image.{held_are_found}
use Rattle.zr_image.specs.Current.{reset_of, row_at, slots_of}
use Rattle.zr_image.specs.Reading.{bare_devices, store_of}
use Rattle.zr_image.specs.Roots.{head_tree, late_counted, rows_of, without_late}
use Rattle.zr_image.specs.StateOf.{AreObjects, devices_at, is_discarding}
use Rattle.zr_import.specs.Words.{HaveWords}
use Rattle.zr_label.specs.Blocks.{IsMetaRoot, IsUber, name_of, no_row}
use Rattle.zr_label.specs.declared.root.Uber.{Uber}
use Rattle.zr_meta.specs.Heads.{IsHead, head_bytes, stream_count}
use Rattle.zr_meta.specs.declared.Head.{Head}
use Rattle.zr_meta.specs.Parts.{AreParts, device_words, devices_words}
use Rattle.zr_model.specs.Objects.{Objects}
use Rattle.zr_model.specs.State.{PoolState}
use Rattle.zr_root.specs.Streams.{HasBytes, IsTreeFor}
use Rattle.zr_rules.specs.Devices.{devices_of}
use Rattle.zr_rules.specs.Equation.{devices_in}
use Rattle.zr_rules.specs.Places.{is_gone, is_leaving, no_part, part_of}
use Rattle.zr_open.specs.There.{AreThere}
use Rattle.zr_store.proofs.Meeting.{at_each}
use Rattle.zr_store.specs.Store.{Stored}
use Rattle.zr_sync.specs.Heads.{HasHead, head_of}
use Rattle.zr_sync.specs.Objects.{HoldsObjects, account_of}
use Rattle.zr_sync.specs.Pools.{IsAfter, IsOpen}
use Rattle.zr_sync.specs.States.{HasCheckpoint, HoldsState}
use Rattle.zr_sync.specs.declared.open.OpenPool.{OpenPool}
use Rattle.zr_vdev.specs.Runs.{view_of}
use Rattle.zr_vdev.specs.Stores.{IsStoredAt}
use Rattle.zr_vdev.specs.declared.kind.Kind.TheVariants.{Block}
use Rattle.zr_open.proofs.Serving.{same_store}
use Rattle.zr_roots.proofs.Rows.{past_rows, taken_is}
use Rattle.zr_open.proofs.Showing.{counted_ckpt, checkpoint_of}
use Rattle.zr_open.proofs.Views.{store_same}
use Rattle.zr_current.specs.Current.{GoesOnFrom}
use Rattle.zr_open.specs.Left.{LeavesRoot, root_left}
use Rattle.zr_roots.specs.Standing.{image_of}
use Rattle.zr_open.specs.Shown.{Shows}

-- ---- the objects that are held

-- they are those of the directory as the disks have it
pub objects_meant : (tells : Type 0) (disks : List (List ℕ)) (pool : OpenPool) (objects : Objects) → pool.group.objects ≡ [] → HoldsObjects tells disks pool objects → AreObjects (store_of (view_of disks pool.table.slots pool.space)) pool.dir objects
objects_meant tells disks pool objects empty h =
    held_are_found (store_of (view_of disks pool.table.slots pool.space)) h.stored (account_of pool) objects empty
    (λ b met. sym (h.held.there b (at_each (IsStoredAt Block pool.space None) h.stored.pointers b.at h.held.stored met))) h.has

-- ---- the devices of a root

module _ (sizes : List ℕ) (u : Uber) (pool : OpenPool) (ready : IsOpen sizes pool) (on : AreThere (devices_in pool.space)) (from : GoesOnFrom u pool) where
  is_uber : IsUber u
  is_uber = (subst (λ (o : Option Uber). IsAfter o pool.group.txg) from.last ready.after).0

  row_is : (d : ℕ) → (part_of pool.space.parts.devs d).row ≡ row_at u d
  row_is d = elim (cases_lt d u.count) [
    | inl lt ↦ ready.rows d (let n = from.count in omega (arith, n, lt)) ∙ ap (λ (rs : List DevRow). slice_index_or rs d no_row) from.rows
    | inr ge ↦
        let n = from.count in let m = ready.devices in
        ap (λ (p : DevPart). p.row) (get_or-eq_default pool.space.parts.devs no_part {n = d} (omega (arith, n, m, ge))) ∙ sym (past_rows u is_uber d ge)
  ]

  -- the disks as the space of the pool sees them, and as the root does before any part is read
  pub own_image : (disks : List (List ℕ)) → store_of (view_of disks pool.table.slots pool.space) ≡ image_of disks pool.table.slots u
  own_image disks = same_store disks pool.table.slots (devices_in pool.space) (bare_devices u) (ready.devices ∙ from.count) row_is on

  bare_there : AreThere (bare_devices u)
  bare_there d = sym (ap (λ (r : DevRow). is_gone r.state) (row_is d)) ∙ on d

  -- ---- the head

  tree_for : (root : Ptr) → IsMetaRoot root u.len → IsTreeFor u.len root (head_tree (record u { root = root }))
  tree_for Hole is = absurd is
  tree_for (At b) is = (refl, is.2)

  -- a head that stands at the root's pointer, under the pool's table, is one of the root and is read there
  pub some_head_read : (disks : List (List ℕ)) (k : Head) → IsHead (take pool.table.count pool.table.rows) k → ((t : Tree) → IsTreeFor u.len u.root t → HasBytes (store_of (view_of disks pool.table.slots pool.space)) t (head_bytes k))
      → IsHead (rows_of u) k × HasBytes (image_of disks pool.table.slots u) (head_tree u) (head_bytes k)
  some_head_read disks k lawful stands = (
    subst (λ (rs : List DevRow). IsHead rs k) (ap (λ (n : ℕ). take n pool.table.rows) from.count ∙ ap (λ (rs : List DevRow). take u.count rs) from.rows) lawful,
    subst (λ (s : Stored). HasBytes s (head_tree u) (head_bytes k)) (own_image disks) (stands (head_tree u) (tree_for u.root is_uber.root)),
  )

  pub head_read : (disks : List (List ℕ)) → HasHead disks pool u.root u.len → IsHead (rows_of u) (head_of pool) × HasBytes (image_of disks pool.table.slots u) (head_tree u) (head_bytes (head_of pool))
  head_read disks has = some_head_read disks (head_of pool) has.lawful has.stands

-- ---- the devices that the words of a root record

words_row : (r : DevRow) (state : DevState) (ps : List (List ℕ)) → (device_words r state ps).row ≡ r
words_row r On ps = refl
words_row r Leaving ps = refl
words_row r Gone ps = refl

words_entries : (r : DevRow) (state : DevState) (ps : List (List ℕ)) → state ≡ On → (device_words r state ps).entries ≡ []
words_entries r On ps on = refl
words_entries r Leaving ps on = absurd cc
words_entries r Gone ps on = absurd cc

-- the rows of some parts
abbrev pub rows_in : List DevPart → List DevRow
rows_in devs = map (λ (p : DevPart). p.row) devs

pub parts_rows : (version form : ℕ) (ckpt : CkptPart) (dev : ℕ) (rows : List DevRow) (ps : List (List ℕ)) (devs : List DevPart) → AreParts version ckpt dev (devices_words form rows ps) devs → rows_in devs ≡ rows
parts_rows version form ckpt dev [] ps [] are = refl
parts_rows version form ckpt dev [] ps (p ∷ devs) are = absurd are
parts_rows version form ckpt dev (r ∷ rows) ps [] are = absurd are
parts_rows version form ckpt dev (r ∷ rows) ps (p ∷ devs) are =
    let here : p.row ≡ r = are.0.row_is ∙ words_row r r.state (take (stream_count form r.state) ps) in
    ap (λ (x : DevRow). x ∷ rows_in devs) here ∙ ap (λ (xs : List DevRow). r ∷ xs) (parts_rows version form ckpt (dev + 1) rows (drop (stream_count form r.state) ps) devs are.1)

-- late sets do not matter
pub counted_rows : (b : Bool) (parts : SpaceParts) → rows_in (if b then without_late parts else parts).devs ≡ rows_in parts.devs
counted_rows true parts = same parts.devs
  where
    same : (devs : List DevPart) → rows_in (map (λ (p : DevPart). record p { late1 = []; late2 = [] }) devs) ≡ rows_in devs
    same [] = refl
    same (p ∷ devs) = ap (λ (xs : List DevRow). p.row ∷ xs) (same devs)
counted_rows false parts = refl

row_of : (devs : List DevPart) (rows : List DevRow) (d : ℕ) → rows_in devs ≡ rows → (part_of devs d).row ≡ get_or rows d no_row
row_of devs rows d are = sym (get_or-map (λ (p : DevPart). p.row) devs d no_part) ∙ ap (λ (rs : List DevRow). get_or rs d no_row) are

module _ (sizes : List ℕ) (u : Uber) (pool : OpenPool) (ready : IsOpen sizes pool) (on : AreThere (devices_in pool.space)) (from : GoesOnFrom u pool) (devs : List DevPart) (are : rows_in devs ≡ rows_of u) where
  uber_is : IsUber u
  uber_is = is_uber sizes u pool ready on from

  many : length devs ≡ u.count
  many = sym (length-map devs (λ (p : DevPart). p.row)) ∙ ap (λ (rs : List DevRow). length rs) are ∙ taken_is u uber_is

  row_read : (d : ℕ) → row_at u d ≡ (part_of devs d).row
  row_read d = sym (row_of devs (rows_of u) d are ∙ elim (cases_lt d u.count) [
    | inl lt ↦ get_or-take u.count u.rows d no_row lt
    | inr ge ↦ let t = taken_is u uber_is in get_or-eq_default (rows_of u) no_row (omega (arith, t, ge)) ∙ sym (past_rows u uber_is d ge)
  ])

  -- the disks by the parts that were read are those by the pool's space
  pub read_image : (disks : List (List ℕ)) → store_of (view_of disks pool.table.slots pool.space) ≡ store_of (record { disks = disks; slots = pool.table.slots; devices = devices_of devs })
  read_image disks = own_image sizes u pool ready on from disks ∙ same_store disks pool.table.slots (bare_devices u) (devices_of devs) (sym many) row_read (bare_there sizes u pool ready on from)

-- ---- the pool that is shown

module _ (tells : Type 0) (paths disks : List (List ℕ)) (sizes : List ℕ) (u : Uber) (pool : OpenPool) (objects : Objects) (ready : IsOpen sizes pool) (on : AreThere (devices_in pool.space)) (left : LeavesRoot paths disks u pool) (held : HoldsObjects tells disks pool objects) where
  abbrev slots : List (Option ℕ)
  slots = slots_of u left.slots.seen

  abbrev counted : SpaceParts
  counted = late_counted u left.records.parts

  rows_are : rows_in counted.devs ≡ rows_of u
  rows_are =
      counted_rows (reset_of u == u.txg) left.records.parts
      ∙ parts_rows u.version (head_of pool).form (head_of pool).ckpt 0 (rows_of u) _ left.records.parts.devs left.records.spelled.devices

  objects_are : AreObjects (store_of (record { disks = disks; slots = slots; devices = devices_of counted.devs })) pool.dir objects
  objects_are =
      subst (λ (s : Stored). AreObjects s pool.dir objects)
      (read_image sizes u pool ready on left.from counted.devs rows_are disks ∙ store_same disks slots pool.table.slots (devices_of counted.devs) left.slots.slots)
      (objects_meant tells disks pool objects left.empty held)

  abbrev state : PoolState
  state = record { guid = u.guid; name = name_of u.name; objects = objects; saved = left.state; devs = devices_at paths slots u; discarding = is_discarding counted.ckpt }

  here : image_of disks pool.table.slots u ≡ image_of disks slots u
  here = store_same disks slots pool.table.slots (bare_devices u) left.slots.slots

  shows : Shows paths disks state
  shows = record {
    seen = left.slots.seen;
    shown = left.slots.shown;
    root = root_left u pool left.records.parts;
    current = left.slots.current;
    stands = record {
      head = (head_read sizes u pool ready on left.from disks left.head).0;
      reads = record {
        head = subst (λ (s : Stored). HasBytes s (head_tree u) (head_bytes (head_of pool))) here (head_read sizes u pool ready on left.from disks left.head).1;
        words = left.records.words;
        streams = subst (λ (s : Stored). HaveWords s (head_of pool).streams left.records.words) here left.records.streams;
        parts = left.records.parts;
        spelled = left.records.spelled;
        counted_is = refl;
      };
    };
    saved = left.saved;
    beside = left.beside;
    means = record { guid = refl; name = refl; objects = objects_are; saved_is = left.means; devs = refl; discarding = refl };
  }

  checkpoint : HasCheckpoint pool.space.parts.ckpt state.saved state.discarding
  checkpoint =
      let told : counted.ckpt ≡ pool.space.parts.ckpt = counted_ckpt (reset_of u == u.txg) left.records.parts ∙ left.records.spelled.ckpt_is in
      subst (λ (k : CkptPart). HasCheckpoint pool.space.parts.ckpt state.saved (is_discarding k)) (sym told)
      (checkpoint_of paths disks slots (root_left u pool left.records.parts) (head_of pool).ckpt (head_of pool).saved left.saved left.state (head_read sizes u pool ready on left.from disks left.head).0.saved left.beside left.means)

  pub left_is_shown : (p : PoolState) × Shows paths disks p × HoldsState tells disks pool p × (p.objects ≡ objects)
  left_is_shown = (state, shows, record { objects = held; checkpoint = checkpoint }, refl)
