-- What a crash shows of a committed pool while its group is open.
use Rattle.std.proofs.Common.{◌≡◌, ℕ, ◌*◌, ◌==◌, false, true, List, length, None, Option, Some, refl, sym, ◌∙◌, subst, arith}
use Rattle.zr_base.specs.declared.space.Dva.{Dva}
use Rattle.zr_base.specs.declared.space.SpaceParts.{SpaceParts}
use Rattle.zr_beside.specs.Beside.{Standing}
use Rattle.zr_current.proofs.Kept.{all_shown, shows_still}
use Rattle.zr_current.proofs.Put.{long_seen, shows_at}
use Rattle.zr_current.specs.Current.{GoesOnFrom, IsShownFor}
use Rattle.zr_image.specs.Current.{ShowsAll, reset_of, seen_at, slots_of}
use Rattle.zr_image.specs.Reading.{bare_devices, store_of}
use Rattle.zr_image.specs.Roots.{head_tree, late_counted, rows_of}
use Rattle.zr_image.specs.StateOf.{AreObjects, devices_at, is_discarding}
use Rattle.zr_import.specs.Words.{HaveWords}
use Rattle.zr_label.specs.Blocks.{name_of}
use Rattle.zr_label.specs.Geometry.{unit_at}
use Rattle.zr_label.specs.declared.root.Seen.{Seen}
use Rattle.zr_label.specs.declared.root.Uber.{Uber}
use Rattle.zr_meta.specs.Heads.{head_bytes}
use Rattle.zr_model.specs.Objects.{Objects}
use Rattle.zr_model.specs.State.{PoolState}
use Rattle.zr_newest.specs.Newest.{KeepsRings}
use Rattle.zr_open.proofs.Left.{counted_rows, head_read, parts_rows, read_image, rows_in}
use Rattle.zr_open.proofs.Views.{store_same}
use Rattle.zr_open.specs.Left.{RecordsParts, root_left}
use Rattle.zr_open.specs.Shown.{IsShownBeside, Shows}
use Rattle.zr_open.specs.There.{AreThere}
use Rattle.zr_recorded.proofs.Parts as parts
use Rattle.zr_recorded.proofs.Reading.{ReadsMetadata}
use Rattle.zr_recorded.specs.Crashes.{ShowsPool}
use Rattle.zr_recorded.specs.Service.{AreInService}
use Rattle.zr_root.proofs.Beside.{bytes_beside}
use Rattle.zr_root.specs.Streams.{HasBytes}
use Rattle.zr_roots.specs.Standing.{image_of}
use Rattle.zr_rules.specs.Devices.{devices_of}
use Rattle.zr_rules.specs.Equation.{devices_in}
use Rattle.zr_rules.specs.Roles.{Role, is_meta_role}
use Rattle.zr_rules.specs.Space.{role_at}
use Rattle.zr_scan.specs.Scan as scan
use Rattle.zr_shelf.proofs.Doings.{added_throughout}
use Rattle.zr_shelf.proofs.Runs.{weaker}
use Rattle.zr_shelf.specs.Disks.{Stand, disk}
use Rattle.zr_shelf.specs.Moments.{Throughout, World}
use Rattle.zr_stops.proofs.Aside.{crash_clear}
use Rattle.zr_stops.proofs.Images as images
use Rattle.zr_stops.proofs.Kept as kept
use Rattle.zr_stops.proofs.Kept.{LeavesAlone, StandsLast}
use Rattle.zr_stops.specs.Last.{HasLast, IsCommitted}
use Rattle.zr_store.proofs.Meeting.{at_each}
use Rattle.zr_store.specs.Store.{Stored}
use Rattle.zr_sync.specs.Heads.{HasHead, IsInMetadata, head_of}
use Rattle.zr_sync.specs.Pools.{saved_block}
use Rattle.zr_sync.specs.Trees.{HoldsStreams, every, one_stage}
use Rattle.zr_sync.specs.Trees.Stage.{Recorded}
use Rattle.zr_sync.specs.Writes.{WritesIntoFree}
use Rattle.zr_sync.specs.declared.open.Checkpoint.{Checkpoint}
use Rattle.zr_sync.specs.declared.open.OpenPool.{OpenPool}
use Rattle.zr_tree.specs.Trees.{tree_reach}
use Rattle.zr_vdev.proofs.Held.{address_same}
use Rattle.zr_vdev.proofs.Uses.{use_roles}
use Rattle.zr_vdev.specs.Runs.{view_of}
use Rattle.zr_vdev.specs.Stores.{IsWriteInto, is_open_role}
use Rattle.zr_vdev.specs.declared.kind.Kind.TheVariants.{Block, Meta}
use Rattle.zr_view.specs.Runs.{bytes_from}
use Rattle.zr_view.specs.Views.{address_bytes, slot_of}

closed : (r : Role) → is_meta_role r ≡ true → is_open_role r ≡ false
closed r is = grind (arith, is)

module _ (paths : List (List ℕ)) (sizes : List ℕ) (u : Uber) (pool : OpenPool) (objects : Objects) (others : List Standing) (tells : Type 0) (start : Stand) (was : IsCommitted sizes start u pool objects) (from : GoesOnFrom u pool) (serves : AreInService u pool) (unsaved : pool.saved ≡ None)
    (shown : IsShownFor start.seen u pool) (head : HasHead start.seen pool u.root u.len) (h : HoldsStreams (every Recorded) (one_stage Recorded) others tells start.seen pool) where
  there : AreThere (devices_in pool.space)
  there = parts.there start.seen start.seen sizes u pool others tells was.ready from serves (λ b is. refl) h

  abbrev stands : StandsLast sizes start u pool objects
  stands = images.stands sizes u pool objects start was

  abbrev alone : LeavesAlone sizes pool (IsWriteInto Block pool.table.slots pool.space)
  alone = images.alone sizes u pool objects start was

  module _ (image : List (List ℕ)) (keeps : images.KeepsClear sizes u pool objects start was image) where
    -- ---- units that are not open read as they did

    run_kept : (o : Option ℕ) (d v : ℕ) → slot_of pool.table.slots d ≡ o → is_open_role (role_at pool.space d v) ≡ false → bytes_from image o v (4096 * 1) ≡ bytes_from start.seen o v (4096 * 1)
    run_kept None d v is shut = refl
    run_kept (Some slot) d v is shut = keeps.part_kept slot (unit_at v) 4096 (alone.units d v slot is shut)

    address_kept : (a : Dva) → IsInMetadata pool.space a → address_bytes (view_of image pool.table.slots pool.space) a ≡ address_bytes (view_of start.seen pool.table.slots pool.space) a
    address_kept a lies = address_same pool.table.slots (devices_in pool.space) start.seen image a (λ d v led. run_kept (slot_of pool.table.slots d) d v refl (closed (role_at pool.space d v) (lies d v led)))

    reads : ReadsMetadata start.seen image pool
    reads b is = address_kept b.at (use_roles Meta pool.space b.at is.used)

    records : (r : RecordsParts image u pool) × (r.parts ≡ pool.space.parts)
    records = parts.parts_recorded start.seen image sizes u pool others tells was.ready from serves reads h

    head_kept : HasHead image pool u.root u.len
    head_kept = record {
      lawful = head.lawful;
      length_is = head.length_is;
      stands = λ t is.
          let then = store_of (view_of start.seen pool.table.slots pool.space) in
          bytes_beside then (store_of (view_of image pool.table.slots pool.space)) t (head_bytes (head_of pool)) (λ b met. address_kept b.at (at_each (IsInMetadata pool.space) (tree_reach then t) b.at (was.safe t is) met)) (head.stands t is);
    }

    -- ---- the slots

    rings : KeepsRings start.seen image
    rings = kept.rings_still sizes u pool objects start stands (IsWriteInto Block pool.table.slots pool.space) alone image keeps

    still : (slot : ℕ) (x : Seen) → scan.Shows (length (disk start.seen slot)) (disk start.seen slot) x → scan.Shows (length (disk image slot)) (disk image slot) x
    still slot x is =
        subst (λ (size : ℕ). scan.Shows size (disk image slot) x) (sym (rings.labels.sizes slot))
        (shows_still (length (disk start.seen slot)) (disk start.seen slot) (disk image slot) (rings.labels.labels slot) (rings.rings slot) x is)

    shown_still : ShowsAll image shown.seen
    shown_still = all_shown image shown.seen (long_seen start.seen shown.seen shown.shown ∙ sym rings.labels.count) (λ slot lt. still slot (seen_at shown.seen slot) (shows_at start.seen shown.seen shown.shown slot lt))

    pub shown_there : IsShownFor image u pool
    shown_there = record { seen = shown.seen; shown = shown_still; current = shown.current; slots = shown.slots }

    -- ---- the pool

    last : HasLast image u pool objects
    last = images.last_kept sizes u pool objects start was image keeps

    abbrev slots : List (Option ℕ)
    slots = slots_of u shown.seen

    abbrev counted : SpaceParts
    counted = late_counted u records.0.parts

    rows_are : rows_in counted.devs ≡ rows_of u
    rows_are =
        counted_rows (reset_of u == u.txg) records.0.parts
        ∙ parts_rows u.version (head_of pool).form (head_of pool).ckpt 0 (rows_of u) _ records.0.parts.devs records.0.spelled.devices

    objects_are : AreObjects (store_of (record { disks = image; slots = slots; devices = devices_of counted.devs })) pool.dir objects
    objects_are =
        subst (λ (s : Stored). AreObjects s pool.dir objects)
        (read_image sizes u pool was.ready there from counted.devs rows_are image ∙ store_same image slots pool.table.slots (devices_of counted.devs) shown.slots)
        last.objects

    abbrev state : PoolState
    state = record { guid = u.guid; name = name_of u.name; objects = objects; saved = None; devs = devices_at paths slots u; discarding = is_discarding counted.ckpt }

    here : image_of image pool.table.slots u ≡ image_of image slots u
    here = store_same image slots pool.table.slots (bare_devices u) shown.slots

    shows : Shows paths image state
    shows = record {
      seen = shown.seen;
      shown = shown_still;
      root = root_left u pool records.0.parts;
      current = shown.current;
      stands = record {
        head = (head_read sizes u pool was.ready there from image head_kept).0;
        reads = record {
          head = subst (λ (s : Stored). HasBytes s (head_tree u) (head_bytes (head_of pool))) here (head_read sizes u pool was.ready there from image head_kept).1;
          words = records.0.words;
          streams = subst (λ (s : Stored). HaveWords s (head_of pool).streams records.0.words) here records.0.streams;
          parts = records.0.parts;
          spelled = records.0.spelled;
          counted_is = refl;
        };
      };
      saved = None;
      beside = subst (λ (c : Option Checkpoint). IsShownBeside image slots (root_left u pool records.0.parts) (saved_block c) None) (sym unsaved) tt;
      means = record { guid = refl; name = refl; objects = objects_are; saved_is = refl; devs = refl; discarding = refl };
    }

    one_shown : (p : PoolState) × Shows paths image p × (p.objects ≡ objects)
    one_shown = (state, shows, refl)

  abbrev IsPending : Stand → Type 0
  IsPending = images.IsPending sizes u pool objects start was

  pub pending_shows : (stand : Stand) → IsPending stand → ShowsPool paths objects stand
  pending_shows stand pending image left = one_shown image (crash_clear sizes start stands.rest stands.sized (IsWriteInto Block pool.table.slots pool.space) alone.aside stand pending image left)

-- at each moment from where the group began
pub crash_shows : (paths : List (List ℕ)) (sizes : List ℕ) (u : Uber) (pool : OpenPool) (objects : Objects) (others : List Standing) (tells : Type 0) (before now : World) → IsCommitted sizes before.now u pool objects → GoesOnFrom u pool → AreInService u pool → pool.saved ≡ None → IsShownFor before.now.seen u pool
    → HasHead before.now.seen pool u.root u.len → HoldsStreams (every Recorded) (one_stage Recorded) others tells before.now.seen pool → WritesIntoFree pool before now → Throughout (ShowsPool paths objects) before now
crash_shows paths sizes u pool objects others tells before now was from serves unsaved shown head h wrote =
    weaker (images.IsPending sizes u pool objects before.now was) (ShowsPool paths objects) before now (pending_shows paths sizes u pool objects others tells before.now was from serves unsaved shown head h)
    (added_throughout (images.IsPending sizes u pool objects before.now was) (IsWriteInto Block pool.table.slots pool.space) (images.pending_step sizes u pool objects before.now was) before now wrote
    (kept.pending_start sizes u pool objects before.now (images.stands sizes u pool objects before.now was) (IsWriteInto Block pool.table.slots pool.space) (images.alone sizes u pool objects before.now was))).0
