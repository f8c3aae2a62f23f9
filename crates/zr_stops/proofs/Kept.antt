-- What stays of a pool's last root while nothing is written that it needs.
use Rattle.std.proofs.Common.{◌≡◌, ℕ, ◌+◌, ◌*◌, ◌<◌, ◌≤◌, Bool, true, false, List, [], length, map, Option, Some, None, refl, sym, ◌∙◌, ap, subst, arith}
use Rattle.std.specs.Prelude.{All, slice_index}
use Rattle.std.specs.List.{AllByRecursion}
use Rattle.std.proofs.lemmas.Bool.Decides.{nat_tests}
use Rattle.zr_base.specs.Extents.{has_unit}
use Rattle.zr_base.specs.declared.space.Dva.{Dva}
use Rattle.zr_bptr.specs.declared.Bptr.{Bptr}
use Rattle.zr_current.proofs.Committed.{IsAside, into_clear}
use Rattle.zr_found.proofs.Image.{held_are_found}
use Rattle.zr_held.specs.Held.{HasObjects}
use Rattle.zr_image.specs.Reading.{store_of}
use Rattle.zr_label.specs.Geometry.{unit_at}
use Rattle.zr_label.specs.declared.root.Uber.{Uber}
use Rattle.zr_image.specs.StateOf.{AreObjects}
use Rattle.zr_meta.specs.Heads.{head_bytes}
use Rattle.zr_model.specs.Objects.{Objects}
use Rattle.zr_newest.proofs.Newest.{newest_still}
use Rattle.zr_newest.specs.Newest.{IsNewestOn, KeepsRings}
use Rattle.zr_open.specs.There.{IsReadable}
use Rattle.zr_root.proofs.Beside.{bytes_beside}
use Rattle.zr_rules.specs.Equation.{devices_in}
use Rattle.zr_rules.specs.Places.{in_address}
use Rattle.zr_rules.specs.Resolve.{leads_to}
use Rattle.zr_rules.specs.Roles.{Role, is_live_role, is_meta_role}
use Rattle.zr_rules.specs.Space.{OpenSets, Space, is_born, role_at}
use Rattle.zr_shelf.specs.Disks.{IsAtRest, IsUntouched, Meets, PendingWrite, Stand}
use Rattle.zr_shelf.specs.Doings.{Adds}
use Rattle.zr_store.proofs.Meeting.{at_each}
use Rattle.zr_store.specs.Store.{Stored}
use Rattle.zr_sync.specs.Heads.{HasDirectory, HasSafeHead, IsInMetadata}
use Rattle.zr_sync.specs.Objects.{account_of}
use Rattle.zr_sync.specs.Pools.{IsOpen}
use Rattle.zr_sync.specs.declared.open.OpenPool.{OpenPool}
use Rattle.zr_tree.specs.Trees.{tree_reach}
use Rattle.zr_vdev.proofs.Held.{address_same, true_is_false}
use Rattle.zr_vdev.proofs.Uses.{use_roles}
use Rattle.zr_vdev.specs.Runs.{view_of}
use Rattle.zr_vdev.specs.Stores.{IsStoredAt, IsWriteInto, is_open_role}
use Rattle.zr_vdev.specs.declared.kind.Kind.TheVariants.{Block, Meta}
use Rattle.zr_view.specs.Runs.{bytes_from}
use Rattle.zr_view.specs.Views.{View, address_bytes, slot_of}
use Rattle.zr_stops.specs.Last.{HasLast, IsCommitted, IsSettled, LeavesLast}
use Rattle.zr_stops.proofs.Aside as aside
use Rattle.zr_stops.proofs.Readable.{readable_stays}

-- ---- roles

-- where the open group has nothing of its own, a unit that is in use by a block was so before
settled_live : (s : Space) → IsSettled s → (d u : ℕ) → is_live_role (role_at s d u) ≡ true → is_open_role (role_at s d u) ≡ false
unfolding role_at
settled_live s settled d u live =
    let none : is_born s d u ≡ false = ap (λ (o : OpenSets). has_born o) (settled d) in
    grind (arith, nat_tests, none, live)
  where
    has_born : OpenSets → Bool
    has_born o = has_unit o.born u

meta_closed : (r : Role) → is_meta_role r ≡ true → is_open_role r ≡ false
meta_closed r is = grind (arith, is)

-- no unit to which the address leads is free or the open group's own
abbrev IsOutOfReach : Space → Dva → Type 0
IsOutOfReach s a = (d u : ℕ) → leads_to (devices_in s) a d u ≡ true → is_open_role (role_at s d u) ≡ false

-- so it is with metadata
metadata_out : (s : Space) (a : Dva) → IsInMetadata s a → IsOutOfReach s a
metadata_out s a lies d u leads = meta_closed (role_at s d u) (lies d u leads)

inside : (a : Dva) (u : ℕ) → a.start ≤ u → u < a.start + a.len → in_address a a.dev u ≡ true
inside a u low high = grind (arith, nat_tests, low, high)

-- ---- what has to stay

-- A pool stands as its last root has it, as far as that has to stay: it is the newest of the pool on the disks, which have its directory, at a head in units of metadata, and the blocks of these objects.
pub record StandsLast (sizes : List ℕ) (stand : Stand) (u : Uber) (pool : OpenPool) (objects : Objects) : Type 0 where
  pub ready : IsOpen sizes pool
  pub empty : pool.group.objects ≡ []
  pub settled : IsSettled pool.space
  pub rest : IsAtRest stand
  pub sized : map length stand.seen ≡ sizes
  pub newest : IsNewestOn stand.seen u pool.table.slots
  pub head : HasDirectory stand.seen pool u.root u.len
  pub safe : HasSafeHead stand.seen pool u.root u.len
  pub stored : Stored
  pub used : All (λ (b : Bptr). IsStoredAt Block pool.space None b.at) stored.pointers
  pub there : (b : Bptr) → IsStoredAt Block pool.space None b.at → stored.bytes b ≡ address_bytes (view_of stand.seen pool.table.slots pool.space) b.at
  pub has : HasObjects stored (account_of pool) objects
  pub reads : IsReadable stand.seen pool u

pub committed_stands : (sizes : List ℕ) (stand : Stand) (u : Uber) (pool : OpenPool) (objects : Objects) → IsCommitted sizes stand u pool objects → StandsLast sizes stand u pool objects
committed_stands sizes stand u pool objects was = record {
  ready = was.ready;
  empty = was.empty;
  settled = was.settled;
  rest = was.rest;
  sized = was.sized;
  newest = was.newest;
  head = was.head;
  safe = was.safe;
  stored = was.objects.stored;
  used = was.objects.held.stored;
  there = was.objects.held.there;
  has = was.objects.has;
  reads = was.reads;
}

-- Such writes meet no unit that is in use, no label block and no ring slot.
pub record LeavesAlone (sizes : List ℕ) (pool : OpenPool) (Allowed : PendingWrite → Type 0) : Type 0 where
  pub units : (d v slot : ℕ) → slot_of pool.table.slots d ≡ Some slot → is_open_role (role_at pool.space d v) ≡ false → (w : PendingWrite) → Allowed w → ¬ Meets w slot (unit_at v) 4096
  pub aside : (sl at : ℕ) → IsAside (slice_index sizes sl) at → (w : PendingWrite) → Allowed w → ¬ Meets w sl at 4096

-- a write into units meets none that is not among them
pub into_unit : (slots : List (Option ℕ)) (s : Space) (d v slot : ℕ) → ((e : ℕ) → slot_of slots e ≡ Some slot → e ≡ d) → is_open_role (role_at s d v) ≡ false → (w : PendingWrite) → IsWriteInto Block slots s w → ¬ Meets w slot (unit_at v) 4096
into_unit slots s d v slot only closed w h met =
    let dev : h.at.dev ≡ d = only h.at.dev (h.is.slot ∙ ap Some met.same) in
    let low : h.at.start ≤ v = before h.at.start v w.at h.is.at met.begins in
    let high : v < h.at.start + h.at.len = behind h.at.start h.at.len v w.at (length w.bytes) h.is.at h.is.size met.ends in
    let opened : is_open_role (role_at s d v) ≡ true = subst (λ (e : ℕ). is_open_role (role_at s e v) ≡ true) dev (h.open_units v (inside h.at v low high)) in
    true_is_false (is_open_role (role_at s d v)) opened closed
  where
    before : (first v at : ℕ) → at ≡ 4194304 + 4096 * first → at < 4194304 + 4096 * v + 4096 → first ≤ v
    before first v at is lt = omega (arith, is, lt)

    behind : (first n v at size : ℕ) → at ≡ 4194304 + 4096 * first → size ≡ 4096 * n → 4194304 + 4096 * v < at + size → v < first + n
    behind first n v at size is many lt = omega (arith, is, many, lt)

-- what the pool may write into its own units leaves alone what has to stay
pub own_alone : (sizes : List ℕ) (pool : OpenPool) → IsOpen sizes pool → LeavesAlone sizes pool (IsWriteInto Block pool.table.slots pool.space)
own_alone sizes pool ready = record {
  units = λ d v slot is closed. into_unit pool.table.slots pool.space d v slot (λ e same. ready.mounted.apart e d slot same is) closed;
  aside = λ sl at aside. into_clear sizes pool ready sl at aside;
}

-- ---- what is pending

module _ (sizes : List ℕ) (u : Uber) (pool : OpenPool) (objects : Objects) (start : Stand) (was : StandsLast sizes start u pool objects) (Allowed : PendingWrite → Type 0) (alone : LeavesAlone sizes pool Allowed) where
  abbrev pub slots : List (Option ℕ)
  slots = pool.table.slots

  -- the disks are durable as they read at the start, and what is pending lies in units that were free
  abbrev pub IsPending : Stand → Type 0
  IsPending = aside.IsPending sizes start was.rest was.sized Allowed alone.aside

  pub pending_step : (a b : Stand) → Adds Allowed a b → IsPending a → IsPending b
  pending_step a b adds h = aside.pending_step sizes start was.rest was.sized Allowed alone.aside a b adds h

  pub pending_start : IsPending start
  pending_start = aside.pending_start sizes start was.rest was.sized Allowed alone.aside

  pub clear_of_all : (slot at n : ℕ) → ((w : PendingWrite) → Allowed w → ¬ Meets w slot at n) → (ws : List PendingWrite) → AllByRecursion Allowed ws → IsUntouched ws slot at n
  clear_of_all slot at n clear ws all = aside.clear_of_all sizes start was.rest was.sized Allowed alone.aside slot at n clear ws all

  -- bytes that no such write meets are as they were
  abbrev pub KeepsClear : List (List ℕ) → Type 0
  KeepsClear = aside.KeepsClear sizes start was.rest was.sized Allowed alone.aside

  pub seen_step : (a b : Stand) → Adds Allowed a b → KeepsClear a.seen → KeepsClear b.seen
  seen_step a b adds h = aside.seen_step sizes start was.rest was.sized Allowed alone.aside a b adds h

  pub seen_start : KeepsClear start.seen
  seen_start = aside.seen_start sizes start was.rest was.sized Allowed alone.aside

  -- ---- an image

  module _ (image : List (List ℕ)) (keeps : KeepsClear image) where
    run_kept : (o : Option ℕ) (d v : ℕ) → slot_of slots d ≡ o → is_open_role (role_at pool.space d v) ≡ false → bytes_from image o v (4096 * 1) ≡ bytes_from start.seen o v (4096 * 1)
    run_kept None d v is closed = refl
    run_kept (Some slot) d v is closed = keeps.part_kept slot (unit_at v) 4096 (alone.units d v slot is closed)

    -- an address in use reads as it did
    address_kept : (a : Dva) → IsOutOfReach pool.space a → address_bytes (view_of image slots pool.space) a ≡ address_bytes (view_of start.seen slots pool.space) a
    address_kept a out = address_same slots (devices_in pool.space) start.seen image a (λ d v led. run_kept (slot_of slots d) d v refl (out d v led))

    -- the labels and the rings are as they were
    pub rings_still : KeepsRings start.seen image
    rings_still = aside.rings_still sizes start was.rest was.sized Allowed alone.aside image keeps

    pub newest_kept : IsNewestOn image u pool.table.slots
    newest_kept = newest_still start.seen image u pool.table.slots rings_still was.newest

    -- ---- the head and the objects

    abbrev then : View
    then = view_of start.seen slots pool.space

    abbrev now : View
    now = view_of image slots pool.space

    head_kept : HasDirectory image pool u.root u.len
    head_kept = record {
      head = was.head.head;
      lawful = was.head.lawful;
      same = was.head.same;
      stands = λ t is.
          bytes_beside (store_of then) (store_of now) t (head_bytes was.head.head) (λ b met. address_kept b.at (metadata_out pool.space b.at (at_each (IsInMetadata pool.space) (tree_reach (store_of then) t) b.at (was.safe t is) met))) (was.head.stands t is);
    }

    block_kept : (b : Bptr) → IsStoredAt Block pool.space None b.at → (store_of now).bytes b ≡ was.stored.bytes b
    block_kept b stored = address_kept b.at (λ d v led. settled_live pool.space was.settled d v (stored.used.used d v led)) ∙ sym (was.there b stored)

    objects_kept : AreObjects (store_of now) pool.dir objects
    objects_kept =
        held_are_found (store_of now) was.stored (account_of pool) objects was.empty
        (λ b met. block_kept b (at_each (IsStoredAt Block pool.space None) was.stored.pointers b.at was.used met)) was.has

    reads_kept : IsReadable image pool u
    reads_kept = readable_stays start.seen image pool u (λ a is. address_kept a (metadata_out pool.space a (use_roles Meta pool.space a is))) was.reads

    pub last_kept : HasLast image u pool objects
    last_kept = record { newest = newest_kept; head = head_kept; objects = objects_kept; reads = reads_kept }

  -- whatever a crash leaves has it
  pub leaves : (stand : Stand) → IsPending stand → LeavesLast u pool objects stand
  leaves stand pending image left = last_kept image (aside.crash_clear sizes start was.rest was.sized Allowed alone.aside stand pending image left)
