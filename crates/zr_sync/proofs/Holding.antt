-- What the disks hold of the objects, through the steps of a commit.
use Rattle.std.proofs.Common.{◌≡◌, ◌∙◌, ℕ, ◌<◌, ◌≤◌, Bool, true, false, List, [], ◌∷◌, length, Option, None, Result, Ok, Err, sym, ap, subst, arith}
use Rattle.std.specs.Prelude.{OnOk, slice_index, if◌then◌else◌}
use Rattle.zr_base.specs.declared.space.DevRow.{DevRow}
use Rattle.zr_base.specs.declared.space.Dva.{Dva}
use Rattle.zr_bptr.specs.declared.Tree.{Tree}
use Rattle.zr_cache.specs.declared.table.Cache.{Cache}
use Rattle.zr_label.specs.Blocks.{IsUber}
use Rattle.zr_label.specs.Geometry.{label_at, unit_at}
use Rattle.zr_label.specs.declared.root.Uber.{Uber}
use Rattle.zr_rules.specs.Devices.{Devices}
use Rattle.zr_rules.specs.Equation.{devices_in, live_hits}
use Rattle.zr_rules.specs.Frees.{MarksNothing}
use Rattle.zr_rules.specs.Places.{part_of}
use Rattle.zr_rules.specs.Resolve.{is_resolved, leads_to, resolve_hits}
use Rattle.zr_rules.specs.Roles.{Role, aged, cleared, is_live_role, is_copy_role}
use Rattle.zr_rules.specs.Space.{Space, role_at}
use Rattle.zr_rules.specs.Steps.{Commits}
use Rattle.zr_scan.specs.declared.error.ScanErr.{ScanErr}
use Rattle.zr_shelf.specs.Counts.{Counts}
use Rattle.zr_shelf.specs.Moments.{World}
use Rattle.zr_slots.specs.Phases.{Publishes}
use Rattle.zr_space.specs.Live.{IsFreeable}
use Rattle.zr_store.specs.Store.{Stored, Swaps, Now}
use Rattle.zr_vdev.specs.Runs.{view_of}
use Rattle.zr_vdev.specs.Stores.{HoldsBlocks, addresses_of}
use Rattle.zr_vdev.specs.declared.kind.Kind.{Kind}
use Rattle.zr_vdev.specs.declared.kind.Kind.TheVariants.{Block}
use Rattle.zr_vdev.proofs.Alike.{AreNoNewCopies, commits_no_copy}
use Rattle.zr_vdev.proofs.Back.{spends_same}
use Rattle.zr_vdev.proofs.Frames.{held_beside}
use Rattle.zr_vdev.proofs.Held.{read_same}
use Rattle.zr_vdev.proofs.Moves.{held_again, read_held}
use Rattle.zr_vdev.proofs.Whole.{all_same}
use Rattle.zr_view.specs.Views.{address_bytes}
use Rattle.zr_commit.specs.Objects.{WritesGroup}
use Rattle.zr_sync.specs.Holds.{HasBlocks, HasWritten, AreTreesStored}
use Rattle.zr_sync.specs.Pools.{IsOpen}
use Rattle.zr_sync.specs.Writes.{WritesMetadata}
use Rattle.zr_sync.specs.declared.open.OpenPool.{OpenPool}
use Rattle.zr_sync.specs.declared.open.Table.{Table}
use Rattle.zr_sync.proofs.Groups.{commits_devices}
use Rattle.zr_sync.proofs.Objects.{now_still}
use Rattle.zr_sync.proofs.Rings.{EndBelowLabels, published_keeps}
use Rattle.zr_sync.proofs.Sizes.{units_below}

-- ---- metadata

-- metadata that is written and given back leaves the blocks of objects
pub metadata_holds : (n1 n2 : List ℕ) (c1 c2 : Counts) (t1 t2 : Type 0) (w1 w2 : World) (x y : OpenPool) (s : Stored) → IsOpen n1 x → WritesMetadata n1 n2 c1 c2 t1 t2 w1 w2 x y
    → HasBlocks t1 w1.now.seen x s → Now (HasBlocks t2 w2.now.seen y) (λ n. Swaps s n [] [])
metadata_holds n1 n2 c1 c2 t1 t2 w1 w2 x y s o wrote held =
    let slots : y.table.slots ≡ x.table.slots = ap (λ (p : OpenPool). p.table.slots) wrote.rest in
    subst (λ (ss : List (Option ℕ)). Now (HoldsBlocks Block ss t2 w2.now.seen y.space None y.cache) (λ n. Swaps s n [] [])) (sym slots)
    (held_beside Block x.table.slots n1 n2 c1 c2 t1 t2 w1 w2 x.space y.space None x.cache y.cache s o.mounted.apart wrote.goes held)

-- so a group that was written before is written behind
pub metadata_written : (n1 n2 : List ℕ) (c1 c2 : Counts) (t1 t2 : Type 0) (w1 w2 : World) (x y z : OpenPool) (s : Stored) → IsOpen n1 y → WritesMetadata n1 n2 c1 c2 t1 t2 w1 w2 y z
    → (t : Type 0) (disks : List (List ℕ)) → HasBlocks t disks x s → AreTreesStored x s → HasWritten t1 w1.now.seen x y s → HasWritten t2 w2.now.seen x z s
metadata_written n1 n2 c1 c2 t1 t2 w1 w2 x y z s o wrote t disks held stored written =
    let dir : z.dir ≡ y.dir = ap (λ (p : OpenPool). p.dir) wrote.rest in
    subst (λ (d : Tree). Now (HasBlocks t2 w2.now.seen z) (λ n. WritesGroup s n x.group x.dir d)) (sym dir)
    (now_still (HasBlocks t1 w1.now.seen y) (HasBlocks t2 w2.now.seen z) s x.group x.dir y.dir held.alone stored (λ m h. metadata_holds n1 n2 c1 c2 t1 t2 w1 w2 y z m o wrote h) written)

-- ---- a root

-- the units of an open pool's devices end before the last two labels of their disks
pub below_labels : (sizes : List ℕ) (pool : OpenPool) → IsOpen sizes pool → EndBelowLabels sizes pool.table.slots (devices_in pool.space)
below_labels sizes pool o d slot lt is =
    let inside : d < pool.table.count = let n = o.devices in omega (arith, lt, n) in
    subst (λ (r : DevRow). unit_at r.units ≤ label_at (slice_index sizes slot) 2) (sym (o.rows d inside)) (units_below (slice_index sizes slot) _ (o.disks d slot inside is))

-- what is held where each address has its bytes
pub same_holds : (kind : Kind) (slots : List (Option ℕ)) (t1 t2 : Type 0) (before now : List (List ℕ)) (x : Space) (c : Cache) (s : Stored) → t2 → ((a : Dva) → address_bytes (view_of now slots x) a ≡ address_bytes (view_of before slots x) a)
    → HoldsBlocks kind slots t1 before x None c s → HoldsBlocks kind slots t2 now x None c s
same_holds kind slots t1 t2 before now x c s told same held =
    read_held kind slots t1 t2 before now x None c c s told (λ e among. let was = held.read e among in record { runs_of = was.runs_of; same = was.same ∙ sym (same e.0.pointer.at) }) (λ a h. same a) held

-- a root that is published leaves the bytes of each address
pub published_bytes : (sizes both all : List ℕ) (u : Uber) (r : Result (Unit {0}) ScanErr) (a b : World) (pool : OpenPool) → IsOpen sizes pool → IsUber u → Publishes sizes both all u r a b
    → (x : Dva) → address_bytes (view_of b.now.seen pool.table.slots pool.space) x ≡ address_bytes (view_of a.now.seen pool.table.slots pool.space) x
published_bytes sizes both all u r a b pool o lawful published =
    published_keeps sizes pool.table.slots (devices_in pool.space) (below_labels sizes pool o) u lawful both all r a b published

-- a root that is published leaves the blocks of objects
pub published_holds : (sizes both all : List ℕ) (u : Uber) (r : Result (Unit {0}) ScanErr) (a b : World) (pool : OpenPool) (t1 t2 : Type 0) (s : Stored) → IsOpen sizes pool → IsUber u → Publishes sizes both all u r a b → t2
    → HasBlocks t1 a.now.seen pool s → HasBlocks t2 b.now.seen pool s
published_holds sizes both all u r a b pool t1 t2 s o lawful published told held =
    same_holds Block pool.table.slots t1 t2 a.now.seen b.now.seen pool.space pool.cache s told
    (published_keeps sizes pool.table.slots (devices_in pool.space) (below_labels sizes pool o) u lawful both all r a b published) held

-- ---- the end of a group

-- The devices and their mappings stay, and nothing is marked. The units in use by blocks are the same, and no copy is new.
pub record StaysLive (old new : Space) : Type 0 where
  pub devices : devices_in new ≡ devices_in old
  pub counts : (d : ℕ) → (part_of new.parts.devs d).counts ≡ (part_of old.parts.devs d).counts
  pub fresh : MarksNothing old new
  pub live : (d u : ℕ) → is_live_role (role_at new d u) ≡ is_live_role (role_at old d u)
  pub copy : (d u : ℕ) → is_copy_role (role_at new d u) ≡ true → is_copy_role (role_at old d u) ≡ true

-- what may be given back still may
still_freeable : (old new : Space) (a : Dva) → StaysLive old new → IsFreeable old a → IsFreeable new a
still_freeable old new a stays h =
    let known = h.known in
    let count : length new.parts.devs ≡ length old.parts.devs = ap (λ (ds : Devices). ds.count) stays.devices in
    record {
      known = omega (arith, known, count);
      some = h.some;
      resolves = subst (λ (ds : Devices). is_resolved ds a ≡ true) (sym stays.devices) h.resolves;
      once = λ d u. subst (λ (ds : Devices). resolve_hits ds a d u ≤ 1) (sym stays.devices) (h.once d u);
      used = λ d u leads. stays.live d u ∙ h.used d u (subst (λ (ds : Devices). leads_to ds a d u ≡ true) stays.devices leads);
      spends = spends_same old new (a ∷ []) stays.devices stays.counts stays.fresh h.spends;
    }

live_no_copy : (old new : Space) → StaysLive old new → AreNoNewCopies old new
live_no_copy old new stays = record {
  row = λ d. ap (λ (ds : Devices). ds.row d) stays.devices;
  entries = λ d. ap (λ (ds : Devices). ds.entries d) stays.devices;
  marks = λ d u is. stays.fresh d u ∙ is;
  copy = stays.copy;
}

-- so the blocks of objects stay, and are all
pub live_holds : (t : Type 0) (disks : List (List ℕ)) (x y : OpenPool) (s : Stored) → StaysLive x.space y.space → y.table ≡ x.table → y.cache ≡ x.cache → HasBlocks t disks x s → Now (HasBlocks t disks y) (λ n. Swaps s n [] [])
live_holds t disks x y s stays table cache held =
    subst (λ (w : Table). Now (HoldsBlocks Block w.slots t disks y.space None y.cache) (λ n. Swaps s n [] [])) (sym table)
    (subst (λ (k : Cache). Now (HoldsBlocks Block x.table.slots t disks y.space None k) (λ n. Swaps s n [] [])) (sym cache)
    (held_again Block x.table.slots t t disks disks x.space y.space None x.cache x.cache s held.told (read_same disks x.table.slots x.space y.space x.cache stays.devices held.read)
    (λ a h. record { used = still_freeable x.space y.space a stays h.used; whole = tt })
    (λ a h. ap (λ (ds : Devices). address_bytes (record { disks = disks; slots = x.table.slots; devices = ds }) a) stays.devices)
    (λ d u. subst (λ (ds : Devices). live_hits ds (addresses_of s.pointers) d u ≤ 1) (sym stays.devices) (held.once d u))
    (all_same x.space y.space (addresses_of s.pointers) stays.devices stays.live (live_no_copy x.space y.space stays) held.all)
    (spends_same x.space y.space (addresses_of s.pointers) stays.devices stays.counts stays.fresh held.back)
    held))

aged_live : (r : Role) → is_live_role (aged r) ≡ is_live_role r
aged_live r = grind (arith)

cleared_live : (r : Role) → is_live_role (cleared r) ≡ is_live_role r
cleared_live r = grind (arith)

ended_role : (reset : Bool) (r q : Role) → q ≡ (if reset then cleared r else aged r) → is_live_role q ≡ is_live_role r
ended_role true r q is = ap is_live_role is ∙ cleared_live r
ended_role false r q is = ap is_live_role is ∙ aged_live r

ended_live : (reset : Bool) (old new : Space) → Commits reset old new → StaysLive old new
ended_live reset old new h = record {
  devices = commits_devices reset old new h;
  counts = h.counts;
  fresh = h.fresh;
  live = λ d u. ended_role reset (role_at old d u) (role_at new d u) (h.roles d u);
  copy = (commits_no_copy reset old new h).copy;
}

-- a group that ends leaves the blocks of objects
ended_holds : (reset : Bool) (t : Type 0) (disks : List (List ℕ)) (x y : OpenPool) (s : Stored) → y.table ≡ x.table → y.cache ≡ x.cache → Commits reset x.space y.space → HasBlocks t disks x s → Now (HasBlocks t disks y) (λ n. Swaps s n [] [])
ended_holds reset t disks x y s table cache commits held = live_holds t disks x y s (ended_live reset x.space y.space commits) table cache held

-- so a group that was written is written once it ended
pub ended_written : (reset : Bool) (t0 t : Type 0) (disks0 disks : List (List ℕ)) (x y z : OpenPool) (s : Stored) → z.table ≡ y.table → z.cache ≡ y.cache → z.dir ≡ y.dir → Commits reset y.space z.space
    → HasBlocks t0 disks0 x s → AreTreesStored x s → HasWritten t disks x y s → HasWritten t disks x z s
ended_written reset t0 t disks0 disks x y z s table cache dir commits held stored written =
    subst (λ (d : Tree). Now (HasBlocks t disks z) (λ n. WritesGroup s n x.group x.dir d)) (sym dir)
    (now_still (HasBlocks t disks y) (HasBlocks t disks z) s x.group x.dir y.dir held.alone stored (λ m h. ended_holds reset t disks y z m table cache commits h) written)

-- what holds in any case holds where the answer is Ok
pub on_ok_of : {T E : Type 0} (r : Result T E) {P : Type 0} → P → OnOk r P
on_ok_of (Ok x) p = p
on_ok_of (Err e) p = tt
