-- The head that a commit writes, through the steps behind it.
use Rattle.std.proofs.Common.{◌≡◌, ◌∙◌, ℕ, Bool, List, length, take, Option, refl, sym, ap, subst, arith}
use Rattle.zr_base.specs.declared.space.DevRow.{DevRow}
use Rattle.zr_base.specs.declared.space.Dva.{Dva}
use Rattle.zr_bptr.specs.declared.Ptr.{Ptr}
use Rattle.zr_cache.specs.declared.table.Cache.{Cache}
use Rattle.zr_commit.specs.Heads.{StoresHead}
use Rattle.zr_image.specs.Reading.{store_of}
use Rattle.zr_meta.specs.declared.Head.{Head}
use Rattle.zr_meta.specs.Heads.{head_bytes}
use Rattle.zr_root.specs.Streams.{HasBytes}
use Rattle.zr_root.proofs.Beside.{bytes_beside}
use Rattle.zr_rules.specs.Devices.{Devices}
use Rattle.zr_rules.specs.Equation.{devices_in}
use Rattle.zr_rules.specs.Space.{Space}
use Rattle.zr_rules.specs.Steps.{Commits}
use Rattle.zr_shelf.specs.Counts.{Counts}
use Rattle.zr_shelf.specs.Moments.{World}
use Rattle.zr_store.specs.Store.{Stored, one_at}
use Rattle.zr_store.proofs.Meeting.{at_each}
use Rattle.zr_vdev.specs.Caches.{AreRead}
use Rattle.zr_vdev.specs.Runs.{view_of}
use Rattle.zr_vdev.specs.Stores.{HoldsBlocks, IsStoredAt}
use Rattle.zr_vdev.specs.declared.kind.Kind.{Kind}
use Rattle.zr_vdev.proofs.Held.{read_same}
use Rattle.zr_view.specs.Views.{View, address_bytes}
use Rattle.zr_sync.specs.Heads.{IsSeen, StandsHead, HasHead, head_of}
use Rattle.zr_sync.specs.Writes.{WritesMetadata, WritesTrees}
use Rattle.zr_sync.specs.declared.open.OpenPool.{OpenPool}
use Rattle.zr_sync.specs.declared.open.Table.{Table}
use Rattle.zr_sync.proofs.Groups.{commits_devices}

-- ---- a head that is stored

-- a head that is stored stands on the disks
pub head_stands : (kind : Kind) (slots : List (Option ℕ)) (tells : Type 0) (disks : List (List ℕ)) (space : Space) (lost : Option Dva) (cache : Cache) (table : List DevRow) (s n : Stored) (h : Head) (root : Ptr) (len : ℕ)
    → HoldsBlocks kind slots tells disks space lost cache n → StoresHead table s n h root len → StandsHead table (view_of disks slots space) h root len
head_stands kind slots tells disks space lost cache table s n h root len held w = record {
  lawful = w.spells.lawful;
  length_is = ap (λ (bytes : List ℕ). length bytes) (sym w.spells.spelling) ∙ w.long;
  stands = λ t is.
      let st = w.stored t is in
      bytes_beside n (store_of (view_of disks slots space)) t (head_bytes h)
      (λ b met. let e = st.came.stored (one_at b.at) in sym (held.there b (at_each (IsStoredAt kind space lost) n.pointers b.at held.stored (omega (arith, e, met)))))
      (subst (HasBytes n t) w.spells.spelling st.stands);
}

-- ---- what is told through the steps

pub seen_metadata : (n1 n2 : List ℕ) (c1 c2 : Counts) (t1 t2 : Type 0) (w1 w2 : World) (x y : OpenPool) → WritesMetadata n1 n2 c1 c2 t1 t2 w1 w2 x y → IsSeen t1 w1.now.seen x → IsSeen t2 w2.now.seen y
seen_metadata n1 n2 c1 c2 t1 t2 w1 w2 x y wrote seen =
    let slots : y.table.slots ≡ x.table.slots = ap (λ (p : OpenPool). p.table.slots) wrote.rest in
    record { told = wrote.goes.told seen.told; read = subst (λ (ss : List (Option ℕ)). AreRead w2.now.seen ss y.space y.cache) (sym slots) (wrote.goes.read seen.told seen.read) }

pub seen_trees : (n1 n2 : List ℕ) (c1 c2 : Counts) (t1 t2 : Type 0) (w1 w2 : World) (x y : OpenPool) → WritesTrees n1 n2 c1 c2 t1 t2 w1 w2 x y → IsSeen t1 w1.now.seen x → IsSeen t2 w2.now.seen y
seen_trees n1 n2 c1 c2 t1 t2 w1 w2 x y wrote seen =
    let slots : y.table.slots ≡ x.table.slots = ap (λ (p : OpenPool). p.table.slots) wrote.rest in
    record { told = wrote.goes.told seen.told; read = subst (λ (ss : List (Option ℕ)). AreRead w2.now.seen ss y.space y.cache) (sym slots) (wrote.goes.read seen.told seen.read) }

-- where each address has its bytes
pub seen_same : (t1 t2 : Type 0) (before now : List (List ℕ)) (x : OpenPool) → t2 → ((a : Dva) → address_bytes (view_of now x.table.slots x.space) a ≡ address_bytes (view_of before x.table.slots x.space) a) → IsSeen t1 before x → IsSeen t2 now x
seen_same t1 t2 before now x told same seen = record {
  told = told;
  read = λ e among. let was = seen.read e among in record { runs_of = was.runs_of; same = was.same ∙ sym (same e.0.pointer.at) };
}

-- where the devices stay
pub seen_devices : (t : Type 0) (disks : List (List ℕ)) (x y : OpenPool) → devices_in y.space ≡ devices_in x.space → y.table ≡ x.table → y.cache ≡ x.cache → IsSeen t disks x → IsSeen t disks y
seen_devices t disks x y devices table cache seen = record {
  told = seen.told;
  read = subst (λ (w : Table). AreRead disks w.slots y.space y.cache) (sym table) (subst (λ (k : Cache). AreRead disks x.table.slots y.space k) (sym cache) (read_same disks x.table.slots x.space y.space x.cache devices seen.read));
}

-- ---- a head that stands

-- a head stands where each address has its bytes
pub head_same : (table : List DevRow) (v w : View) (h : Head) (root : Ptr) (len : ℕ) → ((a : Dva) → address_bytes w a ≡ address_bytes v a) → StandsHead table v h root len → StandsHead table w h root len
head_same table v w h root len same has = record {
  lawful = has.lawful;
  length_is = has.length_is;
  stands = λ t is. bytes_beside (store_of v) (store_of w) t (head_bytes h) (λ b met. same b.at) (has.stands t is);
}

-- a group that ends leaves the head
pub ended_head : (reset : Bool) (disks : List (List ℕ)) (x y : OpenPool) (root : Ptr) (len : ℕ) → y.table ≡ x.table → y.dir ≡ x.dir → y.streams ≡ x.streams → y.cond ≡ x.cond → y.saved ≡ x.saved → Commits reset x.space y.space → HasHead disks x root len → HasHead disks y root len
ended_head reset disks x y root len table dir streams cond saved commits has =
    let ckpt = commits.ckpt in
    let part = commits.cond in
    let devices = commits_devices reset x.space y.space commits in
    let heads : head_of y ≡ head_of x = cc in
    let rows : take y.table.count y.table.rows ≡ take x.table.count x.table.rows = ap (λ (t : Table). take t.count t.rows) table in
    let views : view_of disks y.table.slots y.space ≡ view_of disks x.table.slots x.space =
    ap (λ (t : Table). view_of disks t.slots y.space) table ∙ ap (λ (ds : Devices). as_view ds) devices in
    subst (λ (h : Head). StandsHead (take y.table.count y.table.rows) (view_of disks y.table.slots y.space) h root len) (sym heads)
    (subst (λ (rs : List DevRow). StandsHead rs (view_of disks y.table.slots y.space) (head_of x) root len) (sym rows)
    (subst (λ (v : View). StandsHead (take x.table.count x.table.rows) v (head_of x) root len) (sym views) has))
  where
    as_view : Devices → View
    as_view ds = record { disks = disks; slots = x.table.slots; devices = ds }
