-- The disks show the last root of a pool, behind each of its steps.
use Rattle.std.proofs.Common.{◌≡◌, ℕ, ◌+◌, Bool, List, Option, Some, None, Ok, length, map, refl, sym, ◌∙◌, ap, subst, arith}
use Rattle.std.specs.Prelude.{IfSome, slice_index_or}
use Rattle.zr_base.specs.declared.space.DevRow.{DevRow}
use Rattle.zr_image.specs.Current.{FindsCurrent, ShowsAll, slots_of}
use Rattle.zr_label.specs.Blocks.{IsUber, no_row}
use Rattle.zr_label.specs.declared.root.Seen.{Seen}
use Rattle.zr_label.specs.declared.root.Uber.{Uber}
use Rattle.zr_newest.proofs.Kept.{labels_more, labels_on, root_kept}
use Rattle.zr_newest.proofs.Newest.{above_newest, current_newest, devices_stay, newest_still, published_newest}
use Rattle.zr_newest.specs.Newest.{AreAt, HaveLabels, HasSameDevices, IsAbove, IsNewestOn, IsOneDevice, KeepsLabels}
use Rattle.zr_rules.specs.Places.{is_gone}
use Rattle.zr_shelf.specs.Counts.{Counts}
use Rattle.zr_shelf.specs.Moments.{World}
use Rattle.zr_sync.specs.Commits.{IsNextRoot, IsShownFrom}
use Rattle.zr_sync.specs.Pools.{IsAfter, IsOpen}
use Rattle.zr_sync.specs.Writes.{WritesBlocks, WritesIntoFree}
use Rattle.zr_sync.specs.declared.open.OpenPool.{OpenPool}
use Rattle.zr_sync.specs.declared.open.Table.{Table}
use Rattle.zr_current.specs.Current.{GoesOnFrom, HasSlots}
use Rattle.zr_last.proofs.Commits.{root_put, root_stands}
use Rattle.zr_last.proofs.Units.{rings_kept, sized_now}
use Rattle.zr_last.specs.Last.{KeepsDevices, KeepsLast, KeepsRoot, ShowsLast}

pub found_last : (disks : List (List ℕ)) (seen : List Seen) (u : Uber) (pool : OpenPool) → ShowsAll disks seen → FindsCurrent seen (Ok u) → GoesOnFrom u pool → HasSlots (slots_of u seen) pool.table.slots → ShowsLast disks pool
found_last disks seen u pool shown finds from slots = record { root = u; from = from; newest = current_newest disks seen u pool.table.slots shown finds slots }

-- a pool with the same root and the same table has its devices where they were
pub same_devices : (old new : OpenPool) → KeepsRoot old new → KeepsDevices old new
same_devices old new same = record {
  last = same.last;
  guid = same.guid;
  count = ap (λ (t : Table). t.count) same.table;
  slots = ap (λ (t : Table). t.slots) same.table;
  rows = λ d. row_same old.table new.table same.table d;
}
  where
    row_same : (t u : Table) → u ≡ t → (d : ℕ) → IsOneDevice (slice_index_or t.rows d no_row) (slice_index_or u.rows d no_row)
    row_same t u is d = record {
      added = ap (λ (x : Table). (slice_index_or x.rows d no_row).added) is;
      units = ap (λ (x : Table). (slice_index_or x.rows d no_row).units) is;
      gone = ap (λ (x : Table). is_gone (slice_index_or x.rows d no_row).state) is;
    }

-- the next root of a pool with the same devices has those of the root from which it goes on
pub follows_devices : (reset : Bool) (last u : Uber) (first old : OpenPool) → GoesOnFrom last first → KeepsDevices first old → IsNextRoot old reset u → HasSameDevices last u
follows_devices reset last u first old from keeps next = record {
  guid = next.guid ∙ (keeps.guid ∙ from.guid);
  count = next.count ∙ (keeps.count ∙ from.count);
  rows = λ d. subst (λ (rs : List DevRow). IsOneDevice (slice_index_or rs d no_row) (slice_index_or u.rows d no_row)) from.rows (subst (λ (rs : List DevRow). IsOneDevice (slice_index_or first.table.rows d no_row) (slice_index_or rs d no_row)) (sym next.rows) (keeps.rows d));
}

-- a pool with the same root and the same devices
pub same_last : (disks : List (List ℕ)) (old new : OpenPool) → KeepsRoot old new → ShowsLast disks old → ShowsLast disks new
same_last disks old new same h = record {
  root = h.root;
  from = record {
    last = same.last ∙ h.from.last;
    guid = same.guid ∙ h.from.guid;
    count = ap (λ (t : Table). t.count) same.table ∙ h.from.count;
    rows = ap (λ (t : Table). t.rows) same.table ∙ h.from.rows;
  };
  newest = subst (λ (t : Table). IsNewestOn disks h.root t.slots) (sym same.table) h.newest;
}

pub units_last : (sizes : List ℕ) (old new : OpenPool) (before now : World) → IsOpen sizes old → map length before.now.seen ≡ sizes → WritesIntoFree old before now → KeepsRoot old new → KeepsLast before now old new
units_last sizes old new before now ready sized wrote same h =
    same_last now.now.seen old new same (record { root = h.root; from = h.from; newest = newest_still before.now.seen now.now.seen h.root old.table.slots (rings_kept sizes old before now ready sized wrote) h.newest })

pub publishes : (sizes : List ℕ) (pool : OpenPool) (last : Option Uber) (u : Uber) (before now : World) (seen : List Seen) → IsOpen sizes pool → map length before.now.seen ≡ sizes → IsUber u → u.count ≡ pool.table.count → u.rows ≡ pool.table.rows
    → IsShownFrom sizes (record pool { last = last }) u before now → IsAbove before.now.seen u → HaveLabels before.now.seen seen → AreAt pool.table.slots u seen → IsNewestOn now.now.seen u pool.table.slots
publishes sizes pool last u before now seen ready sized lawful count rows shown above labels devices =
    published_newest before.now.seen now.now.seen u pool.table.slots seen lawful above (root_put sizes pool last u before now ready sized lawful count rows shown) labels devices (root_stands sizes pool last u before now ready sized lawful count rows shown)

-- blocks of objects are units
pub blocks_last : {n1 n2 : List ℕ} {c1 c2 : Counts} {t1 t2 : Type 0} {w1 w2 : World} {x y : OpenPool} → IsOpen n1 x → map length w1.now.seen ≡ n1 → t1 → WritesBlocks n1 n2 c1 c2 t1 t2 w1 w2 x y → KeepsLast w1 w2 x y
blocks_last {n1} {n2} {c1} {c2} {t1} {t2} {w1} {w2} {x} {y} ready sized told wrote h =
    units_last n1 x y w1 w2 ready sized (wrote.goes.written told)
    (record { last = ap (λ (p : OpenPool). p.last) wrote.rest; guid = ap (λ (p : OpenPool). p.guid) wrote.rest; table = ap (λ (p : OpenPool). p.table) wrote.rest }) h

-- ---- a commit

-- where units were written, roots that stand stood there
above_mid : (sizes : List ℕ) (pool : OpenPool) (before mid : World) (u : Uber) → IsOpen sizes pool → map length before.now.seen ≡ sizes → WritesIntoFree pool before mid → IsAbove before.now.seen u → IsAbove mid.now.seen u
above_mid sizes pool before mid u ready sized wrote above = λ slot v is same. above slot v (root_kept before.now.seen mid.now.seen (rings_kept sizes pool before mid ready sized wrote) slot v is) same

-- A commit of a pool whose next root is above all that stand, with its devices where the labels say.
module _ (sizes behind : List ℕ) (old new : OpenPool) (reset : Bool) (before now : World) (ready : IsOpen sizes old) (later : IsOpen behind new) (sized : map length before.now.seen ≡ sizes) (txg : new.group.txg ≡ old.group.txg + 1) (next : IfSome new.last (IsNextRoot old reset))
    (wrote : IfSome new.last (λ u. (mid : World) × WritesIntoFree old before mid × IsShownFrom sizes old u mid now)) (guid : new.guid ≡ old.guid) (table : new.table ≡ old.table) where
  -- the root, and what was written for it
  record Root : Type 0 where
    pub root : Uber
    pub is : new.last ≡ Some root
    pub lawful : IsUber root
    pub next_is : IsNextRoot old reset root
    pub mid : World
    pub into : WritesIntoFree old before mid
    pub shown : IsShownFrom sizes old root mid now

  the_root : Root
  the_root = by_last new.last refl next wrote later.after
    where
      by_last : (o : Option Uber) → new.last ≡ o → IfSome o (IsNextRoot old reset) → IfSome o (λ u. (mid : World) × WritesIntoFree old before mid × IsShownFrom sizes old u mid now) → IsAfter o new.group.txg → Root
      by_last None is h w after = absurd (let first = ready.first in omega (arith, after, txg, first))
      by_last (Some u) is h w after = record { root = u; is = is; lawful = after.0; next_is = h; mid = w.0; into = w.1; shown = w.2 }

  -- the labels are as they were
  pub commit_labels : KeepsLabels before.now.seen now.now.seen
  commit_labels =
      let r = the_root in
      let first = (rings_kept sizes old before r.mid ready sized r.into).labels in
      let last = (root_put sizes old old.last r.root r.mid now ready (sized_now sizes old before r.mid ready sized r.into) r.lawful r.next_is.count r.next_is.rows r.shown).labels in
      labels_more before.now.seen r.mid.now.seen now.now.seen first last

  pub commit_places : ((u : Uber) → IsNextRoot old reset u → IsAbove before.now.seen u) → (seen : List Seen) → HaveLabels before.now.seen seen → ((u : Uber) → IsNextRoot old reset u → AreAt old.table.slots u seen) → ShowsLast now.now.seen new
  commit_places above seen labels devices =
      let r = the_root in
      let u = r.root in
      let keeps = rings_kept sizes old before r.mid ready sized r.into in
      record {
        root = u;
        from = record {
          last = r.is;
          guid = guid ∙ sym r.next_is.guid;
          count = ap (λ (t : Table). t.count) table ∙ sym r.next_is.count;
          rows = ap (λ (t : Table). t.rows) table ∙ sym r.next_is.rows;
        };
        newest = subst (λ (t : Table). IsNewestOn now.now.seen u t.slots) (sym table)
            (publishes sizes old old.last u r.mid now seen ready (sized_now sizes old before r.mid ready sized r.into) r.lawful r.next_is.count r.next_is.rows r.shown (above_mid sizes old before r.mid u ready sized r.into (above u r.next_is))
            (labels_on before.now.seen r.mid.now.seen keeps.labels seen labels) (devices u r.next_is));
      }

  pub commit_last : KeepsLast before now old new
  commit_last h =
      let mine = h.newest in
      commit_places (λ u is. above_newest before.now.seen h.root u old.table.slots mine (is.guid ∙ h.from.guid) (let group = is.txg in let after = (subst (λ (o : Option Uber). IsAfter o old.group.txg) h.from.last ready.after).1 in omega (arith, group, after))) mine.seen mine.labels
      (λ u is. devices_stay before.now.seen h.root u old.table.slots mine (is.guid ∙ h.from.guid) (is.count ∙ h.from.count) (is.rows ∙ h.from.rows) mine.seen mine.labels)
