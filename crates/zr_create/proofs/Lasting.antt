-- The disks show the last root of a new pool, and of one that has a device more.
use Rattle.std.proofs.Common.{◌≡◌, ◌≢◌, inl, inr, ℕ, ◌+◌, ◌<◌, ◌≤◌, true, false, List, get_or, length, map, Option, None, Some, Ok, Err, refl, sym, ◌∙◌, ap, subst, arith}
use Rattle.std.specs.Prelude.{IfSome, IsSomeAnd, slice_index, slice_set}
use Rattle.std.proofs.lemmas.List.{get_or_default, length-map}
use Rattle.zr_base.specs.declared.space.DevRow.{DevRow}
use Rattle.zr_image.specs.Current.{ShowsAll, seen_at}
use Rattle.zr_label.specs.declared.root.Label.{Label}
use Rattle.zr_label.specs.declared.root.Seen.{Seen}
use Rattle.zr_label.specs.declared.root.Uber.{Uber}
use Rattle.zr_last.proofs.Lasting.{commit_labels, commit_last, commit_places}
use Rattle.zr_last.specs.Last.{ShowsLast}
use Rattle.zr_newest.proofs.Kept.{first_back}
use Rattle.zr_newest.proofs.Newest.{above_newest}
use Rattle.zr_newest.proofs.Prepared.{devices_joined, joins_next, labels_with, newest_beside, other_label, with_label}
use Rattle.zr_newest.proofs.Seen.{seen_labels, shown_of_root}
use Rattle.zr_newest.specs.Newest.{JoinsDevice, PreparesSlot, ShowsRoot}
use Rattle.zr_scan.proofs.Fresh.{same_label}
use Rattle.zr_scan.specs.Scan.{IsFirstLabel}
use Rattle.zr_shelf.specs.Disks.{disk}
use Rattle.zr_shelf.specs.Moments.{World}
use Rattle.zr_slots.specs.Checks.{AreNamed, IsIdentity, IsInTheWay}
use Rattle.zr_sync.specs.Commits.{IsNextRoot, IsShownFrom}
use Rattle.zr_sync.specs.Pools.{IsAfter, IsOpen}
use Rattle.zr_sync.specs.Writes.{WritesIntoFree}
use Rattle.zr_sync.specs.declared.open.OpenPool.{OpenPool}
use Rattle.zr_sync.specs.declared.open.Table.{Table}
use Rattle.zr_txg.specs.declared.group.Group.{Group}
use Rattle.zr_view.specs.Views.{slot_of}
use Rattle.zr_create.specs.Devices.{HasDevicesIn, TakesOn, new_row, next_label}
use Rattle.zr_create.specs.Labelled.{LabelsSlots}
use Rattle.zr_create.specs.Making.{HasNoRoot, NamesDevices}
use Rattle.zr_create.specs.Refusals.{ChecksNew, ChecksNext}
use Rattle.zr_create.proofs.Labelled.{devices_labelled}
use Rattle.zr_create.proofs.Taken.{IsFree}
use Rattle.zr_current.specs.Current.{GoesOnFrom}

not_refused : {P A R : Type 0} {a : A} (r : R) → Ok a ≡ Err r → P
not_refused r e = absurd cc

-- the label that a slot shows is the one that stands there
shows_label : (disks : List (List ℕ)) (seen : List Seen) (slot : ℕ) (m : Label) → ShowsAll disks seen → slot < length disks → IsFirstLabel (length (disk disks slot)) (disk disks slot) m → (seen_at seen slot).label ≡ Some m
shows_label disks seen slot m shown lt first = same_label (length (disk disks slot)) (disk disks slot) (seen_at seen slot).label (Some m) ((seen_labels disks seen shown).each slot lt) first

-- ---- a device more

-- no other slot has a label of the next device's identity
pub next_alone : (sizes : List ℕ) (tells : Type 0) (told : tells) (disks : List (List ℕ)) (pool : OpenPool) (slot : ℕ) → ChecksNext sizes tells disks pool slot (Ok tt)
    → (other : ℕ) (m : Label) → other ≢ slot → other < length disks → IsFirstLabel (length (disk disks other)) (disk disks other) m → m.guid ≡ pool.guid → m.index ≡ pool.table.count → m.added ≡ pool.group.txg + 1 → ⊥
next_alone sizes tells told disks pool slot checks other m differ lt first guid index added = elim checks.checks [
  | inr failed ↦ not_refused failed.0 failed.2
  | inl sized ↦ elim sized.2 [
    | inr failed ↦ not_refused failed.0 failed.2
    | inl free ↦ elim free.2 [
      | inr failed ↦ not_refused failed.0 failed.2
      | inl alone ↦
          alone.1 other (
            differ,
            subst (λ (o : Option Label). IsSomeAnd o (IsIdentity pool.guid pool.table.count (pool.group.txg + 1))) (sym (shows_label disks checks.seen other m (checks.shown.shows told) lt first)) (record { guid_is = guid; index_is = index; added_is = added }),
          )
    ]
  ]
]

-- there is room in the table for it
pub next_few : (sizes : List ℕ) (tells : Type 0) (disks : List (List ℕ)) (pool : OpenPool) (slot : ℕ) → ChecksNext sizes tells disks pool slot (Ok tt) → pool.table.count < 32
next_few sizes tells disks pool slot checks = elim checks.checks [
  | inr failed ↦ not_refused failed.0 failed.2
  | inl sized ↦ elim sized.2 [
    | inr failed ↦ not_refused failed.0 failed.2
    | inl free ↦ elim free.2 [ inr failed ↦ not_refused failed.0 failed.2 | inl alone ↦ alone.2 ]
  ]
]

-- a root behind the last one of a pool, with a device more
pub next_joins : (sizes : List ℕ) (disks : List (List ℕ)) (root v : Uber) (b c : OpenPool) (slot units : ℕ) → IsOpen sizes b → GoesOnFrom root b → b.table.count < 32 → IsFree b.table.slots slot → TakesOn slot units b c
    → ((other : ℕ) (m : Label) → other ≢ slot → other < length disks → IsFirstLabel (length (disk disks other)) (disk disks other) m → m.guid ≡ b.guid → m.index ≡ b.table.count → m.added ≡ b.group.txg → ⊥)
    → IsNextRoot c true v → JoinsDevice disks root v b.table.slots c.table.slots slot (next_label b units)
next_joins sizes disks root v b c slot units ready_b from few free took alone is =
    let size = ready_b.table.size in
    let long = ready_b.slots in
    let count_is : b.table.count ≡ root.count = from.count in
    let n = count_is in
    let rows_long = ap (λ (rs : List DevRow). length rs) from.rows in
    let slots_are : slice_set b.table.slots root.count (Some slot) ≡ c.table.slots = ap (λ (k : ℕ). slice_set b.table.slots k (Some slot)) (sym count_is) ∙ sym (ap (λ (t : Table). t.slots) took.table) in
    let rows_are : v.rows ≡ slice_set root.rows root.count (new_row units b.group.txg) =
    is.rows
    ∙ (ap (λ (t : Table). t.rows) took.table
    ∙ (ap (λ (k : ℕ). slice_set b.table.rows k (new_row units b.group.txg)) count_is ∙ ap (λ (rs : List DevRow). slice_set rs root.count (new_row units b.group.txg)) from.rows)) in
    subst (λ (ss : List (Option ℕ)). JoinsDevice disks root v b.table.slots ss slot (next_label b units)) slots_are
    (joins_next disks root v b.table.slots slot (next_label b units) (new_row units b.group.txg) (is.guid ∙ (took.guid ∙ from.guid)) (is.count ∙ (ap (λ (t : Table). t.count) took.table ∙ ap (λ (k : ℕ). k + 1) count_is)) rows_are (omega (arith, size, few, n, rows_long))
    (omega (arith, long, few, n)) refl from.guid count_is refl refl free alone)

-- a slot that there is has a disk
pub slot_known : (sizes behind : List ℕ) (disks : List (List ℕ)) (slot : ℕ) → behind ≡ sizes → map length disks ≡ behind → slot < length sizes → slot < length disks
slot_known sizes behind disks slot same sized lt = subst (λ (n : ℕ). slot < n) (sym (ap (λ (ns : List ℕ). length ns) (sized ∙ same)) ∙ length-map disks length) lt

-- nor has one behind a commit
pub still_alone : (s1 s2 : List ℕ) (a b : OpenPool) (w1 w2 : World) (slot : ℕ) → IsOpen s1 a → IsOpen s2 b → map length w1.now.seen ≡ s1 → b.group.txg ≡ a.group.txg + 1 → IfSome b.last (IsNextRoot a false) → IfSome b.last (λ u. (mid : World) × WritesIntoFree a w1 mid × IsShownFrom s1 a u mid w2) → b.guid ≡ a.guid → b.table ≡ a.table
    → ((other : ℕ) (m : Label) → other ≢ slot → other < length w1.now.seen → IsFirstLabel (length (disk w1.now.seen other)) (disk w1.now.seen other) m → m.guid ≡ a.guid → m.index ≡ a.table.count → m.added ≡ a.group.txg + 1 → ⊥)
    → (other : ℕ) (m : Label) → other ≢ slot → other < length w2.now.seen → IsFirstLabel (length (disk w2.now.seen other)) (disk w2.now.seen other) m → m.guid ≡ b.guid → m.index ≡ b.table.count → m.added ≡ b.group.txg → ⊥
still_alone s1 s2 a b w1 w2 slot ready_a ready_b sized_a txg_b next_b wrote_b guid_b table_b alone other m differ lt first guid index added =
    let keeps = commit_labels s1 s2 a b false w1 w2 ready_a ready_b sized_a txg_b next_b wrote_b guid_b table_b in
    let long = keeps.count in
    alone other m differ (omega (arith, lt, long)) (first_back w1.now.seen w2.now.seen other (keeps.sizes other) (λ n small. keeps.labels other n small) m first) (guid ∙ guid_b) (index ∙ ap (λ (t : Table). t.count) table_b) (added ∙ txg_b)

-- A commit of what was open, a slot that is prepared for the next device, and a commit with it.
module _ (w1 w2 w3 w4 : World) (s1 s2 s3 s4 : List ℕ) (a b c d : OpenPool) (slot units : ℕ) (ready_a : IsOpen s1 a) (ready_b : IsOpen s2 b) (sized_a : map length w1.now.seen ≡ s1) (txg_b : b.group.txg ≡ a.group.txg + 1) (next_b : IfSome b.last (IsNextRoot a false))
    (wrote_b : IfSome b.last (λ u. (mid : World) × WritesIntoFree a w1 mid × IsShownFrom s1 a u mid w2)) (guid_b : b.guid ≡ a.guid) (table_b : b.table ≡ a.table)
    (few : b.table.count < 32) (free : IsFree b.table.slots slot) (took : TakesOn slot units b c) (prepares : PreparesSlot w2.now.seen w3.now.seen slot (next_label b units))
    (ready_c : IsOpen s3 c) (ready_d : IsOpen s4 d) (sized_c : map length w3.now.seen ≡ s3) (txg_d : d.group.txg ≡ c.group.txg + 1) (next_d : IfSome d.last (IsNextRoot c true))
    (wrote_d : IfSome d.last (λ u. (mid : World) × WritesIntoFree c w3 mid × IsShownFrom s3 c u mid w4)) (guid_d : d.guid ≡ c.guid) (table_d : d.table ≡ c.table)
    (alone : (other : ℕ) (m : Label) → other ≢ slot → other < length w1.now.seen → IsFirstLabel (length (disk w1.now.seen other)) (disk w1.now.seen other) m → m.guid ≡ a.guid → m.index ≡ a.table.count → m.added ≡ a.group.txg + 1 → ⊥) (h : ShowsLast w1.now.seen a) where
  shows_b : ShowsLast w2.now.seen b
  shows_b = commit_last s1 s2 a b false w1 w2 ready_a ready_b sized_a txg_b next_b wrote_b guid_b table_b h

  abbrev root : Uber
  root = shows_b.root

  abbrev label : Label
  label = next_label b units

  count_is : b.table.count ≡ root.count
  count_is = shows_b.from.count

  txg_is : b.group.txg ≡ root.txg + 1
  txg_is = (subst (λ (o : Option Uber). IsAfter o b.group.txg) shows_b.from.last ready_b.after).1

  -- the labels of other slots stood there before
  alone_still : (other : ℕ) (m : Label) → other ≢ slot → other < length w2.now.seen → IsFirstLabel (length (disk w2.now.seen other)) (disk w2.now.seen other) m → m.guid ≡ label.guid → m.index ≡ label.index → m.added ≡ label.added → ⊥
  alone_still = still_alone s1 s2 a b w1 w2 slot ready_a ready_b sized_a txg_b next_b wrote_b guid_b table_b alone

  joins : (v : Uber) → IsNextRoot c true v → JoinsDevice w2.now.seen root v b.table.slots c.table.slots slot label
  joins v is = next_joins s2 w2.now.seen root v b c slot units ready_b shows_b.from few free took alone_still is

  pub grown_last : ShowsLast w4.now.seen d
  grown_last =
      let mine = shows_b.newest in
      let beside =
      newest_beside w2.now.seen w3.now.seen slot label root b.table.slots prepares free (λ k lt. other_label k label root (λ guid index added. (let n = count_is in omega (arith, index, lt, n)))) mine in
      commit_places s3 s4 c d true w3 w4 ready_c ready_d sized_c txg_d next_d wrote_d guid_d table_d
      (λ v is. above_newest w3.now.seen root v b.table.slots beside (is.guid ∙ (took.guid ∙ shows_b.from.guid)) (let group = is.txg ∙ ap (λ (g : Group). g.txg) took.group in let after = txg_is in omega (arith, group, after)))
      (with_label mine.seen slot label) (labels_with w2.now.seen w3.now.seen slot label prepares mine.seen mine.labels)
      (λ v is. devices_joined w2.now.seen w3.now.seen slot label prepares mine.seen mine.labels root v b.table.slots c.table.slots mine.devices (joins v is))

-- ---- a new pool

-- no slot is in the way of a new pool
none_in_the_way : (sizes : List ℕ) (tells : Type 0) (disks : List (List ℕ)) (version guid : ℕ) (named : List ℕ) (checks : ChecksNew sizes tells disks version guid named (Ok tt)) → (slot : ℕ) → IsInTheWay checks.seen guid named slot → ⊥
none_in_the_way sizes tells disks version guid named checks slot way = elim checks.checks [
  | inr failed ↦ not_refused failed.0 failed.2
  | inl sized ↦ sized.2 slot way
]

-- before a pool is made no root stands
pub none_rooted : (sizes : List ℕ) (tells : Type 0) (told : tells) (disks : List (List ℕ)) (version guid : ℕ) (named : List ℕ) → ChecksNew sizes tells disks version guid named (Ok tt) → HasNoRoot disks
none_rooted sizes tells told disks version guid named checks slot v is = none_in_the_way sizes tells disks version guid named checks slot (inl (inl (v, shown_of_root disks checks.seen (checks.shown.shows told) slot v is)))

-- The slots were prepared for the devices of a pool without a root.
module _ (w1 w2 : World) (s0 s1 s2 : List ℕ) (tells : Type 0) (told : tells) (version guid txg : ℕ) (named : List ℕ) (checks : ChecksNew s0 tells w1.now.seen version guid named (Ok tt)) (inside : AreNamed (length w1.now.seen) named) (x : OpenPool) (identity : x.guid ≡ guid)
    (devices : HasDevicesIn s1 txg named x) (only : (d slot : ℕ) → slot_of x.table.slots d ≡ Some slot → (k : ℕ) × (k < length named) × (slice_index named k ≡ slot)) (labelled : LabelsSlots w1.now.seen w2.now.seen named (length named) x) (ready_x : IsOpen s2 x)
    (same_count : length w2.now.seen ≡ length w1.now.seen) where
  abbrev seen : List Seen
  seen = checks.seen

  none : (slot : ℕ) → IsInTheWay seen guid named slot → ⊥
  none = none_in_the_way s0 tells w1.now.seen version guid named checks

  -- no root stands there
  no_root : (slot : ℕ) (v : Uber) → ShowsRoot w2.now.seen slot v → ⊥
  no_root slot v is = none_rooted s0 tells told w1.now.seen version guid named checks slot v (labelled.roots slot v is)

  -- no other slot has a label of the pool
  foreign : (slot : ℕ) (l : Label) → ((k : ℕ) → k < length named → slice_index named k ≢ slot) → (seen_at seen slot).label ≡ Some l → l.guid ≢ x.guid
  foreign slot l aside is same =
      none slot
      (inr (subst (λ (o : Option Label). IsSomeAnd o (λ m. m.guid ≡ guid)) (sym is) (same ∙ identity), λ has. (let at = has.1 in aside has.0 at (by_default named has.0 slot at ∙ has.2))))
    where
      by_default : (xs : List ℕ) (k d : ℕ) → k < length xs → slice_index xs k ≡ get_or xs k d
      by_default xs k d lt = get_or_default xs k 0 d lt

  -- a device that there is not has no slot
  past : (d : ℕ) → length named ≤ d → slot_of x.table.slots d ≡ None
  past d le = by_slot (slot_of x.table.slots d) refl
    where
      by_slot : (o : Option ℕ) → slot_of x.table.slots d ≡ o → o ≡ None
      by_slot None is = refl
      by_slot (Some slot) is =
          let at = only d slot is in
          let lt = at.1 in
          let same = ready_x.mounted.apart d at.0 slot is ((devices.each at.0 at.1).slot_is ∙ ap (λ (k : ℕ). Some k) at.2) in
          absurd (omega (arith, le, lt, same))

  pub new_names : NamesDevices w2.now.seen x
  new_names =
      let behind = labelled.labels seen (seen_labels w1.now.seen seen (checks.shown.shows told)) in
      record {
        seen = behind.0;
        labels = behind.1;
        devices = λ u same_guid count rows.
            devices_labelled s1 txg named x w2.now.seen seen behind.0 behind.1 (λ k lt. (let few = inside k lt in let n = same_count in omega (arith, few, n))) devices past behind.2 foreign u same_guid count rows;
      }

  -- Then it was committed.
  pub new_last : (w3 : World) (s3 : List ℕ) (y : OpenPool) → IsOpen s3 y → map length w2.now.seen ≡ s2 → y.group.txg ≡ x.group.txg + 1 → IfSome y.last (IsNextRoot x true) → IfSome y.last (λ u. (mid : World) × WritesIntoFree x w2 mid × IsShownFrom s2 x u mid w3) → y.guid ≡ x.guid → y.table ≡ x.table → ShowsLast w3.now.seen y
  new_last w3 s3 y ready_y sized txg_y next wrote guid_y table_y =
      let names = new_names in
      commit_places s2 s3 x y true w2 w3 ready_x ready_y sized txg_y next wrote guid_y table_y (λ u is slot v stands same. absurd (no_root slot v stands)) names.seen names.labels (λ u is. names.devices u is.guid is.count is.rows)
