-- A crash shows the objects from before a group, or those that it commits.
use Rattle.std.proofs.Common.{◌≡◌, ◌⊎◌, inl, inr, ℕ, ◌+◌, ◌<◌, ◌≤◌, Bool, List, [], map, length, Option, Ok, sym, ◌∙◌, ap, subst, arith}
use Rattle.std.specs.Prelude.{Contains, slice_index, slice_index_or, unwrap_or}
use Rattle.std.proofs.lemmas.Bool.{cases_lt, ltb-true}
use Rattle.zr_chain.proofs.Ways.{and_left_of}
use Rattle.std.proofs.Math.ListN.{get_or-eq_default}
use Rattle.std.proofs.Math.Path.{fun_ext}
use Rattle.zr_base.specs.declared.space.DevPart.{DevPart}
use Rattle.zr_base.specs.declared.space.DevRow.{DevRow}
use Rattle.zr_base.specs.declared.space.Dva.{Dva}
use Rattle.zr_bptr.specs.declared.Bptr.{Bptr}
use Rattle.zr_bptr.specs.declared.Ptr.{Ptr}
use Rattle.zr_current.proofs.Committed.{goes_on, large}
use Rattle.zr_current.specs.Current.{GoesOnFrom}
use Rattle.zr_current.specs.Next.{IsNextOf}
use Rattle.zr_found.proofs.Alone.{one_meaning}
use Rattle.zr_image.specs.Honest.{IsLeft}
use Rattle.zr_image.specs.Reading.{store_of}
use Rattle.zr_image.specs.StateOf.{AreObjects}
use Rattle.zr_label.specs.Blocks.{IsUber, no_row}
use Rattle.zr_label.specs.Geometry.{whole}
use Rattle.zr_label.specs.declared.root.Seen.{Seen}
use Rattle.zr_label.specs.declared.root.Uber.{Uber}
use Rattle.zr_last.proofs.Lasting.{follows_devices}
use Rattle.zr_model.specs.Objects.{Objects}
use Rattle.zr_meta.specs.Heads.{head_bytes}
use Rattle.zr_model.specs.State.{PoolState}
use Rattle.zr_newest.proofs.Newest.{devices_seen, only_newest}
use Rattle.zr_newest.proofs.Seen.{slots_alike}
use Rattle.zr_newest.specs.Newest.{AreAt, HasSameDevices, IsNewestOn, IsOneDevice}
use Rattle.zr_open.proofs.Left.{objects_meant}
use Rattle.zr_open.specs.Shown.{Shows}
use Rattle.zr_root.specs.Streams.{HasBytes}
use Rattle.zr_rules.specs.Equation.{devices_in}
use Rattle.zr_rules.specs.Places.{is_gone, no_part, part_of}
use Rattle.zr_shelf.proofs.Doings.{added_throughout}
use Rattle.zr_shelf.proofs.Runs.{joined, stays, weaker}
use Rattle.zr_shelf.specs.Disks.{PendingWrite, Stand}
use Rattle.zr_shelf.specs.Doings.{WritesOnly}
use Rattle.zr_shelf.specs.Moments.{IsStill, Throughout, World}
use Rattle.zr_slots.specs.Phases.{IsPublished, IsPublishedInPart}
use Rattle.zr_slots.specs.Tables.{IsSlotInBoth}
use Rattle.zr_open.specs.There.{AreThere, IsReadable, StaysReadable}
use Rattle.zr_store.specs.Store.{Stored}
use Rattle.zr_sync.proofs.Holding.{below_labels, published_bytes}
use Rattle.zr_sync.proofs.Rings.{address_keeps, uber_long}
use Rattle.zr_sync.specs.Commits.{IsNextRoot, IsShownFrom, PublishesRoot}
use Rattle.zr_sync.specs.Leads.{CommitsObjects, LeadsTo}
use Rattle.zr_sync.specs.Moves.{TellsMoves}
use Rattle.zr_sync.specs.Pools.{IsAfter, IsOpen}
use Rattle.zr_sync.specs.Writes.{WritesIntoFree}
use Rattle.zr_sync.specs.declared.open.OpenPool.{OpenPool}
use Rattle.zr_sync.specs.declared.open.Table.{Table}
use Rattle.zr_vdev.specs.Runs.{view_of}
use Rattle.zr_vdev.specs.Stores.{IsWriteInto}
use Rattle.zr_vdev.specs.declared.kind.Kind.TheVariants.{Block}
use Rattle.zr_view.specs.Views.{View, address_bytes, slot_of}
use Rattle.zr_moved.proofs.Objects.{shown_objects}
use Rattle.zr_sync.proofs.Ending.{own_directory}
use Rattle.zr_stops.proofs.Images.{alone, group_leaves, stands, within_clear, within_pending}
use Rattle.zr_stops.proofs.Kept as kept
use Rattle.zr_stops.proofs.Kept.{LeavesAlone, StandsLast}
use Rattle.zr_stops.proofs.Readable.{readable_stays}
use Rattle.zr_stops.proofs.Putting.{IsPutting, almost_throughout, begun_throughout, putting_throughout, torn, units_kept}
use Rattle.zr_stops.proofs.Torn.{torn_shows}
use Rattle.zr_stops.proofs.Within.{group_within, in_group, within_writes}
use Rattle.zr_stops.specs.Behind.{ShowsOnly, StandsChanged, StandsInGroup}
use Rattle.zr_stops.specs.Either.{CommitsGroup, ShowsEither}
use Rattle.zr_stops.specs.Groups.{IsInGroup}
use Rattle.zr_sync.specs.Heads.{HasDirectory}
use Rattle.zr_stops.specs.Last.{HasLast, IsCommitted, LeavesLast}
use Rattle.zr_stops.specs.Torn.{ShowsOneOf}

-- ---- images on which each address reads the same

module _ (pool : OpenPool) (a b : List (List ℕ)) (same : (x : Dva) → address_bytes (view_of b pool.table.slots pool.space) x ≡ address_bytes (view_of a pool.table.slots pool.space) x) where
  abbrev then : View
  then = view_of a pool.table.slots pool.space

  abbrev now : View
  now = view_of b pool.table.slots pool.space

  pub store_kept : store_of now ≡ store_of then
  store_kept = ap with_bytes (fun_ext (λ (p : Bptr). same p.at))
    where
      with_bytes : (Bptr → List ℕ) → Stored
      with_bytes f = record { pointers = []; bytes = f }

  pub objects_kept : (objects : Objects) → AreObjects (store_of then) pool.dir objects → AreObjects (store_of now) pool.dir objects
  objects_kept objects are = subst (λ (s : Stored). AreObjects s pool.dir objects) (sym store_kept) are

  pub head_kept : (root : Ptr) (len : ℕ) → HasDirectory a pool root len → HasDirectory b pool root len
  head_kept root len has = record { head = has.head; lawful = has.lawful; same = has.same; stands = λ t is. subst (λ (s : Stored). HasBytes s t (head_bytes has.head)) (sym store_kept) (has.stands t is) }

-- ---- devices that are there

-- the rows of two tables tell of the same devices
abbrev pub AreAlike : Table → Table → Type 0
AreAlike t v = (d : ℕ) → IsOneDevice (slice_index_or t.rows d no_row) (slice_index_or v.rows d no_row)

-- a pool with the same devices has them too
row_alike : (sizes : List ℕ) (x y : OpenPool) → IsOpen sizes x → IsOpen sizes y → y.table.count ≡ x.table.count → AreAlike x.table y.table → (d : ℕ) → is_gone (part_of y.space.parts.devs d).row.state ≡ is_gone (part_of x.space.parts.devs d).row.state
row_alike sizes x y o q count alike d = elim (cases_lt d x.table.count) [
  | inl lt ↦ ap (λ (r : DevRow). is_gone r.state) (q.rows d (let n = count in omega (arith, n, lt))) ∙ ((alike d).gone ∙ sym (ap (λ (r : DevRow). is_gone r.state) (o.rows d lt)))
  | inr ge ↦
      let n = o.devices in let m = q.devices in let k = count in
      ap (λ (p : DevPart). is_gone p.row.state) (get_or-eq_default y.space.parts.devs no_part {n = d} (omega (arith, k, m, ge))) ∙ sym (ap (λ (p : DevPart). is_gone p.row.state) (get_or-eq_default x.space.parts.devs no_part {n = d} (omega (arith, n, ge))))
]

pub there_alike : (sizes : List ℕ) (x y : OpenPool) → IsOpen sizes x → IsOpen sizes y → y.table.count ≡ x.table.count → AreAlike x.table y.table → AreThere (devices_in x.space) → AreThere (devices_in y.space)
there_alike sizes x y o q count alike on d = row_alike sizes x y o q count alike d ∙ on d

same_alike : (t v : Table) → v ≡ t → AreAlike t v
same_alike t v same d = record {
  added = ap (λ (x : Table). (slice_index_or x.rows d no_row).added) same;
  units = ap (λ (x : Table). (slice_index_or x.rows d no_row).units) same;
  gone = ap (λ (x : Table). is_gone (slice_index_or x.rows d no_row).state) same;
}

pub there_same : (sizes : List ℕ) (x y : OpenPool) → IsOpen sizes x → IsOpen sizes y → y.table ≡ x.table → AreThere (devices_in x.space) → AreThere (devices_in y.space)
there_same sizes x y o q table on = there_alike sizes x y o q (ap (λ (t : Table). t.count) table) (same_alike x.table y.table table) on

-- ---- the next root

-- a root with the same devices has them where the last one has them
at_alike : (seen : List Seen) (last u : Uber) (slots mine : List (Option ℕ)) → mine ≡ slots → HasSameDevices last u → AreAt slots last seen → AreAt mine u seen
at_alike seen last u slots mine same devices are d =
    ap (λ (these : List (Option ℕ)). slot_of these d) same ∙ (are d ∙ ap (λ (these : List (Option ℕ)). slot_of these d) (sym (slots_alike last u seen devices)))

-- On these disks the next root leads to a pool with these objects and can be read, and its devices are where these labels say.
pub record IsNextPool (sizes : List ℕ) (disks : List (List ℕ)) (last u : Uber) (old next : OpenPool) (seen : List Seen) (after : Objects) : Type 0 where
  pub lawful : IsUber u
  pub txg : u.txg ≡ last.txg + 1
  pub count : u.count ≡ old.table.count
  pub ready : IsOpen sizes next
  pub from : GoesOnFrom u next
  pub reads : IsReadable disks next u
  pub at : AreAt next.table.slots u seen
  pub head : HasDirectory disks next u.root u.len
  pub objects : AreObjects (store_of (view_of disks next.table.slots next.space)) next.dir after

-- ---- what leaves the last root shows its objects

module _ (sizes : List ℕ) (last : Uber) (first : OpenPool) (before : Objects) (open_first : IsOpen sizes first) (from : GoesOnFrom last first) where
  pub last_only : (image : List (List ℕ)) → HasLast image last first before → (paths : List (List ℕ)) (p : PoolState) → Shows paths image p → p.objects ≡ before
  last_only image has paths p shows =
      one_meaning (store_of (view_of image first.table.slots first.space)) first.dir p.objects before
      (shown_objects paths image sizes last first p open_first from has.reads has.head shows (only_newest image last first.table.slots shows.seen has.newest shows.shown shows.root.uber shows.current) (devices_seen image last first.table.slots shows.seen has.newest shows.shown)) has.objects

  pub open_only : (stand : Stand) → LeavesLast last first before stand → ShowsOnly before stand
  open_only stand keeps image left paths p shows = last_only image (keeps image left.leaves) paths p shows

  open_either : (after : Objects) (stand : Stand) → LeavesLast last first before stand → ShowsEither before after stand
  open_either after stand keeps image left paths p shows = inl (open_only stand keeps image left paths p shows)

-- ---- a group, and the root behind it

-- The disks stand so that the last root is there, and nothing is pending, or was written, that it needs.
pub record Starts (sizes : List ℕ) (last : Uber) (first : OpenPool) (before : Objects) (begin start : Stand) (Allowed : PendingWrite → Type 0) : Type 0 where
  pub was : StandsLast sizes begin last first before
  pub from : GoesOnFrom last first
  pub alone : LeavesAlone sizes first Allowed
  pub pending : kept.IsPending sizes last first before begin was Allowed alone start
  pub clear : kept.KeepsClear sizes last first before begin was Allowed alone start.seen

module _ (sizes : List ℕ) (last : Uber) (first old : OpenPool) (before after : Objects) (begin : Stand) (start mid : World) (May : PendingWrite → Type 0) (s : Starts sizes last first before begin start.now May) (ready : IsOpen sizes old) (blocks : WritesOnly May start mid) where
  abbrev was : StandsLast sizes begin last first before
  was = s.was

  abbrev from : GoesOnFrom last first
  from = s.from

  abbrev Pending : Stand → Type 0
  Pending = kept.IsPending sizes last first before begin was May s.alone

  abbrev Clear : List (List ℕ) → Type 0
  Clear = kept.KeepsClear sizes last first before begin was May s.alone

  pending : Throughout Pending start mid × Pending mid.now
  pending = added_throughout Pending May (kept.pending_step sizes last first before begin was May s.alone) start mid blocks s.pending

  pub clear_mid : Clear mid.now.seen
  clear_mid = (added_throughout (λ (x : Stand). Clear x.seen) May (kept.seen_step sizes last first before begin was May s.alone) start mid blocks s.clear).1

  reads : HasLast mid.now.seen last first before
  reads = kept.last_kept sizes last first before begin was May s.alone mid.now.seen clear_mid

  pub newest_mid : IsNewestOn mid.now.seen last first.table.slots
  newest_mid = kept.newest_kept sizes last first before begin was May s.alone mid.now.seen clear_mid

  last_leaves : (stand : Stand) → Pending stand → ShowsEither before after stand
  last_leaves stand is = open_either sizes last first before was.ready from after stand (kept.leaves sizes last first before begin was May s.alone stand is)

  mid_sizes : map length mid.now.seen ≡ sizes
  mid_sizes = clear_mid.same_sizes ∙ was.sized

  -- while the group is open
  group_either : Throughout (ShowsEither before after) start mid
  group_either = weaker Pending (ShowsEither before after) start mid last_leaves pending.0

  -- and where nothing is done behind it
  pub still_either : (now : World) → IsStill mid now → Throughout (ShowsEither before after) start now
  still_either now unmoved = stays (ShowsEither before after) start mid now group_either unmoved (last_leaves mid.now pending.1)

  -- the root is published
  module _ (u : Uber) (next : OpenPool) (both all : List ℕ) (is : IsNextPool sizes mid.now.seen last u old next newest_mid.seen after) (in_both : (slot : ℕ) → Contains both slot → IsSlotInBoth (unwrap_or old.last u) u old.table.slots slot)
      (in_all : (slot : ℕ) → Contains all slot → IsSlotInBoth u u old.table.slots slot) where
    lawful : IsUber u
    lawful = is.lawful

    large_slot : (root : Uber) (sl : ℕ) → IsSlotInBoth root u old.table.slots sl → 8388608 ≤ whole (slice_index sizes sl)
    large_slot root sl h =
        let at = h.at_index in
        let known : h.index < u.count = ltb-true _ _ (and_left_of _ _ at.in_root) in
        let count = is.count in
        large sizes old ready h.index sl (omega (arith, known, count)) at.here

    big_both : (sl : ℕ) → Contains both sl → 8388608 ≤ whole (slice_index sizes sl)
    big_both sl has = large_slot (unwrap_or old.last u) sl (in_both sl has)

    big_all : (sl : ℕ) → Contains all sl → 8388608 ≤ whole (slice_index sizes sl)
    big_all sl has = large_slot u sl (in_all sl has)

    abbrev Putting : Stand → Type 0
    Putting = IsPutting sizes both all u lawful (uber_long u lawful) mid mid_sizes big_both big_all

    module _ (stand : Stand) (putting : Putting stand) (image : List (List ℕ)) (left : IsLeft stand image) where
      -- each address of a pool reads as before the root was put
      address_kept : (pool : OpenPool) → IsOpen sizes pool → (x : Dva) → address_bytes (view_of image pool.table.slots pool.space) x ≡ address_bytes (view_of mid.now.seen pool.table.slots pool.space) x
      address_kept pool pool_ready x =
          address_keeps sizes pool.table.slots (devices_in pool.space) (below_labels sizes pool pool_ready) u lawful mid.now.seen image
          (units_kept sizes both all u lawful (uber_long u lawful) mid mid_sizes big_both big_all pool.table.slots (devices_in pool.space) (below_labels sizes pool pool_ready) stand putting image left) x

      one : ShowsOneOf image last u first next
      one =
          torn_shows first next mid.now.seen image last u lawful is.txg newest_mid is.at
          (torn sizes both all u lawful (uber_long u lawful) mid mid_sizes big_both big_all stand putting image left)

      module _ (paths : List (List ℕ)) (p : PoolState) (shows : Shows paths image p) where
        is_before : shows.root.uber ≡ last → p.objects ≡ before
        is_before same =
            let stands_there = head_kept first mid.now.seen image (address_kept first was.ready) last.root last.len reads.head in
            one_meaning (store_of (view_of image first.table.slots first.space)) first.dir p.objects before
            (shown_objects paths image sizes last first p was.ready from (readable_stays mid.now.seen image first last (λ a meta. address_kept first was.ready a) reads.reads) stands_there shows same (one.before shows.seen shows.shown)) (objects_kept first mid.now.seen image (address_kept first was.ready) before reads.objects)

        is_after : shows.root.uber ≡ u → p.objects ≡ after
        is_after same =
            let stands_there = head_kept next mid.now.seen image (address_kept next is.ready) u.root u.len is.head in
            one_meaning (store_of (view_of image next.table.slots next.space)) next.dir p.objects after
            (shown_objects paths image sizes u next p is.ready is.from (readable_stays mid.now.seen image next u (λ a meta. address_kept next is.ready a) is.reads) stands_there shows same (one.after shows.seen shows.shown))
            (objects_kept next mid.now.seen image (address_kept next is.ready) after is.objects)

        either : (p.objects ≡ before) ⊎ (p.objects ≡ after)
        either = elim (one.one shows.seen shows.shown shows.root.uber shows.current) [
          | inl same ↦ inl (is_before same)
          | inr same ↦ inr (is_after same)
        ]

    -- at each moment while it is put
    put_either : (now : World) → Throughout Putting mid now → Throughout (ShowsEither before after) start now
    put_either now putting = joined (ShowsEither before after) start mid now group_either (weaker Putting (ShowsEither before after) mid now (λ stand put image left paths p shows. either stand put image left paths p shows) putting)

    pub whole_either : (now : World) → IsPublished sizes both all u mid now → Throughout (ShowsEither before after) start now
    whole_either now p = put_either now (putting_throughout sizes both all u lawful (uber_long u lawful) mid mid_sizes big_both big_all now p)

    pub part_either : (now : World) → IsPublishedInPart sizes both all u mid now → Throughout (ShowsEither before after) start now
    part_either now (inl unmoved) = still_either now unmoved
    part_either now (inr (inl p)) = put_either now (begun_throughout sizes both all u lawful (uber_long u lawful) mid mid_sizes big_both big_all p.first now p.before p.wrote)
    part_either now (inr (inr p)) = put_either now (almost_throughout sizes both all u lawful (uber_long u lawful) mid mid_sizes big_both big_all p.first p.half p.second p.before p.wrote p.between p.durable now p.rest)

-- so it is within a group
group_starts : (sizes : List ℕ) (last : Uber) (first old : OpenPool) (before : Objects) (begin start : Stand) (was : IsCommitted sizes begin last first before) → GoesOnFrom last first → StandsChanged first begin old start → Starts sizes last first before begin start (IsWriteInto Block first.table.slots first.space)
group_starts sizes last first old before begin start was from group = record {
  was = stands sizes last first before begin was;
  from = from;
  alone = alone sizes last first before begin was;
  pending = within_pending sizes last first before begin was old start group;
  clear = within_clear sizes last first before begin was old start group;
}

-- ---- a commit that succeeded

-- from where its lines began
early_either : (sizes : List ℕ) (last : Uber) (first old : OpenPool) (before after : Objects) (begin start : World) → IsCommitted sizes begin.now last first before → GoesOnFrom last first → IsInGroup first begin old start
    → Throughout (ShowsEither before after) begin start
early_either sizes last first old before after begin start was from group =
    weaker (LeavesLast last first before) (ShowsEither before after) begin start (open_either sizes last first before was.ready from after) (group_leaves sizes last first before begin start was group.written)

module _ (sizes : List ℕ) (last u : Uber) (first old new : OpenPool) (before after : Objects) (begin : Stand) (start mid now : World) (was : IsCommitted sizes begin last first before) (from : GoesOnFrom last first)
    (group : StandsInGroup first begin old start.now) (ready : IsOpen sizes old) (wrote : WritesIntoFree old start mid) (shown : IsShownFrom sizes old u mid now) (lawful : IsUber u) (is_next : IsNextOf last u) (done : IsCommitted sizes now.now u new after) (to : GoesOnFrom u new) (table : new.table ≡ first.table) where
  read_same : (x : Dva) → address_bytes (view_of mid.now.seen new.table.slots new.space) x ≡ address_bytes (view_of now.now.seen new.table.slots new.space) x
  read_same x = sym (published_bytes sizes shown.both shown.all u (Ok tt) mid now new done.ready lawful shown.published x)

  changed : StandsChanged first begin old start.now
  changed = in_group first begin old start.now group

  starts : Starts sizes last first before begin start.now (IsWriteInto Block first.table.slots first.space)
  starts = group_starts sizes last first old before begin start.now was from changed

  blocks : WritesOnly (IsWriteInto Block first.table.slots first.space) start mid
  blocks = within_writes first begin old start mid changed wrote

  abbrev newest : IsNewestOn mid.now.seen last first.table.slots
  newest = newest_mid sizes last first old before after begin start mid (IsWriteInto Block first.table.slots first.space) starts ready blocks

  same_rows : HasSameDevices last u
  same_rows = record { guid = is_next.guid; count = is_next.count; rows = λ d. row_same last.rows u.rows is_next.rows d }
    where
      row_same : (xs ys : List DevRow) → ys ≡ xs → (d : ℕ) → IsOneDevice (slice_index_or xs d no_row) (slice_index_or ys d no_row)
      row_same xs ys same d = record {
        added = ap (λ (rs : List DevRow). (slice_index_or rs d no_row).added) same;
        units = ap (λ (rs : List DevRow). (slice_index_or rs d no_row).units) same;
        gone = ap (λ (rs : List DevRow). is_gone (slice_index_or rs d no_row).state) same;
      }

  is_pool : IsNextPool sizes mid.now.seen last u old new newest.seen after
  is_pool = record {
    lawful = lawful;
    txg = is_next.txg;
    count = is_next.count ∙ (sym from.count ∙ ap (λ (t : Table). t.count) (sym group.table));
    ready = done.ready;
    from = to;
    reads = readable_stays now.now.seen mid.now.seen new u (λ a meta. read_same a) done.reads;
    at = at_alike newest.seen last u first.table.slots new.table.slots (ap (λ (t : Table). t.slots) table) same_rows newest.devices;
    head = head_kept new now.now.seen mid.now.seen read_same u.root u.len done.head;
    objects = objects_kept new now.now.seen mid.now.seen read_same after (objects_meant (Unit {0}) now.now.seen new after done.empty done.objects);
  }

  pub done_either : Throughout (ShowsEither before after) start now
  done_either = whole_either sizes last first old before after begin start mid (IsWriteInto Block first.table.slots first.space) starts ready blocks u new shown.both shown.all is_pool shown.in_both shown.in_all now shown.published

pub commit_either : (sizes : List ℕ) (last u : Uber) (first old new : OpenPool) (before after : Objects) (begin start mid now : World) → CommitsGroup sizes last u first old new before after begin start mid now → Throughout (ShowsEither before after) begin now
commit_either sizes last u first old new before after begin start mid now c =
    joined (ShowsEither before after) begin start now (early_either sizes last first old before after begin start c.was c.from c.group)
    (done_either sizes last u first old new before after begin.now start mid now c.was c.from (group_within sizes last first before begin old start c.was c.group) c.ready c.wrote c.shown c.lawful c.next c.done c.to c.table)

-- ---- a commit, wherever it stops

-- the pool goes on from its root through a group
pub within_from : (last : Uber) (first old : OpenPool) (begin start : Stand) → StandsInGroup first begin old start → GoesOnFrom last first → GoesOnFrom last old
within_from last first old begin start group from = record {
  last = group.last ∙ from.last;
  guid = group.guid ∙ from.guid;
  count = ap (λ (t : Table). t.count) group.table ∙ from.count;
  rows = ap (λ (t : Table). t.rows) group.table ∙ from.rows;
}

pub next_of : (sizes : List ℕ) (reset : Bool) (last u : Uber) (old : OpenPool) → IsOpen sizes old → GoesOnFrom last old → IsNextRoot old reset u → IsNextOf last u
next_of sizes reset last u old ready from next = record {
  txg = next.txg ∙ (subst (λ (o : Option Uber). IsAfter o old.group.txg) from.last ready.after).1;
  guid = next.guid ∙ from.guid;
  count = next.count ∙ from.count;
  rows = next.rows ∙ from.rows;
}

-- behind a commit the root can be read, where no device is gone, or what is told of the streams says so
pub stays_readable : (Told : Type 0) (sizes : List ℕ) (disks : List (List ℕ)) (old next : OpenPool) (u : Uber) → IsOpen sizes old → IsOpen sizes next → next.table ≡ old.table → StaysReadable old Told → (Told → TellsMoves disks next u.root u.len) → IsReadable disks next u
stays_readable Told sizes disks old next u ready after table (inl there) moves = inl (there_same sizes old next ready after table there)
stays_readable Told sizes disks old next u ready after table (inr told) moves = inr (moves told)

module _ (Told : Type 0) (sizes : List ℕ) (reset : Bool) (last : Uber) (first old : OpenPool) (before after : Objects) (begin : Stand) (start now : World) (was : IsCommitted sizes begin last first before) (from : GoesOnFrom last first)
    (group : StandsChanged first begin old start.now) (ready : IsOpen sizes old) (stays_so : StaysReadable old Told) where
  changed_starts : Starts sizes last first before begin start.now (IsWriteInto Block first.table.slots first.space)
  changed_starts = group_starts sizes last first old before begin start.now was from group

  wrote : (mid : World) → WritesIntoFree old start mid → WritesOnly (IsWriteInto Block first.table.slots first.space) start mid
  wrote mid blocks = within_writes first begin old start mid group blocks

  module _ (mid : World) (blocks : WritesIntoFree old start mid) (u : Uber) (lawful : IsUber u) (next_root : IsNextRoot old reset u) (leads : LeadsTo Told sizes mid.now.seen old u after) where
    abbrev newest_there : IsNewestOn mid.now.seen last first.table.slots
    newest_there = newest_mid sizes last first old before after begin start mid (IsWriteInto Block first.table.slots first.space) changed_starts ready (wrote mid blocks)

    same_table : leads.next.table ≡ old.table
    same_table = leads.same.table

    next_pool : IsNextPool sizes mid.now.seen last u old leads.next newest_there.seen after
    next_pool = record {
      lawful = lawful;
      txg = next_root.txg ∙ (subst (λ (o : Option Uber). IsAfter o old.group.txg) (group.devices.last ∙ from.last) ready.after).1;
      count = next_root.count;
      ready = leads.ready;
      from = goes_on old leads.next reset u leads.last next_root leads.same;
      reads = stays_readable Told sizes mid.now.seen old leads.next u ready leads.ready same_table stays_so leads.moves;
      at = at_alike newest_there.seen last u first.table.slots leads.next.table.slots (ap (λ (t : Table). t.slots) same_table ∙ group.devices.slots) (follows_devices reset last u first old from group.devices next_root) newest_there.devices;
      head = own_directory mid.now.seen leads.next u.root u.len leads.head;
      objects = objects_meant (Unit {0}) mid.now.seen leads.next after leads.empty leads.holds;
    }

    root_either : PublishesRoot sizes old u mid now → Throughout (ShowsEither before after) start now
    root_either (inl unmoved) = still_either sizes last first old before after begin start mid (IsWriteInto Block first.table.slots first.space) changed_starts ready (wrote mid blocks) now unmoved
    root_either (inr (inl part)) = part_either sizes last first old before after begin start mid (IsWriteInto Block first.table.slots first.space) changed_starts ready (wrote mid blocks) u leads.next part.both part.all next_pool part.in_both part.in_all now part.published
    root_either (inr (inr shown)) = whole_either sizes last first old before after begin start mid (IsWriteInto Block first.table.slots first.space) changed_starts ready (wrote mid blocks) u leads.next shown.both shown.all next_pool shown.in_both shown.in_all now shown.published

  pub stops_either : CommitsObjects Told sizes old reset after start now → Throughout (ShowsEither before after) start now
  stops_either (mid, blocks, inl unmoved) = still_either sizes last first old before after begin start mid (IsWriteInto Block first.table.slots first.space) changed_starts ready (wrote mid blocks) now unmoved
  stops_either (mid, blocks, inr (u, lawful, next_root, leads, published)) = root_either mid blocks u lawful next_root leads published

pub stopped_either : (Told : Type 0) (sizes : List ℕ) (reset : Bool) (last : Uber) (first old : OpenPool) (before after : Objects) (begin start now : World) → IsCommitted sizes begin.now last first before → GoesOnFrom last first
    → IsInGroup first begin old start → IsOpen sizes old → StaysReadable old Told → CommitsObjects Told sizes old reset after start now → Throughout (ShowsEither before after) begin now
stopped_either Told sizes reset last first old before after begin start now was from group ready stays_so commits =
    joined (ShowsEither before after) begin start now (early_either sizes last first old before after begin start was from group)
    (stops_either Told sizes reset last first old before after begin.now start now was from (in_group first begin.now old start.now (group_within sizes last first before begin old start was group)) ready stays_so commits)
