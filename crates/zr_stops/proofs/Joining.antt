-- While a device joins a pool, a crash shows the objects that were committed before it.
use Rattle.std.proofs.Common.{◌≡◌, ◌≢◌, ◌⊎◌, inl, inr, ℕ, ◌+◌, ◌<◌, ◌≤◌, Bool, true, false, List, [], map, length, Option, Some, None, Ok, refl, sym, ◌∙◌, ap, subst, arith, ⊎_elim}
use Rattle.std.specs.Prelude.{◌==◌, ◌&&◌, nat_lt, if◌then◌else◌, slice_index_or}
use Rattle.std.proofs.lemmas.Bool.{cases_eq, cases_lt, eqb-true}
use Rattle.std.proofs.lemmas.List.{get_or-set_other, get_or-set_same}
use Rattle.std.proofs.Math.ListN.{get_or-eq_default}
use Rattle.zr_base.specs.declared.space.DevPart.{DevPart}
use Rattle.zr_base.specs.declared.space.DevRow.{DevRow}
use Rattle.zr_create.proofs.Lasting.{next_joins}
use Rattle.zr_create.specs.Adding.{AddsBehind, AddsInPart, CommitsNext, IsNextSlot, PreparesNext}
use Rattle.zr_create.specs.Devices.{TakesOn, new_row, next_label}
use Rattle.zr_current.proofs.Committed.{goes_on}
use Rattle.zr_current.specs.Current.{GoesOnFrom}
use Rattle.zr_image.specs.Current.{is_device}
use Rattle.zr_label.specs.Blocks.{IsUber, no_row}
use Rattle.zr_label.specs.declared.root.Label.{Label}
use Rattle.zr_label.specs.declared.root.Seen.{Seen}
use Rattle.zr_label.specs.declared.root.Uber.{Uber}
use Rattle.zr_model.specs.Objects.{Objects}
use Rattle.zr_newest.proofs.Kept.{labels_on}
use Rattle.zr_newest.proofs.Prepared.{devices_joined, labels_with, other_label, with_label}
use Rattle.zr_newest.proofs.Seen.{one_label_at, past_device, slots_same}
use Rattle.zr_newest.specs.Newest.{AreAt, HaveLabels, IsNewestOn}
use Rattle.zr_open.proofs.Left.{objects_meant}
use Rattle.zr_open.specs.There.{AreThere, IsReadable, StaysReadable, WillBeReadable}
use Rattle.zr_rules.specs.Equation.{devices_in}
use Rattle.zr_rules.specs.Places.{is_gone, no_part, part_of}
use Rattle.zr_rules.specs.Roles.{Role}
use Rattle.zr_rules.specs.Roles.Role.{Free}
use Rattle.zr_rules.specs.Space.{role_at}
use Rattle.zr_shelf.proofs.Runs.{joined, weaker}
use Rattle.zr_shelf.specs.Disks.{PendingWrite, Stand}
use Rattle.zr_shelf.specs.Moments.{IsStill, Throughout, World}
use Rattle.zr_sync.proofs.Ending.{own_directory}
use Rattle.zr_sync.specs.Commits.{IsNextRoot, PublishesRoot}
use Rattle.zr_sync.specs.Leads.{CommitsObjects, LeadsTo}
use Rattle.zr_sync.specs.Pools.{IsAfter, IsOpen}
use Rattle.zr_sync.specs.Trees.{HasLastTrees}
use Rattle.zr_sync.specs.Writes.{WritesIntoFree}
use Rattle.zr_sync.specs.declared.open.OpenPool.{OpenPool}
use Rattle.zr_sync.specs.declared.open.Table.{Table}
use Rattle.zr_txg.specs.declared.group.Group.{Group}
use Rattle.zr_vdev.specs.Stores.{IsWriteInto, is_open_role}
use Rattle.zr_vdev.specs.declared.kind.Kind.TheVariants.{Block}
use Rattle.zr_view.specs.Views.{slot_of}
use Rattle.zr_stops.proofs.Behind.{behind_shows, commit_behind, commit_shows, commit_stands, stop_shows}
use Rattle.zr_stops.proofs.Committing.{IsNextPool, Starts, clear_mid, newest_mid, part_either, still_either, there_same, whole_either}
use Rattle.zr_stops.proofs.Kept as kept
use Rattle.zr_stops.proofs.Kept.{LeavesAlone, StandsLast, into_unit, own_alone}
use Rattle.zr_stops.proofs.Labelling.{prepares_only, prepares_stands}
use Rattle.zr_stops.specs.Behind.{ShowsOnly, StandsBehind}
use Rattle.zr_stops.specs.Either.{ShowsEither}
use Rattle.zr_stops.specs.Last.{IsCommitted}

-- these or those are these where both are the same
only_either : (objects : Objects) (stand : Stand) → ShowsOnly objects stand → ShowsEither objects objects stand
only_either objects stand only image left paths p shows = inl (only image left paths p shows)

none_some : (n : ℕ) → None ≡ Some n → ⊥
none_some n e = cc

-- ---- a device more

module _ (sizes : List ℕ) (u : Uber) (b c : OpenPool) (slot units : ℕ) (ready_b : IsOpen sizes b) (ready_c : IsOpen sizes c) (took : TakesOn slot units b c) (free : (d : ℕ) → slot_of b.table.slots d ≢ Some slot) (few : b.table.count < 32) where
  count_is : c.table.count ≡ b.table.count + 1
  count_is = ap (λ (t : Table). t.count) took.table

  room : b.table.count < length b.table.rows
  room = let size = ready_b.table.size in let low = few in omega (arith, size, low)

  places : b.table.count < length b.table.slots
  places = let size = ready_b.slots in let low = few in omega (arith, size, low)

  old_slot : (d : ℕ) → d ≢ b.table.count → slot_of c.table.slots d ≡ slot_of b.table.slots d
  old_slot d other = ap (λ (t : Table). slot_of t.slots d) took.table ∙ get_or-set_other b.table.slots b.table.count d (Some slot) None other

  old_row : (d : ℕ) → d ≢ b.table.count → slice_index_or c.table.rows d no_row ≡ slice_index_or b.table.rows d no_row
  old_row d other = ap (λ (t : Table). slice_index_or t.rows d no_row) took.table ∙ get_or-set_other b.table.rows b.table.count d (new_row units b.group.txg) no_row other

  own_row : slice_index_or c.table.rows b.table.count no_row ≡ new_row units b.group.txg
  own_row = ap (λ (t : Table). slice_index_or t.rows b.table.count no_row) took.table ∙ get_or-set_same b.table.rows b.table.count (new_row units b.group.txg) no_row room

  -- the units of the other devices stay
  role_same : (d v : ℕ) → d ≢ b.table.count → role_at c.space d v ≡ role_at b.space d v
  role_same d v other = took.space.roles d v ∙ by_test (d == length b.space.parts.devs) refl
    where
      by_test : (t : Bool) → (d == length b.space.parts.devs) ≡ t → (if (d == length b.space.parts.devs) && nat_lt v units then Free else role_at b.space d v) ≡ role_at b.space d v
      by_test true is = absurd (other (eqb-true d (length b.space.parts.devs) is ∙ ready_b.devices))
      by_test false is = ap (λ (t : Bool). if t && nat_lt v units then Free else role_at b.space d v) is

  module _ (seen : List Seen) (count : b.table.count ≡ u.count) (devices : AreAt b.table.slots u seen) where
    -- one that has a slot is not the new one
    has_slot : (d sl : ℕ) → slot_of b.table.slots d ≡ Some sl → d ≢ b.table.count
    has_slot d sl is same = none_some sl (sym (devices d ∙ past_device u seen d (let n = count in omega (arith, n, same))) ∙ is)

    -- what the pool with the device may write leaves alone what was there before
    grown_alone : LeavesAlone sizes b (IsWriteInto Block c.table.slots c.space)
    grown_alone = record {
      units = λ d v sl is closed.
          let other = has_slot d sl is in
          into_unit c.table.slots c.space d v sl (λ e same. ready_c.mounted.apart e d sl same (old_slot d other ∙ is)) (subst (λ (r : Role). is_open_role r ≡ false) (sym (role_same d v other)) closed);
      aside = (own_alone sizes c ready_c).aside;
    }

  -- where no device was gone, none is
  grown_there : (next : OpenPool) → IsOpen sizes next → next.table ≡ c.table → AreThere (devices_in b.space) → AreThere (devices_in next.space)
  grown_there next ready table on d = elim (cases_eq d b.table.count) [
    | inl here ↦ row_is d (omega (arith, here, count_is, n)) ∙ (ap (λ (k : ℕ). is_gone (slice_index_or c.table.rows k no_row).state) here ∙ ap (λ (r : DevRow). is_gone r.state) own_row)
    | inr other ↦ elim (cases_lt d b.table.count) [
      | inl lt ↦ row_is d (omega (arith, lt, count_is, n)) ∙ (ap (λ (r : DevRow). is_gone r.state) (old_row d other) ∙ (sym (ap (λ (r : DevRow). is_gone r.state) (ready_b.rows d lt)) ∙ on d))
      | inr ge ↦
          let k = ready.devices in let m = ready_b.devices in let more = count_is in let same = n in
          ap (λ (p : DevPart). is_gone p.row.state) (get_or-eq_default next.space.parts.devs no_part {n = d} (omega (arith, k, ge, other, more, same)))
          ∙ (sym (ap (λ (p : DevPart). is_gone p.row.state) (get_or-eq_default b.space.parts.devs no_part {n = d} (omega (arith, m, ge)))) ∙ on d)
    ]
  ]
    where
      n : next.table.count ≡ c.table.count
      n = ap (λ (t : Table). t.count) table

      row_is : (e : ℕ) → e < next.table.count → is_gone (part_of next.space.parts.devs e).row.state ≡ is_gone (slice_index_or c.table.rows e no_row).state
      row_is e lt = ap (λ (r : DevRow). is_gone r.state) (ready.rows e lt) ∙ ap (λ (t : Table). is_gone (slice_index_or t.rows e no_row).state) table

-- ---- behind a commit

module _ (sizes : List ℕ) (u : Uber) (b : OpenPool) (objects : Objects) (w2 : World) (was : IsCommitted sizes w2.now u b objects) (from : GoesOnFrom u b) (Told : Type 0) (stays : StaysReadable b Told) (slot units : ℕ) (next : IsNextSlot sizes w2.now.seen b slot units) where
  abbrev label : Label
  label = next_label b units

  apart : (d : ℕ) → d < u.count → is_device u d (Some label) ≡ false
  apart d lt = other_label d label u (λ guid index added. let n = from.count in omega (arith, index, lt, n))

  -- while the slot is prepared
  preparing : (now : World) → PreparesNext sizes slot units b w2 now → Throughout (ShowsOnly objects) w2 now
  preparing now (r, prepares) = prepares_only sizes u b objects w2.now was from slot next.known label next.lawful next.used next.free apart r w2 now refl prepares

  module _ (now : World) (h : CommitsNext Told sizes objects slot units b w2 now) where
    abbrev w3 : World
    w3 = h.labelled

    abbrev c : OpenPool
    c = h.taken

    abbrev May : PendingWrite → Type 0
    May = IsWriteInto Block c.table.slots c.space

    stood : StandsLast sizes w3.now u b objects
    stood = prepares_stands sizes u b objects w2.now was from slot next.known label next.lawful next.used next.free apart w2 w3 refl h.prepared h.labels

    alone : LeavesAlone sizes b May
    alone = grown_alone sizes u b c slot units was.ready h.ready h.takes next.free next.few was.newest.seen from.count was.newest.devices

    starts : Starts sizes u b objects w3.now w3.now May
    starts = record {
      was = stood;
      from = from;
      alone = alone;
      pending = kept.pending_start sizes u b objects w3.now stood May alone;
      clear = kept.seen_start sizes u b objects w3.now stood May alone;
    }

    module _ (mid : World) (blocks : WritesIntoFree c w3 mid) (v : Uber) (lawful : IsUber v) (next_root : IsNextRoot c true v) (leads : LeadsTo Told sizes mid.now.seen c v objects) where
      abbrev newest : IsNewestOn mid.now.seen u b.table.slots
      newest = newest_mid sizes u b c objects objects w3.now w3 mid May starts h.ready blocks

      abbrev grown_seen : List Seen
      grown_seen = with_label was.newest.seen slot label

      -- the labels are those that the slots showed when the slot was prepared
      labels_now : HaveLabels mid.now.seen grown_seen
      labels_now =
          labels_on w3.now.seen mid.now.seen (kept.rings_still sizes u b objects w3.now starts.was May starts.alone mid.now.seen (clear_mid sizes u b c objects objects w3.now w3 mid May starts h.ready blocks)).labels grown_seen
          (labels_with w2.now.seen w3.now.seen slot label h.labels was.newest.seen was.newest.labels)

      table : leads.next.table ≡ c.table
      table = leads.same.table

      places_now : AreAt leads.next.table.slots v newest.seen
      places_now d =
          let joins = next_joins sizes w2.now.seen u v b c slot units was.ready from next.few next.free h.takes next.alone next_root in
          ap (λ (t : Table). slot_of t.slots d) table
          ∙ (devices_joined w2.now.seen w3.now.seen slot label h.labels was.newest.seen was.newest.labels u v b.table.slots c.table.slots was.newest.devices joins d
          ∙ ap (λ (these : List (Option ℕ)). slot_of these d) (slots_same grown_seen newest.seen (labels_now.count ∙ sym newest.labels.count) (one_label_at mid.now.seen grown_seen newest.seen labels_now newest.labels) v))

      by_stays : StaysReadable b Told → IsReadable mid.now.seen leads.next v
      by_stays (inl there) = inl (grown_there sizes u b c slot units was.ready h.ready h.takes next.free next.few leads.next leads.ready table there)
      by_stays (inr told) = inr (leads.moves told)

      is_pool : IsNextPool sizes mid.now.seen u v c leads.next newest.seen objects
      is_pool = record {
        lawful = lawful;
        txg = next_root.txg ∙ (ap (λ (g : Group). g.txg) h.takes.group ∙ (subst (λ (o : Option Uber). IsAfter o b.group.txg) from.last was.ready.after).1);
        count = next_root.count;
        ready = leads.ready;
        from = goes_on c leads.next true v leads.last next_root leads.same;
        reads = by_stays stays;
        at = places_now;
        head = own_directory mid.now.seen leads.next v.root v.len leads.head;
        objects = objects_meant (Unit {0}) mid.now.seen leads.next objects leads.empty leads.holds;
      }

      root_same : PublishesRoot sizes c v mid now → Throughout (ShowsEither objects objects) w3 now
      root_same (inl unmoved) = still_either sizes u b c objects objects w3.now w3 mid May starts h.ready blocks now unmoved
      root_same (inr (inl part)) = part_either sizes u b c objects objects w3.now w3 mid May starts h.ready blocks v leads.next part.both part.all is_pool part.in_both part.in_all now part.published
      root_same (inr (inr shown)) = whole_either sizes u b c objects objects w3.now w3 mid May starts h.ready blocks v leads.next shown.both shown.all is_pool shown.in_both shown.in_all now shown.published

    commit_same : CommitsObjects Told sizes c true objects w3 now → Throughout (ShowsEither objects objects) w3 now
    commit_same (mid, blocks, inl unmoved) = still_either sizes u b c objects objects w3.now w3 mid May starts h.ready blocks now unmoved
    commit_same (mid, blocks, inr (v, lawful, next_root, leads, published)) = root_same mid blocks v lawful next_root leads published

    joining : Throughout (ShowsEither objects objects) w2 now
    joining = joined (ShowsEither objects objects) w2 w3 now (weaker (ShowsOnly objects) (ShowsEither objects objects) w2 w3 (only_either objects) (preparing w3 (Ok tt, h.prepared))) (commit_same h.commits)

  next_same : (now : World) → PreparesNext sizes slot units b w2 now ⊎ CommitsNext Told sizes objects slot units b w2 now → Throughout (ShowsEither objects objects) w2 now
  next_same now (inl prepares) = weaker (ShowsOnly objects) (ShowsEither objects objects) w2 now (only_either objects) (preparing now prepares)
  next_same now (inr commits) = joining now commits

-- ---- the line

module _ (sizes : List ℕ) (before after : Objects) (slot : ℕ) (old : OpenPool) (ready : IsOpen sizes old) where
  second : (stand : Stand) → ShowsEither after after stand → ShowsEither before after stand
  second stand shows image left paths p is = ⊎_elim (λ same. inr same) (λ same. inr same) (shows image left paths p is)

  first_only : (stand : Stand) → ShowsOnly before stand → ShowsEither before after stand
  first_only stand only image left paths p shows = inl (only image left paths p shows)

  unmoved : (start now : World) → StandsBehind sizes before old start.now → IsStill start now → Throughout (ShowsEither before after) start now
  unmoved start now h still = weaker (λ s. s ≡ start.now) (ShowsEither before after) start now (λ s same. subst (ShowsEither before after) (sym same) (first_only start.now (behind_shows sizes before old start.now h))) still.since

  -- no device went in the first commit
  still_told : (start : World) {now : World} (more : AddsBehind sizes after slot old start now) → WillBeReadable start.now.seen old → StaysReadable more.ended (HasLastTrees start.now.seen old)
  still_told start more (inl there) = inl (there_same sizes old more.ended ready more.first.pool more.first.same.table there)
  still_told start more (inr trees) = inr trees

  from_there : (start now : World) → StandsBehind sizes before old start.now → WillBeReadable start.now.seen old → IsStill start now ⊎ (CommitsObjects (HasLastTrees start.now.seen old) sizes old false after start now ⊎ AddsBehind sizes after slot old start now) → Throughout (ShowsEither before after) start now
  from_there start now h told (inl still) = unmoved start now h still
  from_there start now h told (inr (inl commits)) = stop_shows sizes before old start h ready false after now (HasLastTrees start.now.seen old) told commits
  from_there start now h told (inr (inr more)) =
      let stood = commit_stands sizes before old start h ready false after more.mid more.ended told more.first in
      joined (ShowsEither before after) start more.mid now (commit_shows sizes before old start h ready false after more.mid more.ended told more.first)
      (weaker (ShowsEither after after) (ShowsEither before after) more.mid now second (next_same sizes stood.0 more.ended after more.mid stood.2 stood.1 (HasLastTrees start.now.seen old) (still_told start more told) slot more.units more.next now more.rest))

  -- at each moment of it, whatever an honest crash shows are the objects that were committed last, or those that the line commits
  pub adds_show : (start now : World) → StandsBehind sizes before old start.now → WillBeReadable start.now.seen old → AddsInPart sizes after slot old start now → Throughout (ShowsEither before after) start now
  adds_show start now h told (checked, still, rest) = joined (ShowsEither before after) start checked now (unmoved start checked h still) (from_there checked now (subst (StandsBehind sizes before old) (sym still.now) h) (subst (λ (s : Stand). WillBeReadable s.seen old) (sym still.now) told) rest)
