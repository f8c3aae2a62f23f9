-- Behind a commit that an import finds: its lines, and the next commit.
use Rattle.std.proofs.Common.{◌≡◌, inr, ℕ, Bool, true, List, [], length, map, None, Some, sym, ◌∙◌, subst}
use Rattle.zr_beside.specs.Beside.{Standing}
use Rattle.zr_current.specs.Current.{GoesOnFrom, HasSlots, IsShownFor}
use Rattle.zr_image.specs.Current.{slots_of}
use Rattle.zr_label.specs.declared.root.Uber.{Uber}
use Rattle.zr_model.specs.Objects.{Objects}
use Rattle.zr_newest.specs.Newest.{IsNewestOn}
use Rattle.zr_recorded.proofs.Behind.{head_new, serves_new, shown_new}
use Rattle.zr_recorded.proofs.Crashes.{pending_shows, shown_there}
use Rattle.zr_recorded.specs.Crashes.{ShowsPool}
use Rattle.zr_recorded.specs.Found.{StandsFound}
use Rattle.zr_recorded.specs.Service.{AreInService, IsWhole}
use Rattle.zr_rules.specs.Space.{role_at}
use Rattle.zr_shelf.proofs.Doings.{added_throughout}
use Rattle.zr_shelf.proofs.Runs.{weaker}
use Rattle.zr_shelf.specs.Disks.{Stand}
use Rattle.zr_shelf.specs.Moments.{Throughout, World}
use Rattle.zr_stops.proofs.Committing.{within_from}
use Rattle.zr_stops.proofs.Ending.{leaves_committed, newest_same}
use Rattle.zr_stops.proofs.Images.{Allowed, IsPending, KeepsClear, newest_kept, pending_step, within_clear, within_pending}
use Rattle.zr_stops.proofs.Within.{begins_within, in_group, line_within, same_within, within_writes}
use Rattle.zr_stops.specs.Behind.{AreSameDisks, StandsBehind, StandsChanged, StandsInGroup}
use Rattle.zr_stops.specs.Last.{IsCommitted}
use Rattle.zr_sync.specs.Ends.{EndsCommitted}
use Rattle.zr_sync.specs.Heads.{HasHead}
use Rattle.zr_sync.specs.Pools.{IsOpen}
use Rattle.zr_sync.specs.Trees.{HasLastTrees, HasTrees, head_tree}
use Rattle.zr_sync.specs.Trees.Stage.{Recorded}
use Rattle.zr_sync.specs.Writes.{WritesIntoFree}
use Rattle.zr_sync.specs.declared.open.OpenPool.{OpenPool}
use Rattle.zr_sync.specs.declared.open.Table.{Table}
use Rattle.zr_vdev.specs.Stores.{is_open_role}

-- the pool goes on from one root
one_root : (v u : Uber) (pool : OpenPool) → GoesOnFrom v pool → GoesOnFrom u pool → v ≡ u
one_root v u pool from other = let both : Some v ≡ Some u = sym from.last ∙ other.last in cc

-- ---- between two lines

module _ (sizes : List ℕ) (objects : Objects) (pool : OpenPool) (now : Stand) (h : StandsFound sizes objects pool now) where
  abbrev first : OpenPool
  first = h.behind.first

  abbrev root : Uber
  root = h.behind.root

  abbrev begin : Stand
  begin = h.behind.begin

  abbrev was : IsCommitted sizes begin root first objects
  was = h.behind.committed

  abbrev others : List Standing
  others = head_tree first.head h.trees.0

  abbrev changed : StandsChanged first begin pool now
  changed = in_group first begin pool now h.behind.within

  still_pending : IsPending sizes root first objects begin was now
  still_pending = within_pending sizes root first objects begin was pool now changed

  crash_finds : (paths : List (List ℕ)) (stand : Stand) → IsPending sizes root first objects begin was stand → ShowsPool paths objects stand
  crash_finds paths = pending_shows paths sizes root first objects others (Unit {0}) begin was h.behind.from h.serves h.unsaved h.shown h.head h.trees.1

  pub found_shows : (paths : List (List ℕ)) → ShowsPool paths objects now
  found_shows paths = crash_finds paths now still_pending

  -- the slots show what they showed
  clear : KeepsClear sizes root first objects begin was now.seen
  clear = within_clear sizes root first objects begin was pool now changed

  shown_first : IsShownFor now.seen root first
  shown_first = shown_there [] sizes root first objects others (Unit {0}) begin was h.behind.from h.serves h.unsaved h.shown h.head h.trees.1 now.seen clear

  shown_now : IsShownFor now.seen root pool
  shown_now = record {
    seen = shown_first.seen;
    shown = shown_first.shown;
    current = shown_first.current;
    slots = subst (λ (t : Table). HasSlots (slots_of root shown_first.seen) t.slots) (sym h.behind.within.table) shown_first.slots;
  }

  pub found_from : GoesOnFrom h.behind.root pool
  found_from = within_from root first pool begin now h.behind.within h.behind.from

  pub found_slots : (u : Uber) → GoesOnFrom u pool → IsShownFor now.seen u pool
  found_slots u from = subst (λ (v : Uber). IsShownFor now.seen v pool) (one_root root u pool found_from from) shown_now

  -- what stays in the group stays found
  within_found : (new : OpenPool) (later : Stand) → StandsInGroup first begin new later → StandsFound sizes objects new later
  within_found new later within = record {
    behind = record { first = first; root = root; begin = begin; committed = was; from = h.behind.from; within = within };
    serves = h.serves;
    unsaved = h.unsaved;
    shown = h.shown;
    head = h.head;
    trees = h.trees;
  }

  pub same_found : (later : Stand) → AreSameDisks now later → StandsFound sizes objects pool later
  same_found later same = within_found pool later (same_within first begin pool now later same h.behind.within)

-- ---- a line

module _ (sizes : List ℕ) (objects : Objects) (old : OpenPool) (start : World) (h : StandsFound sizes objects old start.now) where
  pub line_found : (new : OpenPool) (now : World) → WritesIntoFree old start now → ((d u : ℕ) → is_open_role (role_at new.space d u) ≡ true → is_open_role (role_at old.space d u) ≡ true) → new.table ≡ old.table → new.last ≡ old.last → new.guid ≡ old.guid → StandsFound sizes objects new now.now
  line_found new now wrote opens table last guid =
      within_found sizes objects old start.now h new now.now (line_within h.behind.first h.behind.begin old new start now h.behind.within wrote opens table last guid)

  pub line_finds : (paths : List (List ℕ)) (now : World) → WritesIntoFree old start now → Throughout (ShowsPool paths objects) start now
  line_finds paths now wrote =
      let b = h.behind in
      weaker (IsPending sizes b.root b.first objects b.begin b.committed) (ShowsPool paths objects) start now (crash_finds sizes objects old start.now h paths)
      (added_throughout (IsPending sizes b.root b.first objects b.begin b.committed) (Allowed sizes b.root b.first objects b.begin b.committed) (pending_step sizes b.root b.first objects b.begin b.committed) start now
      (within_writes b.first b.begin old start now (changed sizes objects old start.now h) wrote) (still_pending sizes objects old start.now h)).0

-- ---- a commit

pub stood_found : (sizes : List ℕ) (u : Uber) (pool : OpenPool) (objects : Objects) (now : Stand) → IsCommitted sizes now u pool objects → GoesOnFrom u pool → AreInService u pool → pool.saved ≡ None → IsShownFor now.seen u pool → HasHead now.seen pool u.root u.len → HasTrees Recorded (Unit {0}) now.seen pool
    → StandsFound sizes objects pool now
stood_found sizes u pool objects now was from serves unsaved shown head trees = record {
  behind = record { first = pool; root = u; begin = now; committed = was; from = from; within = begins_within sizes u pool objects now was };
  serves = serves;
  unsaved = unsaved;
  shown = shown;
  head = head;
  trees = trees;
}

pub commit_found : (sizes : List ℕ) (reset : Bool) (last : Uber) (old new : OpenPool) (objects : Objects) (before now : World) → IsOpen sizes old → GoesOnFrom last old → map length before.now.seen ≡ sizes → IsNewestOn before.now.seen last old.table.slots
    → IsShownFor before.now.seen last old → HasLastTrees before.now.seen old → EndsCommitted sizes reset old new objects before now → IsWhole new → new.saved ≡ None → StandsFound sizes objects new now.now
commit_found sizes reset last old new objects before now ready from sized newest shown had ends whole unsaved =
    let left = leaves_committed sizes reset last old new objects before now ready from sized newest (inr had) ends in
    stood_found sizes left.0 new objects now.now left.2 left.1 (serves_new sizes reset last old new objects before now ready from sized shown ends left.0 left.1 whole) unsaved
    (shown_new sizes reset last old new objects before now ready from sized shown ends left.0 left.1) (head_new sizes reset last old new objects before now ready from sized shown ends left.0 left.1) (ends.trees had)

-- behind whatever commit it is
module _ (sizes : List ℕ) (objects : Objects) (old : OpenPool) (start : World) (b : StandsBehind sizes objects old start.now) where
  stays_clear : KeepsClear sizes b.root b.first objects b.begin b.committed start.now.seen
  stays_clear = within_clear sizes b.root b.first objects b.begin b.committed old start.now (in_group b.first b.begin old start.now b.within)

  behind_newest : IsNewestOn start.now.seen b.root old.table.slots
  behind_newest = newest_same start.now.seen b.root b.first old b.within.table (newest_kept sizes b.root b.first objects b.begin b.committed start.now.seen stays_clear)

  pub behind_found : (reset : Bool) (after : Objects) (last : Uber) (new : OpenPool) (now : World) → IsOpen sizes old → GoesOnFrom last old
      → IsShownFor start.now.seen last old → HasLastTrees start.now.seen old → EndsCommitted sizes reset old new after start now → IsWhole new → new.saved ≡ None → StandsFound sizes after new now.now
  behind_found reset after last new now ready from shown had ends whole unsaved =
      let same = one_root b.root last old (within_from b.root b.first old b.begin start.now b.within b.from) from in
      commit_found sizes reset last old new after start now ready from (stays_clear.same_sizes ∙ b.committed.sized)
      (subst (λ (v : Uber). IsNewestOn start.now.seen v old.table.slots) same behind_newest) shown had ends whole unsaved

pub next_found : (sizes : List ℕ) (reset : Bool) (before after : Objects) (old new : OpenPool) (start now : World) → (h : StandsFound sizes before old start.now) → IsOpen sizes old → HasLastTrees start.now.seen old → EndsCommitted sizes reset old new after start now → IsWhole new → new.saved ≡ None → StandsFound sizes after new now.now
next_found sizes reset before after old new start now h ready had ends whole unsaved =
    let from = found_from sizes before old start.now h in
    behind_found sizes before old start h.behind reset after h.behind.root new now ready from (found_slots sizes before old start.now h h.behind.root from) had ends whole unsaved
