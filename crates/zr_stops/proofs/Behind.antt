-- The group behind a commit: its lines, and the commit that ends it.
use Rattle.std.proofs.Common.{◌≡◌, inl, ℕ, Bool, true, List, map, length, Option, ◌∙◌, subst}
use Rattle.std.specs.Prelude.{IfSome}
use Rattle.zr_current.specs.Current.{GoesOnFrom}
use Rattle.zr_label.specs.declared.root.Uber.{Uber}
use Rattle.zr_model.specs.Objects.{Objects}
use Rattle.zr_newest.specs.Newest.{IsNewestOn}
use Rattle.zr_rules.specs.Equation.{devices_in}
use Rattle.zr_rules.specs.Space.{role_at}
use Rattle.zr_shelf.proofs.Doings.{added_throughout}
use Rattle.zr_shelf.proofs.Runs.{weaker}
use Rattle.zr_shelf.specs.Disks.{Stand}
use Rattle.zr_shelf.specs.Moments.{Throughout, World}
use Rattle.zr_open.specs.There.{AreThere, IsReadable, StaysReadable, WillBeReadable}
use Rattle.zr_sync.specs.Commits.{IsNextRoot, IsShownFrom}
use Rattle.zr_sync.specs.Leads.{CommitsObjects}
use Rattle.zr_sync.specs.Objects.{HoldsObjects}
use Rattle.zr_sync.specs.Pools.{IsAfter, IsOpen}
use Rattle.zr_sync.specs.Writes.{WritesIntoFree}
use Rattle.zr_sync.specs.declared.open.OpenPool.{OpenPool}
use Rattle.zr_vdev.specs.Stores.{is_open_role}
use Rattle.zr_stops.proofs.Committing.{done_either, next_of, open_only, stops_either, within_from}
use Rattle.zr_stops.proofs.Ending.{ends_committed, leaves_committed, newest_same}
use Rattle.zr_stops.proofs.Images.{Allowed, IsPending, KeepsClear, newest_kept, pending_leaves, pending_step, within_clear, within_pending}
use Rattle.zr_stops.proofs.Within.{begins_within, group_changed, in_group, line_within, within_writes}
use Rattle.zr_stops.specs.Behind.{ShowsOnly, StandsBehind, StandsChanged}
use Rattle.zr_stops.specs.Either.{ShowsEither}
use Rattle.zr_sync.specs.Ends.{ComesCommitted, EndsCommitted, LeavesCommitted}
use Rattle.zr_sync.specs.Heads.{HasDirectory, HasSafeHead}
use Rattle.zr_last.specs.Last.{KeepsDevices, ShowsLast}
use Rattle.zr_stops.specs.Last.{IsCommitted}

pub begins_behind : (sizes : List ℕ) (u : Uber) (pool : OpenPool) (objects : Objects) (now : Stand) → IsCommitted sizes now u pool objects → GoesOnFrom u pool → StandsBehind sizes objects pool now
begins_behind sizes u pool objects now was from = record { first = pool; root = u; begin = now; committed = was; from = from; within = begins_within sizes u pool objects now was }

module _ (sizes : List ℕ) (objects : Objects) (old : OpenPool) (start : World) (h : StandsBehind sizes objects old start.now) where
  pub line_behind : (new : OpenPool) (now : World) → WritesIntoFree old start now → ((d u : ℕ) → is_open_role (role_at new.space d u) ≡ true → is_open_role (role_at old.space d u) ≡ true) → new.table ≡ old.table → new.last ≡ old.last → new.guid ≡ old.guid → StandsBehind sizes objects new now.now
  line_behind new now wrote opens table last guid = record {
    first = h.first;
    root = h.root;
    begin = h.begin;
    committed = h.committed;
    from = h.from;
    within = line_within h.first h.begin old new start now h.within wrote opens table last guid;
  }

  abbrev changed : StandsChanged h.first h.begin old start.now
  changed = in_group h.first h.begin old start.now h.within

  -- what a crash leaves while a line writes
  pub line_shows : (now : World) → WritesIntoFree old start now → Throughout (ShowsOnly objects) start now
  line_shows now wrote =
      weaker (IsPending sizes h.root h.first objects h.begin h.committed) (ShowsOnly objects) start now
      (λ stand is. open_only sizes h.root h.first objects h.committed.ready h.from stand (pending_leaves sizes h.root h.first objects h.begin h.committed stand is))
      (added_throughout (IsPending sizes h.root h.first objects h.begin h.committed) (Allowed sizes h.root h.first objects h.begin h.committed) (pending_step sizes h.root h.first objects h.begin h.committed) start now
      (within_writes h.first h.begin old start now changed wrote) (within_pending sizes h.root h.first objects h.begin h.committed old start.now changed)).0

  abbrev clear : KeepsClear sizes h.root h.first objects h.begin h.committed start.now.seen
  clear = within_clear sizes h.root h.first objects h.begin h.committed old start.now changed

  old_from : GoesOnFrom h.root old
  old_from = within_from h.root h.first old h.begin start.now h.within h.from

  old_sized : map length start.now.seen ≡ sizes
  old_sized = clear.same_sizes ∙ h.committed.sized

  old_newest : IsNewestOn start.now.seen h.root old.table.slots
  old_newest = newest_same start.now.seen h.root h.first old h.within.table (newest_kept sizes h.root h.first objects h.begin h.committed start.now.seen clear)

  module _ (ready : IsOpen sizes old) (reset : Bool) (after : Objects) (now : World) where
    pub stop_shows : (Told : Type 0) → StaysReadable old Told → CommitsObjects Told sizes old reset after start now → Throughout (ShowsEither objects after) start now
    stop_shows Told stays commits = stops_either Told sizes reset h.root h.first old objects after h.begin start now h.committed h.from (in_group h.first h.begin old start.now h.within) ready stays commits

    module _ (new : OpenPool) (told : WillBeReadable start.now.seen old) (ends : EndsCommitted sizes reset old new after start now) where
      then_committed : (u : Uber) × GoesOnFrom u new × IsCommitted sizes now.now u new after
      then_committed = leaves_committed sizes reset h.root old new after start now ready old_from old_sized old_newest told ends

      table : new.table ≡ h.first.table
      table = ends.same.table ∙ h.within.table

      pub commit_behind : StandsBehind sizes after new now.now
      commit_behind = begins_behind sizes then_committed.0 new after now.now then_committed.2 then_committed.1

      -- what it leaves
      pub commit_stands : (u : Uber) × GoesOnFrom u new × IsCommitted sizes now.now u new after
      commit_stands = then_committed

      pub commit_shows : Throughout (ShowsEither objects after) start now
      commit_shows =
          let c = then_committed in
          let is = subst (λ (o : Option Uber). IfSome o (IsNextRoot old reset)) c.1.last ends.last in
          let done = subst (λ (o : Option Uber). IfSome o (λ (v : Uber). (mid : World) × WritesIntoFree old start mid × IsShownFrom sizes old v mid now)) c.1.last ends.written in
          done_either sizes h.root c.0 h.first old new objects after h.begin start done.0 now h.committed h.from h.within ready done.1 done.2
          (subst (λ (o : Option Uber). IsAfter o new.group.txg) c.1.last ends.pool.after).0 (next_of sizes reset h.root c.0 old ready old_from is) c.2 c.1 table

  -- and while a pool is committed that a line made of it in memory
  module _ (turned : OpenPool) (keeps : KeepsDevices old turned) (opens : (d u : ℕ) → is_open_role (role_at turned.space d u) ≡ true → is_open_role (role_at old.space d u) ≡ true) (ready : IsOpen sizes turned) (reset : Bool) (after : Objects) (now : World) where
    pub turn_shows : (Told : Type 0) → StaysReadable turned Told → CommitsObjects Told sizes turned reset after start now → Throughout (ShowsEither objects after) start now
    turn_shows Told stays commits = stops_either Told sizes reset h.root h.first turned objects after h.begin start now h.committed h.from (group_changed h.first h.begin old turned start.now h.within keeps opens) ready stays commits

-- what a crash leaves between two lines
pub behind_shows : (sizes : List ℕ) (objects : Objects) (pool : OpenPool) (now : Stand) → StandsBehind sizes objects pool now → ShowsOnly objects now
behind_shows sizes objects pool now h = open_only sizes h.root h.first objects h.committed.ready h.from now (pending_leaves sizes h.root h.first objects h.begin h.committed now (within_pending sizes h.root h.first objects h.begin h.committed pool now (in_group h.first h.begin pool now h.within)))

-- the first commit of which it is known
pub shown_behind : (sizes : List ℕ) (reset : Bool) (last : Uber) (old new : OpenPool) (objects : Objects) (before now : World) → IsOpen sizes old → GoesOnFrom last old → map length before.now.seen ≡ sizes → IsNewestOn before.now.seen last old.table.slots → WillBeReadable before.now.seen old
    → EndsCommitted sizes reset old new objects before now → StandsBehind sizes objects new now.now
shown_behind sizes reset last old new objects before now ready from sized was told ends =
    let c = leaves_committed sizes reset last old new objects before now ready from sized was told ends in
    begins_behind sizes c.0 new objects now.now c.2 c.1

-- the first commit of all, after which the disks show its root
pub made_behind : (sizes : List ℕ) (pool : OpenPool) (objects : Objects) (now : World) → ComesCommitted sizes pool objects now → ShowsLast now.now.seen pool → map length now.now.seen ≡ sizes → AreThere (devices_in pool.space) → StandsBehind sizes objects pool now.now
made_behind sizes pool objects now comes shows sized on =
    begins_behind sizes shows.root pool objects now.now (ends_committed sizes true comes.blank pool objects comes.before now comes.commits shows sized (inl on)) shows.from

-- a pool that stands as a commit left it, on disks that show its last root
pub left_behind : (sizes : List ℕ) (objects : Objects) (pool : OpenPool) (now : Stand) → IsOpen sizes pool → map length now.seen ≡ sizes → ShowsLast now.seen pool → LeavesCommitted pool now → HoldsObjects (Unit {0}) now.seen pool objects → ((u : Uber) → GoesOnFrom u pool → IsReadable now.seen pool u)
    → StandsBehind sizes objects pool now
left_behind sizes objects pool now ready sized shows leaves holds reads =
    begins_behind sizes shows.root pool objects now
    (record {
      ready = ready;
      empty = leaves.empty;
      settled = leaves.settled;
      rest = leaves.rest;
      sized = sized;
      newest = shows.newest;
      head = subst (λ (o : Option Uber). IfSome o (λ (u : Uber). HasDirectory now.seen pool u.root u.len)) shows.from.last leaves.head;
      safe = subst (λ (o : Option Uber). IfSome o (λ (u : Uber). HasSafeHead now.seen pool u.root u.len)) shows.from.last leaves.safe;
      objects = holds;
      reads = reads shows.root shows.from;
    })
    shows.from
