-- A commit leaves the pool committed, and so does one commit after another.
use Rattle.std.proofs.Common.{◌≡◌, inl, inr, ℕ, zero, suc, ◌<◌, ◌≤◌, Bool, List, [], ◌∷◌, map, length, Option, Some, None, refl, sym, ◌∙◌, subst, arith}
use Rattle.std.specs.Prelude.{IfSome, slice_index, unwrap_or}
use Rattle.std.proofs.lemmas.Bool.{ltb-true}
use Rattle.zr_chain.proofs.Ways.{and_left_of}
use Rattle.zr_current.proofs.Committed.{goes_on, large, sizes_kept}
use Rattle.zr_current.specs.Current.{GoesOnFrom}
use Rattle.zr_label.specs.Blocks.{IsUber}
use Rattle.zr_label.specs.Geometry.{whole}
use Rattle.zr_label.specs.declared.root.Uber.{Uber}
use Rattle.zr_last.proofs.Lasting.{commit_last}
use Rattle.zr_last.specs.Last.{ShowsLast}
use Rattle.zr_model.specs.Objects.{Objects}
use Rattle.zr_newest.specs.Newest.{IsNewestOn}
use Rattle.zr_open.specs.There.{IsReadable, WillBeReadable}
use Rattle.zr_shelf.proofs.Doings.{flushed_at_rest}
use Rattle.zr_shelf.proofs.Runs.{joined, started, weaker}
use Rattle.zr_shelf.specs.Disks.{Stand}
use Rattle.zr_shelf.specs.Moments.{Throughout, World}
use Rattle.zr_slots.specs.Tables.{IsSlotInBoth}
use Rattle.zr_sync.proofs.Rings.{uber_long}
use Rattle.zr_last.proofs.Ending.{some_last}
use Rattle.zr_sync.specs.Commits.{IsNextRoot, IsShownFrom}
use Rattle.zr_sync.specs.Heads.{HasHead, HasSafeHead}
use Rattle.zr_sync.specs.Moves.{TellsMoves}
use Rattle.zr_sync.specs.Pools.{IsAfter, IsOpen}
use Rattle.zr_sync.specs.Trees.{HasLastTrees}
use Rattle.zr_sync.specs.Writes.{WritesIntoFree}
use Rattle.zr_sync.specs.declared.open.OpenPool.{OpenPool}
use Rattle.zr_sync.specs.declared.open.Table.{Table}
use Rattle.zr_stops.proofs.Committing.{commit_either, next_of, stays_readable, within_from}
use Rattle.zr_sync.proofs.Ending.{own_directory}
use Rattle.zr_stops.proofs.Images.{group_reads, group_sizes}
use Rattle.zr_stops.proofs.Putting.{base_end}
use Rattle.zr_stops.proofs.Within.{group_within}
use Rattle.zr_stops.specs.Either.{ShowsEither}
use Rattle.zr_sync.specs.Ends.{EndsCommitted}
use Rattle.zr_stops.specs.Follows.{Commit, FollowOn, IsNextCommit, ShowsAmong, Stood, last_of}
use Rattle.zr_stops.specs.Last.{IsCommitted}

-- ---- a commit

-- the newest root is so for a pool with the same devices
pub newest_same : (disks : List (List ℕ)) (u : Uber) (x y : OpenPool) → y.table ≡ x.table → IsNewestOn disks u x.table.slots → IsNewestOn disks u y.table.slots
newest_same disks u x y table is = subst (λ (t : Table). IsNewestOn disks u t.slots) (sym table) is

-- the pool goes on from one root
one_from : (v u : Uber) (pool : OpenPool) → GoesOnFrom v pool → pool.last ≡ Some u → v ≡ u
one_from v u pool from is = let both : Some v ≡ Some u = sym from.last ∙ is in cc

module _ (sizes : List ℕ) (reset : Bool) (last u : Uber) (old new : OpenPool) (objects : Objects) (before now : World) (ready : IsOpen sizes old) (from : GoesOnFrom last old) (sized : map length before.now.seen ≡ sizes) (was : IsNewestOn before.now.seen last old.table.slots)
    (told : WillBeReadable before.now.seen old) (h : EndsCommitted sizes reset old new objects before now) (root : new.last ≡ Some u) where
  next : IsNextRoot old reset u
  next = subst (λ (o : Option Uber). IfSome o (IsNextRoot old reset)) root h.last

  lawful : IsUber u
  lawful = (subst (λ (o : Option Uber). IsAfter o new.group.txg) root h.pool.after).0

  written : (mid : World) × WritesIntoFree old before mid × IsShownFrom sizes old u mid now
  written = subst (λ (o : Option Uber). IfSome o (λ (v : Uber). (mid : World) × WritesIntoFree old before mid × IsShownFrom sizes old v mid now)) root h.written

  abbrev mid : World
  mid = written.0

  abbrev shown : IsShownFrom sizes old u mid now
  shown = written.2

  large_slot : (v : Uber) (sl : ℕ) → IsSlotInBoth v u old.table.slots sl → 8388608 ≤ whole (slice_index sizes sl)
  large_slot v sl is =
      let known : is.index < u.count = ltb-true _ _ (and_left_of _ _ is.at_index.in_root) in
      let count = next.count in
      large sizes old ready is.index sl (omega (arith, known, count)) is.at_index.here

  mid_sizes : map length mid.now.seen ≡ sizes
  mid_sizes = sizes_kept sizes old ready before mid written.1 ∙ sized

  now_sizes : map length now.now.seen ≡ sizes
  now_sizes =
      (base_end sizes shown.both shown.all u lawful (uber_long u lawful) mid mid_sizes (λ sl has. large_slot (unwrap_or old.last u) sl (shown.in_both sl has)) (λ sl has. large_slot u sl (shown.in_all sl has)) now shown.published).lengths
      ∙ mid_sizes

  pub goes : GoesOnFrom u new
  goes = goes_on old new reset u root next h.same

  newest_now : IsNewestOn now.now.seen u new.table.slots
  newest_now =
      let behind = commit_last sizes sizes old new reset before now ready h.pool sized h.txg h.last h.written h.same.guid h.same.table (record { root = last; from = from; newest = was }) in
      subst (λ (v : Uber). IsNewestOn now.now.seen v new.table.slots) (one_from behind.root u new behind.from root) behind.newest

  reads : IsReadable now.now.seen new u
  reads = stays_readable (HasLastTrees before.now.seen old) sizes now.now.seen old new u ready h.pool h.same.table told (λ trees. subst (λ (o : Option Uber). IfSome o (λ (v : Uber). TellsMoves now.now.seen new v.root v.len)) root (h.moves trees))

  pub committed : IsCommitted sizes now.now u new objects
  committed = record {
    ready = h.pool;
    empty = h.empty;
    settled = h.ends.ended.opened;
    rest = flushed_at_rest shown.published.whole.now now.now shown.published.behind.step;
    sized = now_sizes;
    newest = newest_now;
    head = own_directory now.now.seen new u.root u.len (subst (λ (o : Option Uber). IfSome o (λ (v : Uber). HasHead now.now.seen new v.root v.len)) root h.stands);
    safe = subst (λ (o : Option Uber). IfSome o (λ (v : Uber). HasSafeHead now.now.seen new v.root v.len)) root h.safe;
    objects = h.stays;
    reads = reads;
  }

-- where the disks show the last root behind it
pub ends_committed : (sizes : List ℕ) (reset : Bool) (old new : OpenPool) (objects : Objects) (before now : World) → EndsCommitted sizes reset old new objects before now → (shows : ShowsLast now.now.seen new) → map length now.now.seen ≡ sizes → IsReadable now.now.seen new shows.root → IsCommitted sizes now.now shows.root new objects
ends_committed sizes reset old new objects before now h shows sized reads =
    let root = shows.from.last in
    let written = subst (λ (o : Option Uber). IfSome o (λ (v : Uber). (mid : World) × WritesIntoFree old before mid × IsShownFrom sizes old v mid now)) root h.written in
    let published = written.2.published in
    record {
      ready = h.pool;
      empty = h.empty;
      settled = h.ends.ended.opened;
      rest = flushed_at_rest published.whole.now now.now published.behind.step;
      sized = sized;
      newest = shows.newest;
      head = own_directory now.now.seen new shows.root.root shows.root.len (subst (λ (o : Option Uber). IfSome o (λ (v : Uber). HasHead now.now.seen new v.root v.len)) root h.stands);
      safe = subst (λ (o : Option Uber). IfSome o (λ (v : Uber). HasSafeHead now.now.seen new v.root v.len)) root h.safe;
      objects = h.stays;
      reads = reads;
    }

pub leaves_committed : (sizes : List ℕ) (reset : Bool) (last : Uber) (old new : OpenPool) (objects : Objects) (before now : World) → IsOpen sizes old → GoesOnFrom last old → map length before.now.seen ≡ sizes → IsNewestOn before.now.seen last old.table.slots
    → WillBeReadable before.now.seen old → EndsCommitted sizes reset old new objects before now → (u : Uber) × GoesOnFrom u new × IsCommitted sizes now.now u new objects
leaves_committed sizes reset last old new objects before now ready from sized was told h =
    let first = ready.first in
    let txg = h.txg in
    let root = some_last new.last new.group.txg h.pool.after (omega (arith, first, txg)) in
    (root.0, goes sizes reset last root.0 old new objects before now ready from sized was told h root.1, committed sizes reset last root.0 old new objects before now ready from sized was told h root.1)

-- ---- one commit after another

module _ (sizes : List ℕ) (a b : Commit) (stood : Stood sizes a) (next : IsNextCommit sizes a b) where
  abbrev c : IsCommitted sizes a.now.now a.root a.pool a.objects
  c = stood.committed

  old_from : GoesOnFrom a.root next.old
  old_from = within_from a.root a.pool next.old a.now.now next.start.now (group_within sizes a.root a.pool a.objects a.now next.old next.start c next.group) stood.from

  old_sized : map length next.start.now.seen ≡ sizes
  old_sized = group_sizes sizes a.root a.pool a.objects a.now next.start c next.group.written

  old_newest : IsNewestOn next.start.now.seen a.root next.old.table.slots
  old_newest = newest_same next.start.now.seen a.root a.pool next.old next.group.table (group_reads sizes a.root a.pool a.objects a.now next.start c next.group.written).newest

  then_committed : IsCommitted sizes b.now.now b.root b.pool b.objects
  then_committed = committed sizes next.reset a.root b.root next.old b.pool b.objects next.start b.now next.ready old_from old_sized old_newest next.told next.ends next.root

  then_from : GoesOnFrom b.root b.pool
  then_from = goes sizes next.reset a.root b.root next.old b.pool b.objects next.start b.now next.ready old_from old_sized old_newest next.told next.ends next.root

  table : b.pool.table ≡ a.pool.table
  table = next.ends.same.table ∙ next.group.table

  stands_next : Stood sizes b
  stands_next = record { committed = then_committed; from = then_from }

  shows_next : Throughout (ShowsEither a.objects b.objects) a.now b.now
  shows_next =
      let root = subst (λ (o : Option Uber). IfSome o (IsNextRoot next.old next.reset)) next.root next.ends.last in
      let done = subst (λ (o : Option Uber). IfSome o (λ (v : Uber). (mid : World) × WritesIntoFree next.old next.start mid × IsShownFrom sizes next.old v mid b.now)) next.root next.ends.written in
      commit_either sizes a.root b.root a.pool next.old b.pool a.objects b.objects a.now next.start done.0 b.now (record {
        was = c;
        from = stood.from;
        group = next.group;
        ready = next.ready;
        wrote = done.1;
        shown = done.2;
        lawful = (subst (λ (o : Option Uber). IsAfter o b.pool.group.txg) next.root then_committed.ready.after).0;
        next = next_of sizes next.reset a.root b.root next.old next.ready old_from root;
        done = then_committed;
        to = then_from;
        table = table;
      })

pub follow_stands : (sizes : List ℕ) (a : Commit) (more : List Commit) → Stood sizes a → FollowOn sizes a more → Stood sizes (last_of a more)
follow_stands sizes a [] stood follow = stood
follow_stands sizes a (b ∷ more) stood follow = follow_stands sizes b more (stands_next sizes a b stood follow.0) follow.1

-- the objects behind each of some commits
abbrev objects_of : List Commit → List Objects
objects_of all = map (λ (c : Commit). c.objects) all

first_two : (x y : Objects) (all : List Objects) (stand : Stand) → ShowsEither x y stand → ShowsAmong (x ∷ y ∷ all) stand
first_two x y all stand shows image left paths p is = elim (shows image left paths p is) [
  | inl same ↦ (zero, omega arith, sym same)
  | inr same ↦ (suc zero, omega arith, sym same)
]

one_more : (x : Objects) (all : List Objects) (stand : Stand) → ShowsAmong all stand → ShowsAmong (x ∷ all) stand
one_more x all stand shows image left paths p is = let among = shows image left paths p is in (suc among.0, (let lt = among.1 in omega (arith, lt)), among.2)

pub follow_shows : (sizes : List ℕ) (a : Commit) (more : List Commit) → Stood sizes a → FollowOn sizes a more → Throughout (ShowsAmong (objects_of (a ∷ more))) a.now (last_of a more).now
follow_shows sizes a [] stood follow = started (ShowsAmong (objects_of (a ∷ []))) a.now
follow_shows sizes a (b ∷ more) stood follow =
    joined (ShowsAmong (objects_of (a ∷ b ∷ more))) a.now b.now (last_of b more).now
    (weaker (ShowsEither a.objects b.objects) (ShowsAmong (objects_of (a ∷ b ∷ more))) a.now b.now (first_two a.objects b.objects (objects_of more)) (shows_next sizes a b stood follow.0))
    (weaker (ShowsAmong (objects_of (b ∷ more))) (ShowsAmong (objects_of (a ∷ b ∷ more))) b.now (last_of b more).now (one_more a.objects (objects_of (b ∷ more))) (follow_shows sizes b more (stands_next sizes a b stood follow.0) follow.1))
