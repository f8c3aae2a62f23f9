-- What a crash shows behind a commit.
use Rattle.std.proofs.Common.{◌≡◌, ◌∙◌, inr, ℕ, List, length, map, Bool, None, Option, IfSome, sym, subst}
use Rattle.zr_beside.specs.Beside.{Standing}
use Rattle.zr_current.proofs.Showing.{commit_shown}
use Rattle.zr_current.specs.Current.{GoesOnFrom, HasSlots, IsShownFor}
use Rattle.zr_image.specs.Current.{slots_of}
use Rattle.zr_label.specs.Blocks.{IsUber}
use Rattle.zr_label.specs.declared.root.Uber.{Uber}
use Rattle.zr_model.specs.Objects.{Objects}
use Rattle.zr_newest.specs.Newest.{IsNewestOn}
use Rattle.zr_recorded.proofs.Crashes.{crash_shows}
use Rattle.zr_recorded.specs.Crashes.{ShowsPool}
use Rattle.zr_recorded.specs.Service.{AreInService, IsWhole}
use Rattle.zr_shelf.specs.Moments.{Throughout, World}
use Rattle.zr_stops.proofs.Ending.{leaves_committed}
use Rattle.zr_stops.specs.Last.{IsCommitted}
use Rattle.zr_sync.specs.Commits.{IsNextRoot, IsShownFrom}
use Rattle.zr_sync.specs.Ends.{EndsCommitted}
use Rattle.zr_sync.specs.Heads.{HasHead}
use Rattle.zr_sync.specs.Pools.{IsAfter, IsOpen}
use Rattle.zr_sync.specs.Trees.{HasLastTrees, HoldsStreams, every, one_stage}
use Rattle.zr_sync.specs.Trees.Stage.{Recorded}
use Rattle.zr_sync.specs.Writes.{WritesIntoFree}
use Rattle.zr_sync.specs.declared.open.OpenPool.{OpenPool}
use Rattle.zr_sync.specs.declared.open.Table.{Table}

-- ---- a commit that keeps the table of devices, on slots that show the last root

module _ (sizes : List ℕ) (reset : Bool) (last : Uber) (old new : OpenPool) (objects : Objects) (before after : World) (ready : IsOpen sizes old) (from : GoesOnFrom last old) (sized : map length before.now.seen ≡ sizes) (shown : IsShownFor before.now.seen last old)
    (ends : EndsCommitted sizes reset old new objects before after) (u : Uber) (goes : GoesOnFrom u new) where
  is_uber : IsUber u
  is_uber = (subst (λ (o : Option Uber). IsAfter o new.group.txg) goes.last ends.pool.after).0

  next : IsNextRoot old reset u
  next = subst (λ (o : Option Uber). IfSome o (IsNextRoot old reset)) goes.last ends.last

  put : (mid : World) × WritesIntoFree old before mid × IsShownFrom sizes old u mid after
  put = subst (λ (o : Option Uber). IfSome o (λ v. (mid : World) × WritesIntoFree old before mid × IsShownFrom sizes old v mid after)) goes.last ends.written

  shown_old : IsShownFor after.now.seen u old
  shown_old = commit_shown sizes old reset last u before put.0 after ready from sized shown is_uber next put.1 put.2

  pub head_new : HasHead after.now.seen new u.root u.len
  head_new = subst (λ (o : Option Uber). IfSome o (λ v. HasHead after.now.seen new v.root v.len)) goes.last ends.stands

  pub shown_new : IsShownFor after.now.seen u new
  shown_new = record {
    seen = shown_old.seen;
    shown = shown_old.shown;
    current = shown_old.current;
    slots = subst (λ (t : Table). HasSlots (slots_of u shown_old.seen) t.slots) (sym ends.same.table) shown_old.slots;
  }

  pub serves_new : IsWhole new → AreInService u new
  serves_new whole = record { version = ends.same.version ∙ sym next.version; whole = whole }

-- ---- what a crash shows behind it

module _ (paths : List (List ℕ)) (sizes : List ℕ) (reset : Bool) (last : Uber) (old new : OpenPool) (objects : Objects) (others : List Standing) (tells : Type 0) (before after now : World) (ready : IsOpen sizes old) (from : GoesOnFrom last old) (sized : map length before.now.seen ≡ sizes) (newest : IsNewestOn before.now.seen last old.table.slots)
    (shown : IsShownFor before.now.seen last old) (had : HasLastTrees before.now.seen old) (ends : EndsCommitted sizes reset old new objects before after) (whole : IsWhole new) (unsaved : new.saved ≡ None) (h : HoldsStreams (every Recorded) (one_stage Recorded) others tells after.now.seen new) (wrote : WritesIntoFree new after now) where
  shows : (u : Uber) → GoesOnFrom u new → IsCommitted sizes after.now u new objects → Throughout (ShowsPool paths objects) after now
  shows u goes was =
      crash_shows paths sizes u new objects others tells after now was goes (serves_new sizes reset last old new objects before after ready from sized shown ends u goes whole) unsaved
      (shown_new sizes reset last old new objects before after ready from sized shown ends u goes) (head_new sizes reset last old new objects before after ready from sized shown ends u goes) h wrote

  pub commit_shows : Throughout (ShowsPool paths objects) after now
  commit_shows = let left = leaves_committed sizes reset last old new objects before after ready from sized newest (inr had) ends in shows left.0 left.1 left.2
