-- While a pool is gone back to, a crash shows the objects of the current root, or those of the root that is put behind it.
use Rattle.std.proofs.Common.{◌≡◌, inl, inr, ℕ, ◌++◌, List, [], Option, Some, refl, sym, ◌∙◌, ap, subst}
use Rattle.std.specs.Prelude.{IfSome, unwrap_or}
use Rattle.zr_label.specs.Blocks.{IsUber}
use Rattle.zr_label.specs.declared.root.Uber.{Uber}
use Rattle.zr_model.specs.Objects.{Objects}
use Rattle.zr_newest.proofs.Seen.{one_label_at, slots_same}
use Rattle.zr_newest.specs.Newest.{AreAt, IsNewestOn}
use Rattle.zr_open.proofs.Left.{objects_meant}
use Rattle.zr_open.specs.Going.{PutsBack}
use Rattle.zr_rules.specs.Equation.{devices_in}
use Rattle.zr_shelf.specs.Disks.{PendingWrite}
use Rattle.zr_shelf.specs.Doings.{WritesOnly}
use Rattle.zr_shelf.specs.Moments.{Throughout, World}
use Rattle.zr_slots.specs.Tables.{IsSlotInBoth}
use Rattle.zr_sync.specs.Commits.{PublishesRoot}
use Rattle.zr_sync.specs.Ends.{LeavesCommitted}
use Rattle.zr_sync.specs.Heads.{HasDirectory, HasSafeHead}
use Rattle.zr_sync.specs.Moves.{TellsMoves}
use Rattle.zr_sync.specs.Pools.{IsAfter}
use Rattle.zr_vdev.specs.Stores.{IsWriteInto}
use Rattle.zr_vdev.specs.declared.kind.Kind.TheVariants.{Block}
use Rattle.zr_view.specs.Views.{slot_of}
use Rattle.zr_stops.proofs.Committing.{IsNextPool, Starts, newest_mid, part_either, still_either, whole_either}
use Rattle.zr_stops.proofs.Kept as kept
use Rattle.zr_stops.proofs.Kept.{LeavesAlone, StandsLast, committed_stands, own_alone}
use Rattle.zr_stops.specs.Either.{ShowsEither}
use Rattle.zr_stops.specs.Last.{IsCommitted}

module _ (sizes : List ℕ) (before after : Objects) (read now : World) (h : PutsBack sizes before after read now) where
  -- ---- the current root

  left : LeavesCommitted h.pool read.now
  left = h.has.leaves.0

  was : IsCommitted sizes read.now h.current h.pool before
  was = record {
    ready = h.has.ready;
    empty = left.empty;
    settled = left.settled;
    rest = left.rest;
    sized = h.sized;
    newest = h.newest;
    head = subst (λ (o : Option Uber). IfSome o (λ (u : Uber). HasDirectory read.now.seen h.pool u.root u.len)) h.has.from.last left.head;
    safe = subst (λ (o : Option Uber). IfSome o (λ (u : Uber). HasSafeHead read.now.seen h.pool u.root u.len)) h.has.from.last left.safe;
    objects = h.has.holds;
    reads = inr (subst (λ (o : Option Uber). IfSome o (λ (u : Uber). TellsMoves read.now.seen h.pool u.root u.len)) h.has.from.last h.has.leaves.1);
  }

  stood : StandsLast sizes read.now h.current h.pool before
  stood = committed_stands sizes read.now h.current h.pool before was

  abbrev May : PendingWrite → Type 0
  May = IsWriteInto Block h.pool.table.slots h.pool.space

  alone : LeavesAlone sizes h.pool May
  alone = own_alone sizes h.pool h.has.ready

  starts : Starts sizes h.current h.pool before read.now read.now May
  starts = record {
    was = stood;
    from = h.has.from;
    alone = alone;
    pending = kept.pending_start sizes h.current h.pool before read.now stood May alone;
    clear = kept.seen_start sizes h.current h.pool before read.now stood May alone;
  }

  -- no block is written before the root
  blocks : WritesOnly May read read
  blocks = record { more = []; joins = refl; added = tt }

  -- ---- the root that is put behind it

  abbrev newest : IsNewestOn read.now.seen h.current h.pool.table.slots
  newest = newest_mid sizes h.current h.pool h.back before after read.now read read May starts h.has_back.ready blocks

  places : AreAt h.back.table.slots h.root newest.seen
  places d =
      h.devices d
      ∙ ap (λ (these : List (Option ℕ)). slot_of these d) (slots_same h.seen newest.seen (h.labels.count ∙ sym newest.labels.count) (one_label_at read.now.seen h.seen newest.seen h.labels newest.labels) h.root)

  lawful : IsUber h.root
  lawful = (subst (λ (o : Option Uber). IsAfter o h.back.group.txg) h.has_back.from.last h.has_back.ready.after).0

  left_back : LeavesCommitted h.back read.now
  left_back = h.has_back.leaves.0

  is_pool : IsNextPool sizes read.now.seen h.current h.root h.back h.back newest.seen after
  is_pool = record {
    lawful = lawful;
    txg = h.txg;
    count = sym h.has_back.from.count;
    ready = h.has_back.ready;
    from = h.has_back.from;
    reads = inr (subst (λ (o : Option Uber). IfSome o (λ (u : Uber). TellsMoves read.now.seen h.back u.root u.len)) h.has_back.from.last h.has_back.leaves.1);
    at = places;
    head = subst (λ (o : Option Uber). IfSome o (λ (u : Uber). HasDirectory read.now.seen h.back u.root u.len)) h.has_back.from.last left_back.head;
    objects = objects_meant (Unit {0}) read.now.seen h.back after left_back.empty h.has_back.holds;
  }

  -- a slot of a device of both is one of a device of the root
  own_slot : (slot : ℕ) → IsSlotInBoth h.current h.root h.back.table.slots slot → IsSlotInBoth (unwrap_or h.back.last h.root) h.root h.back.table.slots slot
  own_slot slot both =
      subst (λ (o : Option Uber). IsSlotInBoth (unwrap_or o h.root) h.root h.back.table.slots slot) (sym h.has_back.from.last)
      (record { index = both.index; known = both.known; at_index = record { in_last = both.at_index.in_root; in_root = both.at_index.in_root; here = both.at_index.here } })

  by_root : PublishesRoot sizes (record h.back { last = Some h.current }) h.root read now → Throughout (ShowsEither before after) read now
  by_root (inl unmoved) = still_either sizes h.current h.pool h.back before after read.now read read May starts h.has_back.ready blocks now unmoved
  by_root (inr (inl part)) =
      part_either sizes h.current h.pool h.back before after read.now read read May starts h.has_back.ready blocks h.root h.back part.both part.all is_pool (λ slot has. own_slot slot (part.in_both slot has)) part.in_all now part.published
  by_root (inr (inr shown)) =
      whole_either sizes h.current h.pool h.back before after read.now read read May starts h.has_back.ready blocks h.root h.back shown.both shown.all is_pool (λ slot has. own_slot slot (shown.in_both slot has)) shown.in_all now shown.published

  -- at each moment of it, whatever an honest crash shows are the objects of the one or those of the other
  pub returns_either : Throughout (ShowsEither before after) read now
  returns_either = by_root h.puts
