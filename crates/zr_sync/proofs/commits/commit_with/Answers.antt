use Rattle.std.proofs.Common.{◌≡◌, List, ℕ, Bool, false, Option, inl, refl, sym, ap, subst}
use Rattle.zr_bptr.specs.declared.Ptr.{Ptr}
use Rattle.std.specs.Prelude.{IfSome, take}
use Rattle.zr_label.specs.declared.root.Uber.{Uber}
use Rattle.zr_shelf.specs.Moments.{World}
use Rattle.zr_shelf.proofs.Doings.{writes_nothing}
use Rattle.zr_shelf.proofs.Runs.{still}
use Rattle.zr_sync.specs.Commits.{IsShownFrom}
use Rattle.zr_sync.specs.Heads.{HasHead, HasSafeHead, IsSeen, head_of}
use Rattle.zr_sync.specs.Moves.{TellsMoves}
use Rattle.zr_sync.specs.Pools.{IsOpen}
use Rattle.zr_sync.specs.Writes.{WritesIntoFree}
use Rattle.zr_root.specs.Streams.{IsTreeFor}
use Rattle.zr_sync.specs.Trees.{HasTrees, HoldsStreams, every, first_stage, head_tree, one_stage, settling, writing}
use Rattle.zr_sync.specs.Trees.Stage.{Written}
use Rattle.zr_sync.specs.declared.logs.Logs.{Logs}
use Rattle.zr_sync.specs.declared.open.OpenPool.{OpenPool}
use Rattle.zr_sync.proofs.Progress.{restaged, writing_none}
use Rattle.zr_sync.proofs.Recording.{records}
use Rattle.zr_sync.proofs.Anew.{renewed_last}
use Rattle.zr_sync.proofs.Disks.{works_more}
use Rattle.zr_sync.proofs.Groups.{commits_devices, publishes_then, shown_before, stops_early}
use Rattle.zr_sync.proofs.Holding.{ended_written}
use Rattle.zr_sync.proofs.Leading.{blocks_committed, nothing_committed, root_committed}
use Rattle.zr_sync.proofs.Objects.{now_held}
use Rattle.zr_sync.proofs.Safe.{ended_safe, safe_same}
use Rattle.zr_sync.proofs.Standing.{head_same, ended_head, seen_same, seen_devices}
use Rattle.zr_sync.proofs.Retelling.{trees_told}
use Rattle.zr_sync.proofs.Stays.{trees_stored, objects_written}
use Rattle.zr_sync.proofs.Telling.{recorded_moves, written_moves}
use Rattle.zr_txg.specs.Changes.{block_count}
use Rattle.zr_vdev.specs.Runs.{view_of}
use Rattle.zr_vdev.specs.Stores.{IsWriteInto}
use Rattle.zr_vdev.specs.declared.kind.Kind.TheVariants.{Block}
use Rattle.zr_sync.proofs.commits.commit_with.Goals as goal

-- what is to be told of the streams
abbrev TellsLast : Bool → Logs → List (List ℕ) → OpenPool → Type 0
TellsLast moving logs disks pool = (moving ≡ false) × HasTrees (first_stage logs) (Unit {0}) disks pool

pub returns-in_err-publish_root-clause-disks : goal.returns-in_err-publish_root-clause-disks
returns-in_err-publish_root-clause-disks g c = λ t.
    works_more (g.S.Shelf.world c.args.shelf.now) (g.S.Shelf.world c.write_all.new.shelf) (g.S.Shelf.world c.publish_root.new.shelf) (c.write_all.ensures.wrote.disks t) (c.publish_root.ensures.disks (c.write_all.ensures.wrote.told t))

pub returns-clause-disks : goal.returns-clause-disks
returns-clause-disks g c = λ t.
    works_more (g.S.Shelf.world c.args.shelf.now) (g.S.Shelf.world c.write_all.new.shelf) (g.S.Shelf.world c.publish_root.new.shelf) (c.write_all.ensures.wrote.disks t) (c.publish_root.ensures.disks (c.write_all.ensures.wrote.told t))

pub returns-clause-pool : goal.returns-clause-pool
returns-clause-pool g c =
    c.end_group.ensures.pool (g.S.Shelf.sizes c.publish_root.new.shelf) (subst (λ (n : List ℕ). IsOpen n c.write_all.new.pool) (sym c.publish_root.ensures.sizes) c.in_ok-root.ensures.pool)

pub returns-clause-shown : goal.returns-clause-shown
returns-clause-shown g c = λ t.
    let sizes = g.S.Shelf.sizes c.args.shelf.now in
    let now = g.S.Shelf.world c.publish_root.new.shelf in
    let before = g.S.Shelf.world c.write_all.new.shelf in
    subst (λ (o : Option Uber). IfSome o (λ (u : Uber). (w : World) × IsShownFrom sizes c.args.pool.now u w now)) (sym c.end_group.ensures.last)
    (before, shown_before c.write_all.ensures.wrote c.next_root-next.result before now (c.in_ok-publish_root.ensures.shown (c.write_all.ensures.wrote.told t)))

pub returns-clause-head : goal.returns-clause-head
returns-clause-head g c =
    subst (λ (o : Option Uber). IfSome o (λ (u : Uber). c.end_group.new.pool.head.root ≡ u.root)) (sym c.end_group.ensures.last) c.end_group.ensures.head

pub returns-clause-ends : goal.returns-clause-ends
returns-clause-ends g c = record {
  trees = c.write_all.ensures.wrote.mid;
  all = c.write_all.new.pool.space;
  blocks = c.write_all.ensures.wrote.blocks;
  metadata = c.write_all.ensures.wrote.metadata;
  ended = c.end_group.ensures.space;
}

pub returns-clause-objects : goal.returns-clause-objects
returns-clause-objects g c = λ s held stored.
    let first = c.args.shelf.now in
    let last = c.publish_root.new.shelf in
    ended_written c.args.reset (g.S.Shelf.tells first) (g.S.Shelf.tells last) (g.S.Shelf.world first).now.seen (g.S.Shelf.world last).now.seen c.args.pool.now c.write_all.new.pool c.end_group.new.pool s
    c.end_group.ensures.table c.end_group.ensures.cache c.end_group.ensures.dir c.end_group.ensures.space held stored
    (now_held (λ m h. c.publish_root.ensures.blocks m h) (c.in_ok-root.ensures.objects s held stored))

pub returns-clause-stays : goal.returns-clause-stays
returns-clause-stays g c = λ objects h.
    let x = c.args.pool.now in
    let first = c.args.shelf.now in
    let last = c.publish_root.new.shelf in
    let stored = trees_stored x objects (block_count x.group.objects) c.is_in_order.ensures c.requires.pool.group h in
    objects_written x c.end_group.new.pool objects (block_count x.group.objects) c.is_in_order.ensures c.requires.pool.group c.end_group.ensures.empty h
    (ended_written c.args.reset (g.S.Shelf.tells first) (g.S.Shelf.tells last) (g.S.Shelf.world first).now.seen (g.S.Shelf.world last).now.seen x c.write_all.new.pool c.end_group.new.pool h.stored
    c.end_group.ensures.table c.end_group.ensures.cache c.end_group.ensures.dir c.end_group.ensures.space h.held stored
    (now_held (λ m held. c.publish_root.ensures.blocks m held) (c.in_ok-root.ensures.objects h.stored h.held stored)))

pub returns-clause-stands : goal.returns-clause-stands
returns-clause-stands g c = λ seen.
    let pool = c.write_all.new.pool in
    let before = (g.S.Shelf.world c.write_all.new.shelf).now.seen in
    let now = (g.S.Shelf.world c.publish_root.new.shelf).now.seen in
    let root = c.next_root-next.result.root in
    let len = c.next_root-next.result.len in
    let wrote : HasHead before pool root len =
    subst (λ (r : Ptr). HasHead before pool r len) (sym c.next_root-next.ensures.root_is) (subst (λ (n : ℕ). HasHead before pool c.in_ok-root.root n) (sym c.next_root-next.ensures.len_is) (c.in_ok-root.ensures.stands seen)) in
    let published = head_same (take pool.table.count pool.table.rows) (view_of before pool.table.slots pool.space) (view_of now pool.table.slots pool.space) (head_of pool) root len (c.publish_root.ensures.bytes (c.write_all.ensures.wrote.told seen.told)) wrote in
    subst (λ (o : Option Uber). IfSome o (λ (u : Uber). HasHead now c.end_group.new.pool u.root u.len)) (sym c.end_group.ensures.last)
    (ended_head c.args.reset now pool c.end_group.new.pool root len c.end_group.ensures.table c.end_group.ensures.dir c.end_group.ensures.streams c.end_group.ensures.cond c.end_group.ensures.saved c.end_group.ensures.space published)

pub returns-clause-safe : goal.returns-clause-safe
returns-clause-safe g c = λ seen.
    let pool = c.write_all.new.pool in
    let before = (g.S.Shelf.world c.write_all.new.shelf).now.seen in
    let now = (g.S.Shelf.world c.publish_root.new.shelf).now.seen in
    let root = c.next_root-next.result.root in
    let len = c.next_root-next.result.len in
    let wrote : HasSafeHead before pool root len =
    subst (λ (r : Ptr). HasSafeHead before pool r len) (sym c.next_root-next.ensures.root_is) (subst (λ (n : ℕ). HasSafeHead before pool c.in_ok-root.root n) (sym c.next_root-next.ensures.len_is) (c.in_ok-root.ensures.safe seen)) in
    let published = safe_same pool.space (view_of before pool.table.slots pool.space) (view_of now pool.table.slots pool.space) root len (c.publish_root.ensures.bytes (c.write_all.ensures.wrote.told seen.told)) wrote in
    subst (λ (o : Option Uber). IfSome o (λ (u : Uber). HasSafeHead now c.end_group.new.pool u.root u.len)) (sym c.end_group.ensures.last)
    (ended_safe c.args.reset now pool c.end_group.new.pool root len c.end_group.ensures.table c.end_group.ensures.space published)

pub returns-clause-seen : goal.returns-clause-seen
returns-clause-seen g c = λ seen.
    let mid = c.write_all.new.shelf in
    let last = c.publish_root.new.shelf in
    let pool = c.write_all.new.pool in
    let wrote = c.in_ok-root.ensures.seen seen in
    let shown = seen_same (g.S.Shelf.tells mid) (g.S.Shelf.tells last) (g.S.Shelf.world mid).now.seen (g.S.Shelf.world last).now.seen pool (c.publish_root.ensures.told wrote.told) (c.publish_root.ensures.bytes wrote.told) wrote in
    seen_devices (g.S.Shelf.tells last) (g.S.Shelf.world last).now.seen pool c.end_group.new.pool (commits_devices c.args.reset pool.space c.end_group.new.pool.space c.end_group.ensures.space) c.end_group.ensures.table c.end_group.ensures.cache shown

pub returns-then-txg-clause-order : goal.returns-then-txg-clause-order
returns-then-txg-clause-order g c = λ t.
    let w = g.S.Shelf.world c.args.shelf.now in
    (w, writes_nothing (IsWriteInto Block c.args.pool.now.table.slots c.args.pool.now.space) w, inl (still w w refl))

pub returns-in_err-root-clause-order : goal.returns-in_err-root-clause-order
returns-in_err-root-clause-order g c = λ t. stops_early c.write_all.ensures.wrote t c.args.reset

pub returns-in_err-publish_root-clause-order : goal.returns-in_err-publish_root-clause-order
returns-in_err-publish_root-clause-order g c = λ t.
    publishes_then c.write_all.ensures.wrote t c.args.reset c.next_root-next.result c.next_root-next.ensures.next (g.S.Shelf.world c.publish_root.new.shelf) (c.publish_root.ensures.order (c.write_all.ensures.wrote.told t))

pub returns-clause-order : goal.returns-clause-order
returns-clause-order g c = λ t.
    publishes_then c.write_all.ensures.wrote t c.args.reset c.next_root-next.result c.next_root-next.ensures.next (g.S.Shelf.world c.publish_root.new.shelf) (c.publish_root.ensures.order (c.write_all.ensures.wrote.told t))

pub returns-then-txg-clause-leads : goal.returns-then-txg-clause-leads
returns-then-txg-clause-leads g c = λ objects h. nothing_committed (TellsLast c.args.moving c.args.logs (g.S.Shelf.world c.args.shelf.now).now.seen c.args.pool.now) (g.S.Shelf.sizes c.args.shelf.now) c.args.pool.now c.args.reset objects (g.S.Shelf.world c.args.shelf.now)

pub returns-in_err-root-clause-leads : goal.returns-in_err-root-clause-leads
returns-in_err-root-clause-leads g c = λ objects h. blocks_committed c.write_all.ensures.wrote (TellsLast c.args.moving c.args.logs (g.S.Shelf.world c.args.shelf.now).now.seen c.args.pool.now) h.held.told c.args.reset objects

pub returns-in_err-publish_root-clause-leads : goal.returns-in_err-publish_root-clause-leads
returns-in_err-publish_root-clause-leads g c = λ objects h.
    let x = c.args.pool.now in
    let first = c.args.shelf.now in
    let all = c.write_all.new in
    let s = first_stage c.args.logs in
    let disks = (g.S.Shelf.world first).now.seen in
    let seen : IsSeen (g.S.Shelf.tells first) disks x = record { told = h.held.told; read = h.held.read } in
    root_committed c.write_all.ensures.wrote (TellsLast c.args.moving c.args.logs disks x) c.args.reset c.next_root-next.result c.in_ok-root.root c.in_ok-root.len objects (block_count x.group.objects) (g.S.Shelf.world c.publish_root.new.shelf) c.in_ok-root.ensures.pool
    c.next_root-next.ensures.next c.next_root-next.ensures.lawful c.next_root-next.ensures.root_is c.next_root-next.ensures.len_is (λ is. c.in_ok-root.ensures.stands is) c.is_in_order.ensures c.requires.pool.group
    (λ blocks held stored. c.in_ok-root.ensures.objects blocks held stored) (λ t. c.publish_root.ensures.order t)
    (λ last.
    let trees = trees_told s (Unit {0}) (g.S.Shelf.tells first) disks x h.held.told last.1 in
    let had = restaged (every s) (writing s 0) (one_stage s) (head_tree x.head trees.0) (g.S.Shelf.tells first) disks x (λ e p lt. writing_none s e p) trees.1 in
    written_moves s c.args.reset x.table.count (g.S.Shelf.tells all.shelf) (g.S.Shelf.world all.shelf).now.seen all.pool c.in_ok-root.root c.in_ok-root.len c.in_ok-root.ensures.root (c.in_ok-root.ensures.stands seen) (c.in_ok-root.ensures.trees last.0 trees.0 had))
    h

pub returns-clause-leads : goal.returns-clause-leads
returns-clause-leads g c = λ objects h.
    let x = c.args.pool.now in
    let first = c.args.shelf.now in
    let all = c.write_all.new in
    let s = first_stage c.args.logs in
    let disks = (g.S.Shelf.world first).now.seen in
    let seen : IsSeen (g.S.Shelf.tells first) disks x = record { told = h.held.told; read = h.held.read } in
    root_committed c.write_all.ensures.wrote (TellsLast c.args.moving c.args.logs disks x) c.args.reset c.next_root-next.result c.in_ok-root.root c.in_ok-root.len objects (block_count x.group.objects) (g.S.Shelf.world c.publish_root.new.shelf) c.in_ok-root.ensures.pool
    c.next_root-next.ensures.next c.next_root-next.ensures.lawful c.next_root-next.ensures.root_is c.next_root-next.ensures.len_is (λ is. c.in_ok-root.ensures.stands is) c.is_in_order.ensures c.requires.pool.group
    (λ blocks held stored. c.in_ok-root.ensures.objects blocks held stored) (λ t. c.publish_root.ensures.order t)
    (λ last.
    let trees = trees_told s (Unit {0}) (g.S.Shelf.tells first) disks x h.held.told last.1 in
    let had = restaged (every s) (writing s 0) (one_stage s) (head_tree x.head trees.0) (g.S.Shelf.tells first) disks x (λ e p lt. writing_none s e p) trees.1 in
    written_moves s c.args.reset x.table.count (g.S.Shelf.tells all.shelf) (g.S.Shelf.world all.shelf).now.seen all.pool c.in_ok-root.root c.in_ok-root.len c.in_ok-root.ensures.root (c.in_ok-root.ensures.stands seen) (c.in_ok-root.ensures.trees last.0 trees.0 had))
    h

pub returns-clause-written : goal.returns-clause-written
returns-clause-written g c = λ t.
    let sizes = g.S.Shelf.sizes c.args.shelf.now in
    let now = g.S.Shelf.world c.publish_root.new.shelf in
    let before = g.S.Shelf.world c.write_all.new.shelf in
    subst (λ (o : Option Uber). IfSome o (λ (u : Uber). (w : World) × WritesIntoFree c.args.pool.now (g.S.Shelf.world c.args.shelf.now) w × IsShownFrom sizes c.args.pool.now u w now)) (sym c.end_group.ensures.last)
    (before, c.write_all.ensures.wrote.written t, shown_before c.write_all.ensures.wrote c.next_root-next.result before now (c.in_ok-publish_root.ensures.shown (c.write_all.ensures.wrote.told t)))

pub returns-clause-anew : goal.returns-clause-anew
returns-clause-anew g c = λ reset is. renewed_last c.args.pool.now c.write_all.new.pool c.end_group.new.pool c.end_group.ensures.streams (c.in_ok-root.ensures.anew reset is)

pub returns-clause-copies : goal.returns-clause-copies
returns-clause-copies g c = λ t had.
    let wrote = c.write_all.ensures.wrote in
    c.end_group.ensures.copies (g.S.Shelf.world c.publish_root.new.shelf).now.seen (c.publish_root.ensures.copies (wrote.told t) (wrote.copies t had))

pub returns-clause-trees : goal.returns-clause-trees
returns-clause-trees g c = λ still trees.
    let x = c.args.pool.now in
    let s = first_stage c.args.logs in
    let all = c.write_all.new in
    let last = c.publish_root.new.shelf in
    let now = c.end_group.new.pool in
    let next = c.next_root-next in
    let h = restaged (every s) (writing s 0) (one_stage s) (head_tree x.head trees.0) (g.S.Shelf.tells c.args.shelf.now) (g.S.Shelf.world c.args.shelf.now).now.seen x (λ e p lt. writing_none s e p) trees.1 in
    let wrote = c.in_ok-root.ensures.trees still trees.0 h in
    let tall : IsTreeFor c.in_ok-root.len c.in_ok-root.root now.head = subst (λ (n : ℕ). IsTreeFor n c.in_ok-root.root now.head) next.ensures.len_is (subst (λ (r : Ptr). IsTreeFor next.result.len r now.head) next.ensures.root_is c.end_group.ensures.tall) in
    let count : all.pool.table.count ≡ x.table.count = ap (λ (o : OpenPool). o.table.count) c.write_all.ensures.wrote.rest in
    let held = subst (λ (k : ℕ). HoldsStreams (settling s c.args.reset k) (one_stage Written) (head_tree now.head wrote.0) (g.S.Shelf.tells all.shelf) (g.S.Shelf.world all.shelf).now.seen all.pool) (sym count) (wrote.1 now.head tall) in (
      wrote.0,
      records s c.args.reset (head_tree now.head wrote.0) (g.S.Shelf.tells all.shelf) (g.S.Shelf.tells last) (g.S.Shelf.world all.shelf).now.seen (g.S.Shelf.world last).now.seen all.pool now (λ told. c.publish_root.ensures.told told) (λ told a. c.publish_root.ensures.bytes told a)
          c.end_group.ensures.same.version c.end_group.ensures.table c.end_group.ensures.cache c.end_group.ensures.streams c.end_group.ensures.cond c.end_group.ensures.space c.end_group.ensures.parts (λ a is. c.end_group.ensures.metadata a is) held,
    )

pub returns-clause-moves : goal.returns-clause-moves
returns-clause-moves g c = λ still trees.
    let first = c.args.shelf.now in
    let last = c.publish_root.new.shelf in
    let pool = c.end_group.new.pool in
    let root = c.next_root-next.result.root in
    let len = c.next_root-next.result.len in
    let now = (g.S.Shelf.world last).now.seen in
    let seen : IsSeen (g.S.Shelf.tells first) (g.S.Shelf.world first).now.seen c.args.pool.now = record { told = trees.1.held.told; read = trees.1.held.read } in
    let head : HasHead now pool root len = subst (λ (o : Option Uber). IfSome o (λ (u : Uber). HasHead now pool u.root u.len)) c.end_group.ensures.last (returns-clause-stands g c seen) in
    subst (λ (o : Option Uber). IfSome o (λ (u : Uber). TellsMoves now pool u.root u.len)) (sym c.end_group.ensures.last)
    (recorded_moves (g.S.Shelf.tells last) now pool root len c.end_group.ensures.tall head (returns-clause-trees g c still trees))
