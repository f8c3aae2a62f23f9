use Rattle.std.proofs.Common.{ℕ, List, true, inl, subst}
use Rattle.std.specs.Prelude.{IfSome}
use Rattle.zr_last.proofs.Ending.{leaves_by}
use Rattle.zr_shelf.specs.Moments.{World}
use Rattle.zr_sync.proofs.Disks.{works_more}
use Rattle.zr_sync.specs.Commits.{IsShownFrom}
use Rattle.zr_sync.proofs.Leading.{committed_told}
use Rattle.zr_sync.specs.Heads.{IsSeen}
use Rattle.zr_sync.proofs.Regrouping.{begins_again}
use Rattle.zr_sync.proofs.Retelling.{trees_told}
use Rattle.zr_sync.specs.Trees.{HasLastTrees}
use Rattle.zr_sync.specs.Trees.Stage.{Had, Recorded}
use Rattle.zr_removal.proofs.Returning.{back_last, stops_back}
use Rattle.zr_removal.proofs.Standing.{copies_back}
use Rattle.zr_removal.proofs.cancelling.cancel_removal.Goals as goal

pub returns-in_err-commit-clause-disks : goal.returns-in_err-commit-clause-disks
returns-in_err-commit-clause-disks g c = λ t.
    works_more (g.S.Shelf.world c.args.shelf.now) (g.S.Shelf.world c.come_back.new.shelf) (g.S.Shelf.world c.commit.new.shelf) (c.come_back.ensures.disks t) (c.commit.ensures.disks (c.come_back.ensures.told t))

pub returns-clause-disks : goal.returns-clause-disks
returns-clause-disks g c = λ t.
    works_more (g.S.Shelf.world c.args.shelf.now) (g.S.Shelf.world c.come_back.new.shelf) (g.S.Shelf.world c.commit.new.shelf) (c.come_back.ensures.disks t) (c.commit.ensures.disks (c.come_back.ensures.told t))

pub returns-clause-cancels : goal.returns-clause-cancels
returns-clause-cancels g c = record {
  back = c.come_back.new.pool;
  comes = c.in_ok-dev.ensures.comes;
  same = c.in_ok-commit.ensures.same;
  root = c.in_ok-commit.ensures.last;
  resets = c.in_ok-commit.ensures.ends;
  shown = λ t.
      subst (λ (n : List ℕ). IfSome c.commit.new.pool.last (λ u. (before : World) × IsShownFrom n c.come_back.new.pool u before (g.S.Shelf.world c.commit.new.shelf))) c.come_back.ensures.sizes
      (c.in_ok-commit.ensures.shown (c.come_back.ensures.told t));
}

pub returns-clause-objects : goal.returns-clause-objects
returns-clause-objects g c = λ objects h. c.in_ok-commit.ensures.stays objects (c.in_ok-dev.ensures.objects objects h)

pub returns-clause-ends : goal.returns-clause-ends
returns-clause-ends g c = λ objects h.
    let mid = c.come_back.new.shelf in
    let new = c.commit.new.shelf in
    let back = c.come_back.new.pool in
    let done = c.in_ok-commit.ensures in
    let held = c.in_ok-dev.ensures.objects objects h in
    let seen : IsSeen (g.S.Shelf.tells mid) (g.S.Shelf.world mid).now.seen back = record { told = held.held.told; read = held.held.read } in
    leaves_by (g.S.Shelf.sizes mid) (g.S.Shelf.sizes new) back c.commit.new.pool (g.S.Shelf.world mid) (g.S.Shelf.world new) c.in_ok-dev.ensures.pool done.pool done.txg (done.written held.held.told) done.ends.ended.opened done.empty (done.stands seen) (done.safe seen)

pub returns-clause-shown : goal.returns-clause-shown
returns-clause-shown g c = λ told.
    let old = c.args.shelf.now in
    let mid = c.come_back.new.shelf in
    let new = c.commit.new.shelf in
    let first = c.in_ok-dev.ensures in
    let done = c.in_ok-commit.ensures in
    let still = c.come_back.ensures.told told in
    back_last (g.S.Shelf.sizes old) (g.S.Shelf.sizes mid) (g.S.Shelf.sizes new) c.args.pool.now c.come_back.new.pool c.commit.new.pool c.in_ok-dev.dev (g.S.Shelf.world old) (g.S.Shelf.world mid) (g.S.Shelf.world new) c.requires.pool first.leaving first.comes
    (g.S.Shelf.sound old told).sized (c.come_back.ensures.written told) first.pool done.pool (g.S.Shelf.sound mid still).sized done.txg done.last (done.written still) done.same

pub returns-clause-copies : goal.returns-clause-copies
returns-clause-copies g c = λ told stand.
    c.in_ok-commit.ensures.copies (c.come_back.ensures.told told) (copies_back (g.S.Shelf.world c.come_back.new.shelf).now.seen c.args.pool.now c.come_back.new.pool c.in_ok-dev.dev c.in_ok-dev.ensures.comes)

pub returns-clause-trees : goal.returns-clause-trees
returns-clause-trees g c = λ trees told.
    let old = c.args.shelf.now in
    let new = c.commit.new.shelf in
    let seen = (g.S.Shelf.world new).now.seen in
    let done = c.in_ok-commit.ensures in
    let was = trees_told Had (Unit {0}) (g.S.Shelf.tells old) (g.S.Shelf.world old).now.seen c.args.pool.now told trees in
    begins_again (Unit {0}) seen c.commit.new.pool done.ends.ended.opened (trees_told Recorded (g.S.Shelf.tells new) (Unit {0}) seen c.commit.new.pool tt (done.trees (c.in_ok-dev.ensures.trees was)))

-- ---- wherever it stops

pub returns-in_err-dev-clause-stops : goal.returns-in_err-dev-clause-stops
returns-in_err-dev-clause-stops g c = λ objects h. inl (c.come_back.ensures.written h.held.told)

pub returns-in_err-commit-clause-stops : goal.returns-in_err-commit-clause-stops
returns-in_err-commit-clause-stops g c = λ objects h.
    let mid = c.come_back.new.shelf in
    let first = c.in_ok-dev.ensures in
    stops_back (g.S.Shelf.sizes c.args.shelf.now) (g.S.Shelf.sizes mid) objects c.args.pool.now c.come_back.new.pool c.in_ok-dev.dev (g.S.Shelf.world c.args.shelf.now) (g.S.Shelf.world mid) (g.S.Shelf.world c.commit.new.shelf) c.come_back.ensures.sizes
    first.leaving first.pool first.comes (c.come_back.ensures.written h.held.told)
    (committed_told (HasLastTrees (g.S.Shelf.world mid).now.seen c.come_back.new.pool) ⊥ (g.S.Shelf.sizes mid) c.come_back.new.pool true objects (g.S.Shelf.world mid) (g.S.Shelf.world c.commit.new.shelf) (λ never. absurd never) (c.commit.ensures.leads objects (first.objects objects h)))

pub returns-clause-stops : goal.returns-clause-stops
returns-clause-stops g c = λ objects h.
    let mid = c.come_back.new.shelf in
    let first = c.in_ok-dev.ensures in
    stops_back (g.S.Shelf.sizes c.args.shelf.now) (g.S.Shelf.sizes mid) objects c.args.pool.now c.come_back.new.pool c.in_ok-dev.dev (g.S.Shelf.world c.args.shelf.now) (g.S.Shelf.world mid) (g.S.Shelf.world c.commit.new.shelf) c.come_back.ensures.sizes
    first.leaving first.pool first.comes (c.come_back.ensures.written h.held.told)
    (committed_told (HasLastTrees (g.S.Shelf.world mid).now.seen c.come_back.new.pool) ⊥ (g.S.Shelf.sizes mid) c.come_back.new.pool true objects (g.S.Shelf.world mid) (g.S.Shelf.world c.commit.new.shelf) (λ never. absurd never) (c.commit.ensures.leads objects (first.objects objects h)))
