use Rattle.std.proofs.Common.{◌∙◌, ℕ, List, Option, true, sym, ap, subst, arith}
use Rattle.std.specs.Prelude.{IfSome}
use Rattle.zr_label.specs.declared.root.Uber.{Uber}
use Rattle.zr_rules.specs.Space.{Space}
use Rattle.zr_shelf.specs.Moments.{World}
use Rattle.zr_sync.specs.Commits.{EndsGroup, IsNextRoot, IsShownFrom}
use Rattle.zr_sync.specs.Pools.{IsOpen}
use Rattle.zr_sync.specs.declared.open.OpenPool.{OpenPool}
use Rattle.zr_sync.specs.declared.open.Table.{Table}
use Rattle.zr_sync.proofs.Disks.{works_more}
use Rattle.zr_removal.proofs.Ending.{gone_now}
use Rattle.zr_removal.proofs.Gone.{objects_told}
use Rattle.zr_removal.proofs.GoneShown.{gone_last}
use Rattle.zr_removal.proofs.Returning.{leaving_known}
use Rattle.zr_removal.proofs.Standing.{copies_vanished}
use Rattle.zr_sync.proofs.Regrouping.{begins_again}
use Rattle.zr_sync.proofs.Retelling.{trees_told}
use Rattle.zr_sync.specs.Trees.Stage.{Had, Recorded}
use Rattle.zr_removal.proofs.evacuate.finish_removal.Goals as goal

pub let_go-requires-clause-known : goal.let_go-requires-clause-known
let_go-requires-clause-known g c =
    let known = c.in_ok-dev.ensures.known in
    let count = ap (λ (t : Table). t.count) c.in_ok-commit_gone.ensures.same.table in
    omega (arith, known, count)

pub let_go-requires-clause-gone : goal.let_go-requires-clause-gone
let_go-requires-clause-gone g c =
    let n0 = g.S.Shelf.sizes c.args.shelf.now in
    let z = c.commit_gone.new.pool in
    let known = c.in_ok-dev.ensures.known in
    let count = ap (λ (t : Table). t.count) c.in_ok-commit_gone.ensures.same.table in
    let open_now = subst (λ (n : List ℕ). IsOpen n z) (c.commit_gone.ensures.sizes ∙ c.vanish.ensures.sizes) c.in_ok-commit_gone.ensures.pool in
    gone_now n0 c.args.pool.now c.vanish.new.pool z c.in_ok-dev.dev c.requires.pool open_now c.in_ok-dev.ensures.vanishes c.in_ok-commit_gone.ensures.same.table (omega (arith, known, count))

pub returns-in_err-commit_gone-clause-disks : goal.returns-in_err-commit_gone-clause-disks
returns-in_err-commit_gone-clause-disks g c = λ t.
    works_more (g.S.Shelf.world c.args.shelf.now) (g.S.Shelf.world c.vanish.new.shelf) (g.S.Shelf.world c.commit_gone.new.shelf) (c.vanish.ensures.disks t) (c.commit_gone.ensures.disks (c.vanish.ensures.told t))

pub returns-clause-disks : goal.returns-clause-disks
returns-clause-disks g c = λ t.
    works_more (g.S.Shelf.world c.args.shelf.now) (g.S.Shelf.world c.vanish.new.shelf) (g.S.Shelf.world c.commit_gone.new.shelf) (c.vanish.ensures.disks t) (c.commit_gone.ensures.disks (c.vanish.ensures.told t))

pub returns-clause-ends : goal.returns-clause-ends
returns-clause-ends g c =
    let gone = c.vanish.new.pool in
    let rest = c.let_go.ensures.forgets.rest in
    let now = g.S.Shelf.world c.commit_gone.new.shelf in
    let last = sym (ap (λ (p : OpenPool). p.last) rest) in
    record {
      gone = gone;
      vanishes = c.in_ok-dev.ensures.vanishes;
      ended = c.commit_gone.new.pool;
      same = c.in_ok-commit_gone.ensures.same;
      root = subst (λ (l : Option Uber). IfSome l (IsNextRoot gone true)) last c.in_ok-commit_gone.ensures.last;
      resets = subst (λ (s : Space). EndsGroup true gone.space s) (sym (ap (λ (p : OpenPool). p.space) rest)) c.in_ok-commit_gone.ensures.ends;
      shown = λ t.
          subst (λ (l : Option Uber). IfSome l (λ u. (before : World) × IsShownFrom (g.S.Shelf.sizes c.args.shelf.now) gone u before now)) last
          (subst (λ (n : List ℕ). IfSome c.commit_gone.new.pool.last (λ u. (before : World) × IsShownFrom n gone u before now)) c.vanish.ensures.sizes
          (c.in_ok-commit_gone.ensures.shown (c.vanish.ensures.told t)));
      forgets = c.let_go.ensures.forgets;
    }

pub returns-clause-pool : goal.returns-clause-pool
returns-clause-pool g c = c.let_go.ensures.pool (g.S.Shelf.sizes c.commit_gone.new.shelf) c.in_ok-commit_gone.ensures.pool

-- ---- what the disks show

pub returns-clause-shown : goal.returns-clause-shown
returns-clause-shown g c = λ told h.
    let old = c.args.shelf.now in
    let mid = c.vanish.new.shelf in
    let new = c.commit_gone.new.shelf in
    let x = c.args.pool.now in
    let d = c.in_ok-dev.dev in
    let gone = c.in_ok-dev.ensures in
    let done = c.in_ok-commit_gone.ensures in
    let still = c.vanish.ensures.told told in
    let known = leaving_known (g.S.Shelf.sizes old) x d c.requires.pool gone.leaving in
    let left = subst (λ (n : List ℕ). IsOpen n c.let_go.new.pool) c.commit_gone.ensures.sizes (c.let_go.ensures.pool (g.S.Shelf.sizes new) done.pool) in
    gone_last (g.S.Shelf.sizes old) (g.S.Shelf.sizes mid) x c.vanish.new.pool c.commit_gone.new.pool c.let_go.new.pool d (g.S.Shelf.world old) (g.S.Shelf.world mid) (g.S.Shelf.world new) c.requires.pool known gone.vanishes (g.S.Shelf.sound old told).sized
    (c.vanish.ensures.written told) gone.pool (g.S.Shelf.sound mid still).sized done.txg done.last (done.written still) done.same c.let_go.ensures.forgets left h

-- ---- what the disks hold

pub returns-clause-objects : goal.returns-clause-objects
returns-clause-objects g c = λ copies objects h.
    let new = c.commit_gone.new.shelf in
    let seen = (g.S.Shelf.world new).now.seen in
    let held = c.in_ok-commit_gone.ensures.objects objects (c.in_ok-dev.ensures.objects copies objects h) in
    objects_told (Unit {0}) (g.S.Shelf.tells new) seen c.let_go.new.pool objects held.held.told
    (c.let_go.ensures.objects seen objects (objects_told (g.S.Shelf.tells new) (Unit {0}) seen c.commit_gone.new.pool objects tt held))

pub returns-clause-copies : goal.returns-clause-copies
returns-clause-copies g c = λ told stand.
    c.let_go.ensures.copies (g.S.Shelf.world c.commit_gone.new.shelf).now.seen
    (c.in_ok-commit_gone.ensures.copies (c.vanish.ensures.told told) (copies_vanished (g.S.Shelf.world c.vanish.new.shelf).now.seen c.args.pool.now c.vanish.new.pool c.in_ok-dev.dev c.in_ok-dev.ensures.vanishes))

pub returns-clause-trees : goal.returns-clause-trees
returns-clause-trees g c = λ clear trees told.
    let old = c.args.shelf.now in
    let new = c.commit_gone.new.shelf in
    let seen = (g.S.Shelf.world new).now.seen in
    let done = c.in_ok-commit_gone.ensures in
    let was = trees_told Had (Unit {0}) (g.S.Shelf.tells old) (g.S.Shelf.world old).now.seen c.args.pool.now told trees in
    c.let_go.ensures.trees seen (begins_again (Unit {0}) seen c.commit_gone.new.pool done.ends.ended.opened (trees_told Recorded (g.S.Shelf.tells new) (Unit {0}) seen c.commit_gone.new.pool tt (done.trees (c.in_ok-dev.ensures.trees clear was))))
