use Rattle.std.proofs.Common.{true, inl, refl, ap, sym, subst}
use Rattle.zr_shelf.proofs.Runs.{still}
use Rattle.zr_sync.specs.Copies.{HasCopies}
use Rattle.zr_sync.specs.Objects.{HoldsObjects}
use Rattle.zr_sync.specs.declared.open.OpenPool.{OpenPool}
use Rattle.zr_lines.proofs.Copies.{renewed_copies}
use Rattle.zr_lines.proofs.Resetting.{upgraded}
use Rattle.zr_lines.proofs.Versions.{renewed_objects, renewed_trees, upgrades_from}
use Rattle.zr_last.proofs.Ending.{leaves_by}
use Rattle.zr_last.proofs.Lasting.{commit_last, same_last}
use Rattle.zr_sync.specs.Heads.{IsSeen}
use Rattle.zr_sync.proofs.Leading.{committed_told}
use Rattle.zr_sync.specs.Trees.{HasLastTrees, HasTrees}
use Rattle.zr_sync.specs.Trees.Stage.{Untold}
use Rattle.zr_lines.proofs.upgrades.upgrade.Goals as goal

pub commit_anew-requires : goal.commit_anew-requires
commit_anew-requires g c = record { pool = c.renew.ensures.pool (g.S.Shelf.sizes c.args.shelf.now) c.requires.pool }

pub returns-clause-upgrades : goal.returns-clause-upgrades
returns-clause-upgrades g c =
    let done = c.in_ok-commit_anew.ensures in
    upgrades_from (g.S.Shelf.sizes c.args.shelf.now) (g.S.Shelf.tells c.args.shelf.now) (g.S.Shelf.world c.commit_anew.new.shelf) c.args.pool.now c.renew.new.pool c.commit_anew.new.pool c.renew.ensures.value
    done.last done.ends done.shown done.anew done.saved

pub returns-clause-objects : goal.returns-clause-objects
returns-clause-objects g c = λ objects h.
    let old = c.args.shelf.now in
    let tells = g.S.Shelf.tells old in
    let disks = (g.S.Shelf.world old).now.seen in
    c.in_ok-commit_anew.ensures.stays objects
    (subst (λ (x : OpenPool). HoldsObjects tells disks x objects) (sym c.renew.ensures.value) (renewed_objects (g.S.Shelf.sizes old) tells disks c.args.pool.now objects c.requires.pool h))

pub returns-clause-trees : goal.returns-clause-trees
returns-clause-trees g c = λ h.
    let old = c.args.shelf.now in
    let tells = g.S.Shelf.tells old in
    let disks = (g.S.Shelf.world old).now.seen in
    c.in_ok-commit_anew.ensures.trees (subst (λ (x : OpenPool). HasTrees Untold tells disks x) (sym c.renew.ensures.value) (renewed_trees tells disks c.args.pool.now h))

pub returns-clause-moves : goal.returns-clause-moves
returns-clause-moves g c = λ h.
    let old = c.args.shelf.now in
    let tells = g.S.Shelf.tells old in
    let disks = (g.S.Shelf.world old).now.seen in
    c.in_ok-commit_anew.ensures.moves (subst (λ (x : OpenPool). HasTrees Untold tells disks x) (sym c.renew.ensures.value) (renewed_trees tells disks c.args.pool.now h))

pub returns-clause-copies : goal.returns-clause-copies
returns-clause-copies g c = λ told h.
    let disks = (g.S.Shelf.world c.args.shelf.now).now.seen in
    c.in_ok-commit_anew.ensures.copies told (subst (λ (x : OpenPool). HasCopies disks x) (sym c.renew.ensures.value) (renewed_copies disks c.args.pool.now h))

-- ---- the last root

pub returns-clause-shown : goal.returns-clause-shown
returns-clause-shown g c = λ told h.
    let old = c.args.shelf.now in
    let new = c.commit_anew.new.shelf in
    let renewed = c.renew.new.pool in
    let is = c.renew.ensures.value in
    let done = c.in_ok-commit_anew.ensures in
    commit_last (g.S.Shelf.sizes old) (g.S.Shelf.sizes new) renewed c.commit_anew.new.pool true (g.S.Shelf.world old) (g.S.Shelf.world new) (c.renew.ensures.pool (g.S.Shelf.sizes old) c.requires.pool) done.pool (g.S.Shelf.sound old told).sized done.txg done.last (done.written told) done.same.guid done.same.table
    (same_last (g.S.Shelf.world old).now.seen c.args.pool.now renewed (record { last = ap (λ (p : OpenPool). p.last) is; guid = ap (λ (p : OpenPool). p.guid) is; table = ap (λ (p : OpenPool). p.table) is }) h)

-- ---- what it leaves

pub returns-clause-ends : goal.returns-clause-ends
returns-clause-ends g c = λ objects h.
    let old = c.args.shelf.now in
    let sizes = g.S.Shelf.sizes old in
    let tells = g.S.Shelf.tells old in
    let disks = (g.S.Shelf.world old).now.seen in
    let renewed = c.renew.new.pool in
    let done = c.in_ok-commit_anew.ensures in
    let held : HoldsObjects tells disks renewed objects = subst (λ (x : OpenPool). HoldsObjects tells disks x objects) (sym c.renew.ensures.value) (renewed_objects sizes tells disks c.args.pool.now objects c.requires.pool h) in
    let seen : IsSeen tells disks renewed = record { told = held.held.told; read = held.held.read } in
    leaves_by sizes (g.S.Shelf.sizes c.commit_anew.new.shelf) renewed c.commit_anew.new.pool (g.S.Shelf.world old) (g.S.Shelf.world c.commit_anew.new.shelf) (c.renew.ensures.pool sizes c.requires.pool) done.pool done.txg (done.written held.held.told) done.ends.ended.opened done.empty (done.stands seen) (done.safe seen)

-- ---- wherever it stops

pub returns-in_err-demand_old-clause-stops : goal.returns-in_err-demand_old-clause-stops
returns-in_err-demand_old-clause-stops g c = λ objects h. inl (inl (still (g.S.Shelf.world c.args.shelf.now) (g.S.Shelf.world c.args.shelf.now) refl))

pub returns-in_err-commit_anew-clause-stops : goal.returns-in_err-commit_anew-clause-stops
returns-in_err-commit_anew-clause-stops g c = λ objects h.
    let old = c.args.shelf.now in
    let sizes = g.S.Shelf.sizes old in
    let tells = g.S.Shelf.tells old in
    let disks = (g.S.Shelf.world old).now.seen in
    let renewed = c.renew.new.pool in
    let held : HoldsObjects tells disks renewed objects = subst (λ (x : OpenPool). HoldsObjects tells disks x objects) (sym c.renew.ensures.value) (renewed_objects sizes tells disks c.args.pool.now objects c.requires.pool h) in
    let last = HasLastTrees disks c.args.pool.now in
    let more : last → HasTrees Untold (Unit {0}) disks renewed = λ had. subst (λ (x : OpenPool). HasTrees Untold (Unit {0}) disks x) (sym c.renew.ensures.value) (renewed_trees (Unit {0}) disks c.args.pool.now had) in
    upgraded last sizes objects c.args.pool.now renewed (g.S.Shelf.world old) (g.S.Shelf.world c.commit_anew.new.shelf) c.renew.ensures.value (c.renew.ensures.pool sizes c.requires.pool)
    (committed_told (HasTrees Untold (Unit {0}) disks renewed) last sizes renewed true objects (g.S.Shelf.world old) (g.S.Shelf.world c.commit_anew.new.shelf) more (c.commit_anew.ensures.leads objects held))

pub returns-clause-stops : goal.returns-clause-stops
returns-clause-stops g c = λ objects h.
    let old = c.args.shelf.now in
    let sizes = g.S.Shelf.sizes old in
    let tells = g.S.Shelf.tells old in
    let disks = (g.S.Shelf.world old).now.seen in
    let renewed = c.renew.new.pool in
    let held : HoldsObjects tells disks renewed objects = subst (λ (x : OpenPool). HoldsObjects tells disks x objects) (sym c.renew.ensures.value) (renewed_objects sizes tells disks c.args.pool.now objects c.requires.pool h) in
    let last = HasLastTrees disks c.args.pool.now in
    let more : last → HasTrees Untold (Unit {0}) disks renewed = λ had. subst (λ (x : OpenPool). HasTrees Untold (Unit {0}) disks x) (sym c.renew.ensures.value) (renewed_trees (Unit {0}) disks c.args.pool.now had) in
    upgraded last sizes objects c.args.pool.now renewed (g.S.Shelf.world old) (g.S.Shelf.world c.commit_anew.new.shelf) c.renew.ensures.value (c.renew.ensures.pool sizes c.requires.pool)
    (committed_told (HasTrees Untold (Unit {0}) disks renewed) last sizes renewed true objects (g.S.Shelf.world old) (g.S.Shelf.world c.commit_anew.new.shelf) more (c.commit_anew.ensures.leads objects held))
