use Rattle.std.proofs.Common.{ℕ, List, true, inl, inr, refl, ◌∙◌, ap, subst, arith}
use Rattle.zr_shelf.proofs.Runs.{still}
use Rattle.zr_sync.specs.Pools.{IsOpen}
use Rattle.zr_sync.specs.Trees.{HasLastTrees}
use Rattle.zr_sync.specs.declared.open.OpenPool.{OpenPool}
use Rattle.zr_sync.proofs.Leading.{committed_told}
use Rattle.zr_sync.proofs.SavedRoots.{drops_seen, drops_objects, drops_same}
use Rattle.zr_sync.proofs.checkpoints.give_up_checkpoint.Goals as goal

pub commit-requires : goal.commit-requires
commit-requires g c = record { pool = c.in_ok-drop_root.ensures.pool (g.S.Shelf.sizes c.args.shelf.now) c.requires.pool }

pub returns-clause-same : goal.returns-clause-same
returns-clause-same g c = drops_same c.args.pool.now c.drop_root.new.pool c.commit.new.pool c.in_ok-drop_root.ensures.drops c.in_ok-commit.ensures.same

pub returns-clause-gives : goal.returns-clause-gives
returns-clause-gives g c = record {
  dropped = c.drop_root.new.pool;
  drops = c.in_ok-drop_root.ensures.drops;
  root = c.in_ok-commit.ensures.last;
  resets = c.in_ok-commit.ensures.ends;
  shown = c.in_ok-commit.ensures.shown;
  saved = c.in_ok-commit.ensures.saved ∙ c.in_ok-drop_root.ensures.drops.none;
}

pub returns-clause-seen : goal.returns-clause-seen
returns-clause-seen g c = λ seen.
    let old = c.args.shelf.now in
    c.in_ok-commit.ensures.seen (drops_seen c.args.pool.now c.drop_root.new.pool c.in_ok-drop_root.ensures.drops (g.S.Shelf.tells old) (g.S.Shelf.world old).now.seen seen)

pub returns-clause-stands : goal.returns-clause-stands
returns-clause-stands g c = λ seen.
    let old = c.args.shelf.now in
    c.in_ok-commit.ensures.stands (drops_seen c.args.pool.now c.drop_root.new.pool c.in_ok-drop_root.ensures.drops (g.S.Shelf.tells old) (g.S.Shelf.world old).now.seen seen)

pub returns-clause-safe : goal.returns-clause-safe
returns-clause-safe g c = λ seen.
    let old = c.args.shelf.now in
    c.in_ok-commit.ensures.safe (drops_seen c.args.pool.now c.drop_root.new.pool c.in_ok-drop_root.ensures.drops (g.S.Shelf.tells old) (g.S.Shelf.world old).now.seen seen)

pub returns-clause-txg : goal.returns-clause-txg
returns-clause-txg g c =
    let same = ap (λ (p : OpenPool). p.group.txg) c.in_ok-drop_root.ensures.drops.rest in
    let last = c.in_ok-commit.ensures.txg in
    omega (arith, same, last)

pub returns-clause-stays : goal.returns-clause-stays
returns-clause-stays g c = λ objects h.
    let old = c.args.shelf.now in
    c.in_ok-commit.ensures.stays objects
    (drops_objects c.args.pool.now c.drop_root.new.pool c.in_ok-drop_root.ensures.drops (g.S.Shelf.sizes old) (g.S.Shelf.counts old) (g.S.Shelf.tells old) (g.S.Shelf.world old) objects c.requires.pool h)

pub returns-clause-discarding : goal.returns-clause-discarding
returns-clause-discarding g c = c.in_ok-commit.ensures.same.ckpt ∙ c.in_ok-drop_root.ensures.drops.gives.others.rows.ckpt

pub returns-clause-commits : goal.returns-clause-commits
returns-clause-commits g c = λ t.
    let old = c.args.shelf.now in
    let done = c.in_ok-commit.ensures in
    record {
      dropped = c.drop_root.new.pool;
      drops = c.in_ok-drop_root.ensures.drops;
      commits = record {
        ready = c.in_ok-drop_root.ensures.pool (g.S.Shelf.sizes old) c.requires.pool;
        later = subst (λ (n : List ℕ). IsOpen n c.commit.new.pool) c.commit.ensures.sizes done.pool;
        sized = (g.S.Shelf.sound old t).sized;
        txg = done.txg;
        root = done.last;
        wrote = done.written t;
        guid = done.same.guid;
        table = done.same.table;
      };
    }

-- ---- wherever it stops

pub returns-in_err-drop_root-clause-leads : goal.returns-in_err-drop_root-clause-leads
returns-in_err-drop_root-clause-leads g c = λ objects h. inl (still (g.S.Shelf.world c.args.shelf.now) (g.S.Shelf.world c.args.shelf.now) refl)

pub returns-in_err-commit-clause-leads : goal.returns-in_err-commit-clause-leads
returns-in_err-commit-clause-leads g c = λ objects h.
    let old = c.args.shelf.now in
    let dropped = c.drop_root.new.pool in
    let first = c.in_ok-drop_root.ensures in
    let leads = c.commit.ensures.leads objects (drops_objects c.args.pool.now dropped first.drops (g.S.Shelf.sizes old) (g.S.Shelf.counts old) (g.S.Shelf.tells old) (g.S.Shelf.world old) objects c.requires.pool h) in
    inr (dropped, first.pool (g.S.Shelf.sizes old) c.requires.pool, first.drops, committed_told (HasLastTrees (g.S.Shelf.world old).now.seen dropped) ⊥ (g.S.Shelf.sizes old) dropped true objects (g.S.Shelf.world old) (g.S.Shelf.world c.commit.new.shelf) (λ never. absurd never) leads)

pub returns-clause-leads : goal.returns-clause-leads
returns-clause-leads g c = λ objects h.
    let old = c.args.shelf.now in
    let dropped = c.drop_root.new.pool in
    let first = c.in_ok-drop_root.ensures in
    let leads = c.commit.ensures.leads objects (drops_objects c.args.pool.now dropped first.drops (g.S.Shelf.sizes old) (g.S.Shelf.counts old) (g.S.Shelf.tells old) (g.S.Shelf.world old) objects c.requires.pool h) in
    inr (dropped, first.pool (g.S.Shelf.sizes old) c.requires.pool, first.drops, committed_told (HasLastTrees (g.S.Shelf.world old).now.seen dropped) ⊥ (g.S.Shelf.sizes old) dropped true objects (g.S.Shelf.world old) (g.S.Shelf.world c.commit.new.shelf) (λ never. absurd never) leads)
