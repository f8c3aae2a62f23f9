use Rattle.std.proofs.Common.{ℕ, List, Option, true, false, inl, inr, ◌∙◌, ap, subst, arith}
use Rattle.std.specs.Prelude.{IfSome}
use Rattle.zr_base.specs.declared.space.CkptPart.TheVariants.{Held}
use Rattle.zr_base.specs.declared.space.DevRow.{DevRow}
use Rattle.zr_label.specs.declared.root.Uber.{Uber}
use Rattle.zr_rules.specs.Places.{is_leaving}
use Rattle.zr_shelf.specs.Moments.{World}
use Rattle.zr_sync.specs.Checkpoints.{CommitsOn}
use Rattle.zr_sync.specs.Commits.{IsNextRoot, IsShownFrom}
use Rattle.zr_sync.specs.Leads.{CommitsObjects}
use Rattle.zr_sync.specs.Pools.{IsOpen}
use Rattle.zr_sync.specs.Trees.{HasLastTrees, HasTrees}
use Rattle.zr_sync.specs.Trees.Stage.{Had, Untold}
use Rattle.zr_sync.specs.declared.open.OpenPool.{OpenPool}
use Rattle.zr_sync.proofs.Disks.{works_more}
use Rattle.zr_sync.proofs.Emptied.{emptied}
use Rattle.zr_sync.proofs.Ending.{ends_by}
use Rattle.zr_sync.proofs.Groups.{ends_row}
use Rattle.zr_sync.proofs.Leading.{committed_told}
use Rattle.zr_sync.proofs.Retelling.{trees_told}
use Rattle.zr_sync.proofs.SavedRoots.{saves_seen, saves_objects, saves_same}
use Rattle.zr_sync.proofs.checkpoints.checkpoint.Goals as goal

pub save_root-requires-clause-some : goal.save_root-requires-clause-some
save_root-requires-clause-some g c = let first = c.requires.pool.first in let txg = c.in_ok-commit.ensures.txg in omega (arith, first, txg)

pub save_root-requires-clause-stays : goal.save_root-requires-clause-stays
save_root-requires-clause-stays g c = λ d. ap (λ (r : DevRow). is_leaving r.state) (ends_row false c.args.pool.now.space c.commit.new.pool.space c.in_ok-commit.ensures.ends d) ∙ c.requires.stays d

pub commit_anew-requires : goal.commit_anew-requires
commit_anew-requires g c = record { pool = c.in_ok-save_root.ensures.pool (g.S.Shelf.sizes c.commit.new.shelf) c.in_ok-commit.ensures.pool }

pub returns-clause-disks : goal.returns-clause-disks
returns-clause-disks g c = λ t.
    works_more (g.S.Shelf.world c.args.shelf.now) (g.S.Shelf.world c.commit.new.shelf) (g.S.Shelf.world c.commit_anew.new.shelf) (c.commit.ensures.disks t) (c.commit_anew.ensures.disks (c.commit.ensures.told t))

pub returns-in_err-commit_anew-clause-disks : goal.returns-in_err-commit_anew-clause-disks
returns-in_err-commit_anew-clause-disks g c = λ t.
    works_more (g.S.Shelf.world c.args.shelf.now) (g.S.Shelf.world c.commit.new.shelf) (g.S.Shelf.world c.commit_anew.new.shelf) (c.commit.ensures.disks t) (c.commit_anew.ensures.disks (c.commit.ensures.told t))

pub returns-clause-same : goal.returns-clause-same
returns-clause-same g c = saves_same c.args.pool.now c.commit.new.pool c.save_root.new.pool c.commit_anew.new.pool c.in_ok-commit.ensures.same c.in_ok-save_root.ensures.saves c.in_ok-commit_anew.ensures.same

pub returns-clause-takes : goal.returns-clause-takes
returns-clause-takes g c =
    let held = c.save_root.new.pool in
    let now = g.S.Shelf.world c.commit_anew.new.shelf in
    record {
      ended = c.commit.new.pool;
      mid = g.S.Shelf.world c.commit.new.shelf;
      root = c.in_ok-commit.ensures.last;
      ends = c.in_ok-commit.ensures.ends;
      shown = c.in_ok-commit.ensures.shown;
      held = held;
      saves = c.in_ok-save_root.ensures.saves;
      next = c.in_ok-commit_anew.ensures.last;
      resets = c.in_ok-commit_anew.ensures.ends;
      next_shown = λ t.
          subst (λ (n : List ℕ). IfSome c.commit_anew.new.pool.last (λ (u : Uber). (before : World) × IsShownFrom n held u before now)) c.commit.ensures.sizes
          (c.in_ok-commit_anew.ensures.shown (c.commit.ensures.told t));
      saved = c.in_ok-commit_anew.ensures.saved;
    }

pub returns-clause-seen : goal.returns-clause-seen
returns-clause-seen g c = λ seen.
    let mid = c.commit.new.shelf in
    c.in_ok-commit_anew.ensures.seen (saves_seen c.commit.new.pool c.save_root.new.pool c.in_ok-save_root.ensures.saves (g.S.Shelf.tells mid) (g.S.Shelf.world mid).now.seen (c.in_ok-commit.ensures.seen seen))

pub returns-clause-stands : goal.returns-clause-stands
returns-clause-stands g c = λ seen.
    let mid = c.commit.new.shelf in
    c.in_ok-commit_anew.ensures.stands (saves_seen c.commit.new.pool c.save_root.new.pool c.in_ok-save_root.ensures.saves (g.S.Shelf.tells mid) (g.S.Shelf.world mid).now.seen (c.in_ok-commit.ensures.seen seen))

pub returns-clause-safe : goal.returns-clause-safe
returns-clause-safe g c = λ seen.
    let mid = c.commit.new.shelf in
    c.in_ok-commit_anew.ensures.safe (saves_seen c.commit.new.pool c.save_root.new.pool c.in_ok-save_root.ensures.saves (g.S.Shelf.tells mid) (g.S.Shelf.world mid).now.seen (c.in_ok-commit.ensures.seen seen))

pub returns-clause-trees : goal.returns-clause-trees
returns-clause-trees g c = λ trees.
    let mid = c.commit.new.shelf in
    c.in_ok-commit_anew.ensures.trees (emptied (g.S.Shelf.tells mid) (g.S.Shelf.world mid).now.seen c.commit.new.pool c.save_root.new.pool c.in_ok-save_root.ensures.saves (c.in_ok-commit.ensures.trees trees))

pub returns-clause-moves : goal.returns-clause-moves
returns-clause-moves g c = λ trees.
    let mid = c.commit.new.shelf in
    c.in_ok-commit_anew.ensures.moves (emptied (g.S.Shelf.tells mid) (g.S.Shelf.world mid).now.seen c.commit.new.pool c.save_root.new.pool c.in_ok-save_root.ensures.saves (c.in_ok-commit.ensures.trees trees))

pub returns-clause-txg : goal.returns-clause-txg
returns-clause-txg g c =
    let first = c.in_ok-commit.ensures.txg in
    let held = ap (λ (p : OpenPool). p.group.txg) c.in_ok-save_root.ensures.saves.rest in
    let last = c.in_ok-commit_anew.ensures.txg in
    omega (arith, first, held, last)

pub returns-clause-stays : goal.returns-clause-stays
returns-clause-stays g c = λ objects h.
    let mid = c.commit.new.shelf in
    c.in_ok-commit_anew.ensures.stays objects
    (saves_objects c.commit.new.pool c.save_root.new.pool c.in_ok-save_root.ensures.saves (g.S.Shelf.sizes mid) (g.S.Shelf.counts mid) (g.S.Shelf.tells mid) (g.S.Shelf.world mid) objects c.in_ok-commit.ensures.pool (c.in_ok-commit.ensures.stays objects h))

pub returns-clause-held : goal.returns-clause-held
returns-clause-held g c =
    let saves = c.in_ok-save_root.ensures.saves in
    let next : IsNextRoot c.args.pool.now false saves.root = subst (λ (o : Option Uber). IfSome o (IsNextRoot c.args.pool.now false)) saves.last c.in_ok-commit.ensures.last in
    c.in_ok-commit_anew.ensures.same.ckpt ∙ (saves.holds.ckpt_is ∙ ap (λ (n : ℕ). Held n) next.txg)

pub returns-clause-commits : goal.returns-clause-commits
returns-clause-commits g c = λ t.
    let old = c.args.shelf.now in
    let mid = c.commit.new.shelf in
    let new = c.commit_anew.new.shelf in
    let told = c.commit.ensures.told t in
    let first = c.in_ok-commit.ensures in
    let second = c.in_ok-commit_anew.ensures in
    let held = c.save_root.new.pool in
    let again : CommitsOn (g.S.Shelf.sizes mid) true (g.S.Shelf.world mid) (g.S.Shelf.world new) held c.commit_anew.new.pool =
    record {
      ready = c.in_ok-save_root.ensures.pool (g.S.Shelf.sizes mid) first.pool;
      later = subst (λ (n : List ℕ). IsOpen n c.commit_anew.new.pool) c.commit_anew.ensures.sizes second.pool;
      sized = (g.S.Shelf.sound mid told).sized;
      txg = second.txg;
      root = second.last;
      wrote = second.written told;
      guid = second.same.guid;
      table = second.same.table;
    } in
    record {
      ended = c.commit.new.pool;
      mid = g.S.Shelf.world mid;
      first = record {
        ready = c.requires.pool;
        later = subst (λ (n : List ℕ). IsOpen n c.commit.new.pool) c.commit.ensures.sizes first.pool;
        sized = (g.S.Shelf.sound old t).sized;
        txg = first.txg;
        root = first.last;
        wrote = first.written t;
        guid = first.same.guid;
        table = first.same.table;
      };
      held = held;
      saves = c.in_ok-save_root.ensures.saves;
      second = subst (λ (n : List ℕ). CommitsOn n true (g.S.Shelf.world mid) (g.S.Shelf.world new) held c.commit_anew.new.pool) c.commit.ensures.sizes again;
    }

-- ---- wherever it stops

pub returns-in_err-commit-clause-leads : goal.returns-in_err-commit-clause-leads
returns-in_err-commit-clause-leads g c = λ objects h. inl (c.commit.ensures.leads objects h)

pub returns-in_err-save_root-clause-leads : goal.returns-in_err-save_root-clause-leads
returns-in_err-save_root-clause-leads g c = λ objects h. inl (c.commit.ensures.leads objects h)

pub returns-in_err-commit_anew-clause-leads : goal.returns-in_err-commit_anew-clause-leads
returns-in_err-commit_anew-clause-leads g c = λ objects h.
    let old = c.args.shelf.now in
    let mid = c.commit.new.shelf in
    let new = c.commit_anew.new.shelf in
    let held = c.save_root.new.pool in
    let done = c.in_ok-commit.ensures in
    let saves = c.in_ok-save_root.ensures.saves in
    let behind = done.stays objects h in
    let kept = saves_objects c.commit.new.pool held saves (g.S.Shelf.sizes mid) (g.S.Shelf.counts mid) (g.S.Shelf.tells mid) (g.S.Shelf.world mid) objects done.pool behind in
    let disks = (g.S.Shelf.world mid).now.seen in
    let last = HasLastTrees (g.S.Shelf.world old).now.seen c.args.pool.now in
    let more : last → HasTrees Untold (Unit {0}) disks held = λ had.
    let trees = trees_told Had (Unit {0}) (g.S.Shelf.tells old) (g.S.Shelf.world old).now.seen c.args.pool.now h.held.told had in
    trees_told Untold (g.S.Shelf.tells mid) (Unit {0}) disks held tt (emptied (g.S.Shelf.tells mid) disks c.commit.new.pool held saves (done.trees trees)) in
    inr (record {
      ended = c.commit.new.pool;
      mid = g.S.Shelf.world mid;
      first = ends_by c.commit.ensures.sizes done.pool done.same done.last done.txg done.written done.ends done.empty done.stands done.safe done.trees done.moves done.copies h behind;
      held = held;
      ready = c.in_ok-save_root.ensures.pool (g.S.Shelf.sizes old) (subst (λ (n : List ℕ). IsOpen n c.commit.new.pool) c.commit.ensures.sizes done.pool);
      saves = saves;
      second = subst (λ (n : List ℕ). CommitsObjects last n held true objects (g.S.Shelf.world mid) (g.S.Shelf.world new)) c.commit.ensures.sizes
          (committed_told (HasTrees Untold (Unit {0}) disks held) last (g.S.Shelf.sizes mid) held true objects (g.S.Shelf.world mid) (g.S.Shelf.world new) more (c.commit_anew.ensures.leads objects kept));
    })

pub returns-clause-leads : goal.returns-clause-leads
returns-clause-leads g c = λ objects h.
    let old = c.args.shelf.now in
    let mid = c.commit.new.shelf in
    let new = c.commit_anew.new.shelf in
    let held = c.save_root.new.pool in
    let done = c.in_ok-commit.ensures in
    let saves = c.in_ok-save_root.ensures.saves in
    let behind = done.stays objects h in
    let kept = saves_objects c.commit.new.pool held saves (g.S.Shelf.sizes mid) (g.S.Shelf.counts mid) (g.S.Shelf.tells mid) (g.S.Shelf.world mid) objects done.pool behind in
    let disks = (g.S.Shelf.world mid).now.seen in
    let last = HasLastTrees (g.S.Shelf.world old).now.seen c.args.pool.now in
    let more : last → HasTrees Untold (Unit {0}) disks held = λ had.
    let trees = trees_told Had (Unit {0}) (g.S.Shelf.tells old) (g.S.Shelf.world old).now.seen c.args.pool.now h.held.told had in
    trees_told Untold (g.S.Shelf.tells mid) (Unit {0}) disks held tt (emptied (g.S.Shelf.tells mid) disks c.commit.new.pool held saves (done.trees trees)) in
    inr (record {
      ended = c.commit.new.pool;
      mid = g.S.Shelf.world mid;
      first = ends_by c.commit.ensures.sizes done.pool done.same done.last done.txg done.written done.ends done.empty done.stands done.safe done.trees done.moves done.copies h behind;
      held = held;
      ready = c.in_ok-save_root.ensures.pool (g.S.Shelf.sizes old) (subst (λ (n : List ℕ). IsOpen n c.commit.new.pool) c.commit.ensures.sizes done.pool);
      saves = saves;
      second = subst (λ (n : List ℕ). CommitsObjects last n held true objects (g.S.Shelf.world mid) (g.S.Shelf.world new)) c.commit.ensures.sizes
          (committed_told (HasTrees Untold (Unit {0}) disks held) last (g.S.Shelf.sizes mid) held true objects (g.S.Shelf.world mid) (g.S.Shelf.world new) more (c.commit_anew.ensures.leads objects kept));
    })
