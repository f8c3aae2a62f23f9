use Rattle.std.proofs.Common.{ℕ, ◌+◌, ◌∙◌, refl, ap, subst}
use Rattle.zr_base.specs.Trees.{IsHeight}
use Rattle.zr_vdev.proofs.Alike.{commits_no_copy, copies_stay}
use Rattle.zr_sync.proofs.Groups.{ended}
use Rattle.zr_sync.proofs.ends.end_group.Goals as goal

pub returns-clause-pool : goal.returns-clause-pool
returns-clause-pool c = λ sizes o.
    ended sizes c.args.reset c.args.pool.now _ c.args.root c.height.result o c.requires.next c.requires.lawful
    (subst (λ (n : ℕ). IsHeight n c.height.result) c.div_ceil.ensures c.height.ensures.height)
    c.commit_done.ensures.commits
    (c.new.ensures.txg ∙ ap (λ (n : ℕ). n + 1) c.txg-txg.ensures)
    c.new.ensures.empty
    refl
    refl

pub returns-clause-tall : goal.returns-clause-tall
returns-clause-tall c = (refl, subst (λ (n : ℕ). IsHeight n c.height.result) c.div_ceil.ensures c.height.ensures.height)

pub returns-clause-copies : goal.returns-clause-copies
returns-clause-copies c = λ disks. copies_stay disks c.args.pool.now.table.slots c.args.pool.now.space _ (commits_no_copy c.args.reset c.args.pool.now.space _ c.commit_done.ensures.commits)
